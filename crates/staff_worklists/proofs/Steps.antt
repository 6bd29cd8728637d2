-- What a change at one rank of one shelf leaves at any rank of any shelf.
use Rattle.std.proofs.Common.{◌≡◌, ℕ, List, Bool, true, false, cond, [], if◌then◌else◌, ◌&&◌, Option, Some, None, refl, sym, ap, subst, ◌∙◌, ⊎_elim}
use Rattle.std.specs.Ordering.{is_eq, nat_cmp}
use Rattle.std.specs.Map.{lookup}
use Rattle.std.specs.Cmp.Lexicographic.{slice_cmp, bytes_decides}
use Rattle.std.proofs.Common.{◌+◌, ◌<◌, ◌∷◌, ◌++◌, ◌||◌, length, get_or, drop}
use Rattle.std.proofs.lemmas.List.{drop_more}
use Rattle.std.proofs.lemmas.List.Folds.{list_any-append}
use Rattle.std.specs.Str.{bytes_eq}
use Rattle.std.specs.Global.{Vec}
use Rattle.std.specs.BTreeMap as tree
use Rattle.std.specs.BTreeMap.{BTreeMap}
use Rattle.std.specs.HashMap as hash
use Rattle.std.specs.HashMap.{HashMap}
use Rattle.std.proofs.lemmas.Bool.{cases_Bool, false≢true}
use Rattle.staff_worklists.specs.SameShelf.{shelf_eq, shelf_decides}
use Rattle.staff_worklists.specs.declared.worklists.Listed.{Listed}
use Rattle.staff_worklists.specs.declared.worklists.Shelf.{Shelf}
use Rattle.staff_worklists.specs.Standing.{shelf_at, at_rank, on_shelf, item_in, ArePlaced, begins_with, is_among}
use Rattle.std.specs.Option.{IsSome}
use Rattle.std.proofs.Common.{Result, Ok, Err, OnOk, OnErr}
use Rattle.staff_worklists.proofs.Lookups.{tree_updates, shelf_updates}

module _ {S : Type 0} (old new : HashMap Shelf (BTreeMap (Vec ℕ) Listed) S) (shelf : Shelf) (rank : List ℕ) (w : Option Listed) where
  -- a shelf that is there is written at one rank
  pub changed : (items after : BTreeMap (Vec ℕ) Listed) → Some items ≡ shelf_at old shelf
      → hash.UpdatesBy shelf_eq (shelf_eq shelf) old new (Some after)
      → tree.UpdatesBy (λ x y. slice_cmp nat_cmp x.items y.items) (λ k. slice_cmp nat_cmp rank k.items) items after w
      → (q : Shelf) (r : List ℕ) → item_in new q r ≡ (if shelf_eq shelf q && bytes_eq rank r then w else item_in old q r)
  changed items after found outer inner q r =
      ap (λ o. on_shelf o r) (shelf_updates shelf old new (Some after) outer q)
      ∙ ⊎_elim
      (λ y. rw y (tree_updates (λ k. k.items) rank items after w inner r ∙ ap (λ o. cond (bytes_eq rank r) w (on_shelf o r)) (found ∙ ap (λ l. shelf_at old l) ((shelf_decides shelf q).0 y))))
      (λ n. rw n refl)
      (cases_Bool (shelf_eq shelf q))

  -- a new shelf with one item
  pub begun : (none items : BTreeMap (Vec ℕ) Listed) → none.entries ≡ [] → shelf_at old shelf ≡ None
      → hash.UpdatesBy shelf_eq (shelf_eq shelf) old new (Some items)
      → tree.UpdatesBy (λ x y. slice_cmp nat_cmp x.items y.items) (λ k. slice_cmp nat_cmp rank k.items) none items w
      → (q : Shelf) (r : List ℕ) → item_in new q r ≡ (if shelf_eq shelf q && bytes_eq rank r then w else item_in old q r)
  begun none items empty free outer inner q r =
      ap (λ o. on_shelf o r) (shelf_updates shelf old new (Some items) outer q)
      ∙ ⊎_elim
      (λ y. rw y (tree_updates (λ k. k.items) rank none items w inner r ∙ ap (λ es. cond (bytes_eq rank r) w (lookup (λ k. is_eq (slice_cmp nat_cmp r k.items)) es)) empty ∙ ap (λ o. cond (bytes_eq rank r) w (on_shelf o r)) (sym free ∙ ap (λ l. shelf_at old l) ((shelf_decides shelf q).0 y))))
      (λ n. rw n refl)
      (cases_Bool (shelf_eq shelf q))

-- a shelf that is lent and not written stays
pub unwritten : {S : Type 0} (old new : HashMap Shelf (BTreeMap (Vec ℕ) Listed) S) (shelf : Shelf) (items after : BTreeMap (Vec ℕ) Listed)
    → Some items ≡ shelf_at old shelf → after.entries ≡ items.entries
    → hash.UpdatesBy shelf_eq (shelf_eq shelf) old new (Some after)
    → (q : Shelf) (r : List ℕ) → item_in new q r ≡ item_in old q r
unwritten old new shelf items after found same outer q r =
    ap (λ o. on_shelf o r) (shelf_updates shelf old new (Some after) outer q)
    ∙ ⊎_elim
    (λ y. rw y (ap (λ es. lookup (λ k. is_eq (slice_cmp nat_cmp r k.items)) es) same ∙ ap (λ o. on_shelf o r) (found ∙ ap (λ l. shelf_at old l) ((shelf_decides shelf q).0 y))))
    (λ n. rw n refl)
    (cases_Bool (shelf_eq shelf q))

-- ---- places

and_false : (b : Bool) → (b && false) ≡ false
and_false true = refl
and_false false = refl

nothing : {X : Type 0} (o : Option X) → (IsSome o → ⊥) → o ≡ None
nothing None never = refl
nothing (Some x) never = absurd (never refl)

none_is_none : IsSome {T = Listed} None → ⊥
none_is_none h = cc

-- taken off one shelf, where none of the others has it
off_one : {X : Type 0} (on here : Bool) (old new : Option X) → new ≡ (if on && here then None else old) → (here ≡ true → on ≡ false → old ≡ None) → new ≡ (if here then None else old)
off_one true true old new e f = e
off_one true false old new e f = e
off_one false true old new e f = e ∙ f refl refl
off_one false false old new e f = e

-- an item doesn't stand on a shelf that its place doesn't name
stands_not : {S : Type 0} (shelves : HashMap Shelf (BTreeMap (Vec ℕ) Listed) S) (places : BTreeMap (Vec ℕ) Shelf) (shelf q : Shelf) (r : List ℕ)
    → ArePlaced shelves places → Some shelf ≡ at_rank places r → shelf_eq shelf q ≡ false → item_in shelves q r ≡ None
stands_not shelves places shelf q r placed here apart =
    nothing (item_in shelves q r) (λ some. let e = here ∙ placed q r some in false≢true (sym apart ∙ (shelf_decides shelf q).1 (some_same e)))
  where
    some_same : Some shelf ≡ Some q → shelf ≡ q
    some_same e = cc

-- the item of a rank is taken off the shelf that its place names, and so stands nowhere
pub dropped : {S : Type 0} (old new : HashMap Shelf (BTreeMap (Vec ℕ) Listed) S) (places : BTreeMap (Vec ℕ) Shelf) (shelf : Shelf) (rank : List ℕ)
    → ArePlaced old places → Some shelf ≡ at_rank places rank
    → ((q : Shelf) (r : List ℕ) → item_in new q r ≡ (if shelf_eq shelf q && bytes_eq rank r then None else item_in old q r))
    → (q : Shelf) (r : List ℕ) → item_in new q r ≡ (if bytes_eq rank r then None else item_in old q r)
dropped old new places shelf rank placed here taken q r =
    off_one (shelf_eq shelf q) (bytes_eq rank r) (item_in old q r) (item_in new q r) (taken q r)
    (λ y off. stands_not old places shelf q r placed (here ∙ ap (λ l. at_rank places l) ((bytes_decides rank r).0 y)) off)

-- the places stay right where one rank's place and item change together
pub placed_after : {S : Type 0} (old new : HashMap Shelf (BTreeMap (Vec ℕ) Listed) S) (places after : BTreeMap (Vec ℕ) Shelf) (rank : List ℕ) (p : Option Shelf)
    → ArePlaced old places
    → ((r : List ℕ) → at_rank after r ≡ cond (bytes_eq rank r) p (at_rank places r))
    → ((q : Shelf) (r : List ℕ) → bytes_eq rank r ≡ false → item_in new q r ≡ item_in old q r)
    → ((q : Shelf) (r : List ℕ) → bytes_eq rank r ≡ true → IsSome (item_in new q r) → p ≡ Some q)
    → ArePlaced new after
placed_after old new places after rank p placed updated same given q r some =
    updated r ∙ ⊎_elim
    (λ y. rw y (given q r y some))
    (λ n. rw n (placed q r (subst (λ o. IsSome o) (same q r n) some)))
    (cases_Bool (bytes_eq rank r))

-- nothing stands at the rank, and its place is forgotten
pub placed_dropped : {S : Type 0} (old new : HashMap Shelf (BTreeMap (Vec ℕ) Listed) S) (places after : BTreeMap (Vec ℕ) Shelf) (rank : List ℕ)
    → ArePlaced old places
    → ((r : List ℕ) → at_rank after r ≡ cond (bytes_eq rank r) None (at_rank places r))
    → ((q : Shelf) (r : List ℕ) → item_in new q r ≡ (if bytes_eq rank r then None else item_in old q r))
    → ArePlaced new after
placed_dropped old new places after rank placed updated gone =
    placed_after old new places after rank None placed updated
    (λ q r n. gone q r ∙ rw n refl)
    (λ q r y some. let e : item_in new q r ≡ None = gone q r ∙ rw y refl in absurd (none_is_none (subst (λ o. IsSome o) e some)))

-- an item that stood nowhere stands on the shelf that its place names
pub placed_put : {S : Type 0} (old new : HashMap Shelf (BTreeMap (Vec ℕ) Listed) S) (places after : BTreeMap (Vec ℕ) Shelf) (rank : List ℕ) (shelf p : Shelf) (w : Option Listed)
    → ArePlaced old places → p ≡ shelf
    → ((q : Shelf) → item_in old q rank ≡ None)
    → ((r : List ℕ) → at_rank after r ≡ cond (bytes_eq rank r) (Some p) (at_rank places r))
    → ((q : Shelf) (r : List ℕ) → item_in new q r ≡ (if shelf_eq shelf q && bytes_eq rank r then w else item_in old q r))
    → ArePlaced new after
placed_put old new places after rank shelf p w placed named free updated put =
    placed_after old new places after rank (Some p) placed updated
    (λ q r n. put q r ∙ rw (n, and_false (shelf_eq shelf q)) refl)
    (λ q r y some. ⊎_elim
    (λ on. ap (λ l. Some l) (named ∙ (shelf_decides shelf q).0 on))
    (λ off. let e : item_in new q r ≡ None = put q r ∙ rw off (ap (λ l. item_in old q l) (sym ((bytes_decides rank r).0 y)) ∙ free q) in absurd (none_is_none (subst (λ o. IsSome o) e some)))
    (cases_Bool (shelf_eq shelf q)))

-- nothing was put, and nothing stands at the rank
pub placed_kept : {S : Type 0} (old new : HashMap Shelf (BTreeMap (Vec ℕ) Listed) S) (places after : BTreeMap (Vec ℕ) Shelf) (rank : List ℕ) (p : Option Shelf)
    → ArePlaced old places
    → ((q : Shelf) → item_in old q rank ≡ None)
    → ((r : List ℕ) → at_rank after r ≡ cond (bytes_eq rank r) p (at_rank places r))
    → ((q : Shelf) (r : List ℕ) → item_in new q r ≡ item_in old q r)
    → ArePlaced new after
placed_kept old new places after rank p placed free updated same =
    placed_after old new places after rank p placed updated
    (λ q r n. same q r)
    (λ q r y some. absurd (none_is_none (subst (λ o. IsSome o) (same q r ∙ ap (λ l. item_in old q l) (sym ((bytes_decides rank r).0 y)) ∙ free q) some)))

-- what holds however a call ends
pub on_err : {T E : Type 0} {P : Type 0} (r : Result T E) → P → OnErr r P
on_err (Ok x) p = tt
on_err (Err e) p = p

-- the places stay right however putting the item ends
pub placed_tried : {S : Type 0} (old new : HashMap Shelf (BTreeMap (Vec ℕ) Listed) S) (places after : BTreeMap (Vec ℕ) Shelf) (rank : List ℕ) (shelf p : Shelf) (w : Option Listed) {T E : Type 0} (r : Result T E)
    → ArePlaced old places → p ≡ shelf
    → ((q : Shelf) → item_in old q rank ≡ None)
    → ((r : List ℕ) → at_rank after r ≡ cond (bytes_eq rank r) (Some p) (at_rank places r))
    → OnOk r ((q : Shelf) (r : List ℕ) → item_in new q r ≡ (if shelf_eq shelf q && bytes_eq rank r then w else item_in old q r))
    → OnErr r ((q : Shelf) (r : List ℕ) → item_in new q r ≡ item_in old q r)
    → ArePlaced new after
placed_tried old new places after rank shelf p w (Ok x) placed named free updated put same = placed_put old new places after rank shelf p w placed named free updated put
placed_tried old new places after rank shelf p w (Err e) placed named free updated put same = placed_kept old new places after rank (Some p) placed free updated same

dropped_more : {X : Type 0} (b rest : Bool) (old new : Option X) → new ≡ (if b then None else old) → (if rest then None else new) ≡ (if b || rest then None else old)
dropped_more true true old new e = refl
dropped_more true false old new e = e
dropped_more false true old new e = refl
dropped_more false false old new e = e

-- one more item is taken off
pub one_dropped : {S : Type 0} (first old new : HashMap Shelf (BTreeMap (Vec ℕ) Listed) S) (ranks : List (Vec ℕ)) (i : ℕ) (x : Vec ℕ) → i < length ranks → x ≡ get_or ranks i x
    → ((q : Shelf) (r : List ℕ) → (if is_among (drop i ranks) r then None else item_in old q r) ≡ (if is_among ranks r then None else item_in first q r))
    → ((q : Shelf) (r : List ℕ) → item_in new q r ≡ (if bytes_eq x.items r then None else item_in old q r))
    → (q : Shelf) (r : List ℕ) → (if is_among (drop (i + 1) ranks) r then None else item_in new q r) ≡ (if is_among ranks r then None else item_in first q r)
one_dropped first old new ranks i x lt is left taken q r =
    dropped_more (bytes_eq x.items r) (is_among (drop (i + 1) ranks) r) (item_in old q r) (item_in new q r) (taken q r)
    ∙ ap (λ (b : Bool). if b then None else item_in old q r) (sym step) ∙ left q r
  where
    step : is_among (drop i ranks) r ≡ (bytes_eq x.items r || is_among (drop (i + 1) ranks) r)
    step = ap (λ (l : List (Vec ℕ)). is_among l r) (drop_more ranks i x lt) ∙ ap (λ (k : Vec ℕ). bytes_eq k.items r || is_among (drop (i + 1) ranks) r) (sym is)

-- another root's rank is none of the ranks of this root
pub not_among : (root : ℕ) (ranks : List (Vec ℕ)) (k : Vec ℕ) → begins_with root k.items ≡ true
    → ((r : List ℕ) → begins_with root r ≡ false → is_among ranks r ≡ false) → (r : List ℕ) → begins_with root r ≡ false → is_among (ranks ++ k ∷ []) r ≡ false
not_among root ranks k begins none r other =
    list_any-append (λ x. bytes_eq x.items r) ranks (k ∷ [])
    ∙ ap (λ b. b || (bytes_eq k.items r || false)) (none r other)
    ∙ ap (λ b. b || false) differs
  where
    differs : bytes_eq k.items r ≡ false
    differs = ⊎_elim (λ y. absurd (false≢true (sym other ∙ ap (begins_with root) (sym ((bytes_decides k.items r).0 y)) ∙ begins))) (λ n. n) (cases_Bool (bytes_eq k.items r))
