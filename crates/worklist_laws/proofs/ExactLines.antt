-- Of shelves that hold exactly the open manual items, the worklist of a person is exact.
use Rattle.std.proofs.Common.{◌≡◌, ◌⊎◌, inl, inr, ℕ, zero, suc, Bool, true, false, cond, ◌||◌, map, List, [], ◌∷◌, Option, Some, None, refl, ap, sym, ◌∙◌, subst}
use Rattle.std.specs.Prelude.{slice_get, bytes_eq}
use Rattle.std.specs.Option.{option_or}
use Rattle.std.specs.List.{Contains, IsDistinct, list_any}
use Rattle.std.specs.List.Sorted.{IsStrictlySortedBy}
use Rattle.std.specs.Map.{lookup, keys_of}
use Rattle.std.specs.Ordering.{nat_cmp}
use Rattle.std.specs.Cmp.Lexicographic.{slice_cmp, nat_list_eq_equiv}
use Rattle.std.proofs.Math.Path.{fun_ext}
use Rattle.std.proofs.lemmas.Map.Entries.{place_from_lookup, lookup_from_place}
use Rattle.std.proofs.lemmas.Map.Keys.{IsDistinct-from_sorted}
use Rattle.std.proofs.lemmas.Map.Text.{is_eq-slice_cmp}
use Rattle.std.proofs.lemmas.Option.{none-some, slice_get_read, slice_get_within, get_or_from_slice_get}
use Rattle.std.proofs.lemmas.Slice.Eq.{bytes_eq-Decides}
use Rattle.flow_core.specs.Answers.{IsListed}
use Rattle.flow_core.specs.Shelving.{rank_now, stands}
use Rattle.flow_core.specs.declared.state.Core.{Core}
use Rattle.flow_model.specs.declared.graphs.PersonDef.{PersonDef}
use Rattle.flow_model.specs.declared.instances.ItemLine.{ItemLine}
use Rattle.flow_model.specs.declared.instances.Path.{Path}
use Rattle.flow_model.specs.declared.instances.WorkLine.{WorkLine}
use Rattle.staff_worklists.proofs.Seen.{seen_where_allowed}
use Rattle.staff_worklists.specs.Listing.{seen_on, line_of, IsWorklist}
use Rattle.staff_worklists.specs.Shelves.{shelf_for, shelves_of, sees}
use Rattle.staff_worklists.specs.Standing.{listed_at}
use Rattle.staff_worklists.specs.SameShelf.{shelf_eq, shelf_decides}
use Rattle.staff_worklists.specs.declared.worklists.Listed.{Listed}
use Rattle.staff_worklists.specs.declared.worklists.Shelf.{Shelf}
use Rattle.worklist_laws.proofs.OpenLines.{named_ranks, open_named}
use Rattle.worklist_laws.proofs.Shelves.{shelf_tells, listed_is}
use Rattle.worklist_laws.specs.Exact.{IsForPerson, IsExact, ListsExactly}
use Rattle.worklist_laws.specs.Shelved.{open_line, listed_as, IsShelved}

-- ---- lists

-- an element of a list, at a place
abbrev Has : {X : Type 0} → List X → X → Type 0
Has xs x = (k : ℕ) × (slice_get xs k ≡ Some x)

contains : {X : Type 0} (xs : List X) (x : X) → Has xs x → Contains xs x
contains xs x has = (has.0, slice_get_within xs has.0 x has.1, get_or_from_slice_get xs has.0 x x has.1)

has_it : {X : Type 0} (xs : List X) (x : X) → Contains xs x → Has xs x
has_it xs x there = (there.0, slice_get_read xs _ there.0 x refl there.1 (sym there.2))

has_later : {X : Type 0} (y : X) (xs : List X) (x : X) → Has xs x → Has (y ∷ xs) x
has_later y xs x has = (suc has.0, has.1)

map_has : {X Y : Type 0} (f : X → Y) (xs : List X) (x : X) (k : ℕ) → slice_get xs k ≡ Some x → slice_get (map f xs) k ≡ Some (f x)
map_has f [] x k is = absurd (none-some x is)
map_has f (y ∷ xs) x zero is = let same : y ≡ x = cc in ap (λ z. Some (f z)) same
map_has f (y ∷ xs) x (suc k) is = map_has f xs x k is

map_found : {X Y : Type 0} (f : X → Y) (xs : List X) (y : Y) (k : ℕ) → slice_get (map f xs) k ≡ Some y → (x : X) × (slice_get xs k ≡ Some x) × (f x ≡ y)
map_found f [] y k is = absurd (none-some y is)
map_found f (x ∷ xs) y zero is = (x, refl, (let same : f x ≡ y = cc in same))
map_found f (x ∷ xs) y (suc k) is = map_found f xs y k is

any_has : {X : Type 0} (p : X → Bool) (xs : List X) (x : X) (k : ℕ) → slice_get xs k ≡ Some x → p x ≡ true → list_any p xs ≡ true
any_has p [] x k is passes = absurd (none-some x is)
any_has p (y ∷ xs) x zero is passes = let same : y ≡ x = cc in ap (λ b. b || list_any p xs) (ap p same ∙ passes)
any_has p (y ∷ xs) x (suc k) is passes = by (p y) (any_has p xs x k is passes)
  where
    by : (b : Bool) → list_any p xs ≡ true → (b || list_any p xs) ≡ true
    by true later = refl
    by false later = later

any_found : {X : Type 0} (p : X → Bool) (xs : List X) → list_any p xs ≡ true → (x : X) × Has xs x × (p x ≡ true)
any_found p [] passes = let n : ⊥ = cc in absurd n
any_found {X} p (y ∷ xs) passes = by (p y) refl passes (λ later. any_found p xs later)
  where
    by : (b : Bool) → p y ≡ b → (b || list_any p xs) ≡ true → (list_any p xs ≡ true → (x : X) × Has xs x × (p x ≡ true)) → (x : X) × Has (y ∷ xs) x × (p x ≡ true)
    by true here passes rest = (y, (zero, refl), here)
    by false here passes rest = let one = rest passes in (one.0, has_later y xs one.0 one.1, one.2)

-- ---- a list by rising keys

distinct : (ranks : List (List ℕ)) → IsStrictlySortedBy (slice_cmp nat_cmp) ranks → IsDistinct bytes_eq ranks
distinct ranks rising = subst (λ (eq : List ℕ → List ℕ → Bool). IsDistinct eq ranks) (fun_ext (λ a. fun_ext (λ b. is_eq-slice_cmp a b))) (IsDistinct-from_sorted (slice_cmp nat_cmp) ranks rising)

found_there : (es : List (List ℕ × Listed)) → IsStrictlySortedBy (slice_cmp nat_cmp) (keys_of es) → (e : List ℕ × Listed) → Has es e → lookup (bytes_eq e.0) es ≡ Some e.1
found_there es rising e has = lookup_from_place nat_list_eq_equiv es has.0 e.0 e.1 (distinct (keys_of es) rising) has.1

there_found : (es : List (List ℕ × Listed)) (rank : List ℕ) (l : Listed) → lookup (bytes_eq rank) es ≡ Some l → Has es (rank, l)
there_found es rank l is =
    let place = place_from_lookup (bytes_eq rank) es l is in
    let same : rank ≡ place.1 = (bytes_eq-Decides rank place.1).0 place.3 in
    (place.0, place.2 ∙ ap (λ (r : List ℕ). Some (r, l)) (sym same))

module _ (c : Core) (shelved : IsShelved c) where
  -- ---- what stands on the shelves

  -- what stands at a rank of a shelf is the item of an open line, which asks for this shelf
  record IsOn (name : Shelf) (rank : List ℕ) (l : Listed) : Type 0 where
    line : ItemLine
    opens : open_line c l.item ≡ Some line
    ranked : rank_now c l.item ≡ Some rank
    same : listed_as l.item line ≡ l
    asks : shelf_for line ≡ Some name

  asked_shelf : (shelf : Option Shelf) (name : Shelf) (x l : Listed) → listed_at shelf name x ≡ Some l → shelf ≡ Some name
  asked_shelf None name x l is = absurd (none-some l is)
  asked_shelf (Some shelf) name x l is = elim (shelf_tells shelf name) [
    | inl same ↦ ap Some same.1
    | inr other ↦ absurd (none-some l (sym (ap (λ b. cond b (Some x) None) other.0) ∙ is))
  ]

  on_shelf : (name : Shelf) (rank : List ℕ) (l : Listed) → stands c name rank ≡ Some l → IsOn name rank l
  on_shelf name rank l is =
      let one = shelved.only name rank l is in
      let at = shelved.each l.item one.line one.has in
      let same : at.rank ≡ rank = (let both : Some at.rank ≡ Some rank = sym at.ranked ∙ one.ranked in cc) in
      let stood : listed_at (shelf_for one.line) name (listed_as l.item one.line) ≡ Some l = sym (at.there name) ∙ ap (stands c name) same ∙ is in
      record {
        line = one.line;
        opens = one.has;
        ranked = one.ranked;
        same = listed_is (shelf_for one.line) name (listed_as l.item one.line) l stood;
        asks = asked_shelf (shelf_for one.line) name (listed_as l.item one.line) l stood;
      }

  -- at one rank stands one item
  one_at : (name name' : Shelf) (rank : List ℕ) (l l' : Listed) → stands c name rank ≡ Some l → stands c name' rank ≡ Some l' → l ≡ l'
  one_at name name' rank l l' is is' =
      let a = on_shelf name rank l is in
      let b = on_shelf name' rank l' is' in
      let item : l.item ≡ l'.item = (named_ranks c).alone l.item l'.item rank (open_named c l.item a.line a.opens) (open_named c l'.item b.line b.opens) a.ranked b.ranked in
      let line : a.line ≡ b.line = (let both : Some a.line ≡ Some b.line = sym a.opens ∙ ap (open_line c) item ∙ b.opens in cc) in
      sym a.same ∙ ap (λ (x : ItemLine). listed_as l.item x) line ∙ ap (λ (p : Path). listed_as p b.line) item ∙ b.same

  -- ---- what is seen on shelves

  abbrev seen : List Shelf → Option Listed → List ℕ → Option Listed
  seen names so_far rank = seen_on c.worklists.shelves names so_far rank

  seen_found : (names : List Shelf) (so_far : Option Listed) (rank : List ℕ) (l : Listed) → seen names so_far rank ≡ Some l
      → (so_far ≡ Some l) ⊎ ((name : Shelf) × Has names name × (stands c name rank ≡ Some l))
  seen_found [] so_far rank l is = inl is
  seen_found (name ∷ names) so_far rank l is = elim (seen_found names (option_or (stands c name rank) so_far) rank l is) [
    | inl first ↦ by (stands c name rank) refl first
    | inr later ↦ inr (later.0, has_later name names later.0 later.1, later.2)
  ]
    where
      by : (o : Option Listed) → stands c name rank ≡ o → option_or o so_far ≡ Some l → (so_far ≡ Some l) ⊎ ((name' : Shelf) × Has (name ∷ names) name' × (stands c name' rank ≡ Some l))
      by None here first = inl first
      by (Some x) here first = inr (name, (zero, refl), here ∙ first)

  seen_kept : (names : List Shelf) (shelf : Shelf) (rank : List ℕ) (l : Listed) → stands c shelf rank ≡ Some l → seen names (Some l) rank ≡ Some l
  seen_kept [] shelf rank l is = refl
  seen_kept (name ∷ names) shelf rank l is = by (stands c name rank) refl (seen_kept names shelf rank l is)
    where
      by : (o : Option Listed) → stands c name rank ≡ o → seen names (Some l) rank ≡ Some l → seen names (option_or o (Some l)) rank ≡ Some l
      by None here kept = kept
      by (Some x) here kept = ap (λ y. seen names (Some y) rank) (one_at name shelf rank x l here is) ∙ kept

  seen_there : (names : List Shelf) (so_far : Option Listed) (name : Shelf) (rank : List ℕ) (l : Listed) (k : ℕ) → slice_get names k ≡ Some name → stands c name rank ≡ Some l → seen names so_far rank ≡ Some l
  seen_there [] so_far name rank l k has is = absurd (none-some name has)
  seen_there (first ∷ names) so_far name rank l zero has is =
      let same : first ≡ name = cc in
      ap (λ o. seen names (option_or o so_far) rank) (ap (λ n. stands c n rank) same ∙ is) ∙ seen_kept names name rank l is
  seen_there (first ∷ names) so_far name rank l (suc k) has is = seen_there names (option_or (stands c first rank) so_far) name rank l k has is

  -- ---- the lines of a person

  module _ (person : PersonDef) (es : List (List ℕ × Listed)) (rising : IsStrictlySortedBy (slice_cmp nat_cmp) (keys_of es))
      (looked : (rank : List ℕ) → lookup (bytes_eq rank) es ≡ seen (shelves_of person) None rank) where
    -- an entry stands on a shelf that the person sees
    entry_on : (e : List ℕ × Listed) → Has es e → (name : Shelf) × Has (shelves_of person) name × (stands c name e.0 ≡ Some e.1)
    entry_on e has = elim (seen_found (shelves_of person) None e.0 e.1 (sym (looked e.0) ∙ found_there es rising e has)) [
      | inl none ↦ absurd (none-some e.1 none)
      | inr on ↦ on
    ]

    for_person : (e : List ℕ × Listed) → Has es e → IsForPerson c person e.1.item e.1.held
    for_person e has =
        let on = entry_on e has in
        let is = on_shelf on.0 e.0 e.1 on.2 in
        record {
          line = is.line;
          opens = is.opens;
          seen = sym (seen_where_allowed person is.line) ∙ ap (sees person) is.asks
              ∙ any_has (λ (shelf : Shelf). shelf_eq shelf on.0) (shelves_of person) on.0 on.1.0 on.1.1 ((shelf_decides on.0 on.0).1 refl);
          held_so = sym (ap (λ (l : Listed). l.held) is.same);
        }

    shelf_seen : (shelf : Option Shelf) → sees person shelf ≡ true → (name : Shelf) × (shelf ≡ Some name) × Has (shelves_of person) name
    shelf_seen None passes = let n : ⊥ = cc in absurd n
    shelf_seen (Some shelf) passes =
        let one = any_found (λ (own : Shelf). shelf_eq own shelf) (shelves_of person) passes in
        (shelf, refl, subst (λ (n : Shelf). Has (shelves_of person) n) ((shelf_decides one.0 shelf).0 one.2) one.1)

    listed_there : (path : Path) (held : Bool) → IsForPerson c person path held → (rank : List ℕ) × Has es (rank, record { item = path; held = held })
    listed_there path held is =
        let at = shelved.each path is.line is.opens in
        let shelf = shelf_seen (shelf_for is.line) (seen_where_allowed person is.line ∙ is.seen) in
        let l : Listed = listed_as path is.line in
        let stood : stands c shelf.0 at.rank ≡ Some l
        = at.there shelf.0 ∙ ap (λ o. listed_at o shelf.0 l) shelf.1 ∙ ap (λ b. cond b (Some l) None) ((shelf_decides shelf.0 shelf.0).1 refl) in
        let found = there_found es at.rank l (looked at.rank ∙ seen_there (shelves_of person) None shelf.0 at.rank l shelf.2.0 shelf.2.1 stood) in
        (at.rank, (found.0, found.1 ∙ ap (λ (b : Bool). let x : Listed = record { item = path; held = b } in Some (at.rank, x)) (sym is.held_so)))

    ranks_of : (some : List (List ℕ × Listed)) → ((k : ℕ) (e : List ℕ × Listed) → slice_get some k ≡ Some e → Has es e)
        → map (λ line. rank_now c line.item) (map (λ e. line_of e.1) some) ≡ map Some (keys_of some)
    ranks_of [] each = refl
    ranks_of (e ∷ some) each =
        let on = entry_on e (each zero e refl) in
        let is = on_shelf on.0 e.0 e.1 on.2 in
        ap (λ o. o ∷ map (λ (line : WorkLine). rank_now c line.item) (map (λ (x : List ℕ × Listed). line_of x.1) some)) is.ranked
        ∙ ap (λ (os : List (Option (List ℕ))). Some e.0 ∷ os) (ranks_of some (λ k x there. each (suc k) x there))

    exact_lines : IsExact c person (map (λ e. line_of e.1) es)
    exact_lines = record {
      exactly = λ path held. (
        λ there.
            let one = has_it (map (λ (e : List ℕ × Listed). line_of e.1) es) (record { item = path; held = held }) there in
            let entry = map_found (λ (e : List ℕ × Listed). line_of e.1) es (record { item = path; held = held }) one.0 one.1 in
            let is = for_person entry.0 (one.0, entry.1) in
            subst (λ (b : Bool). IsForPerson c person path b) (ap (λ (l : WorkLine). l.held) entry.2)
            (subst (λ (p : Path). IsForPerson c person p entry.0.1.held) (ap (λ (l : WorkLine). l.item) entry.2) is),
        λ is.
            let one = listed_there path held is in
            contains (map (λ (e : List ℕ × Listed). line_of e.1) es) (record { item = path; held = held })
            (one.1.0, map_has (λ (e : List ℕ × Listed). line_of e.1) es (one.0, record { item = path; held = held }) one.1.0 one.1.1),
      );
      ranks = keys_of es;
      ranked = ranks_of es (λ k e there. (k, there));
      rising = rising;
    }

  pub worklist_exact : (person : PersonDef) (lines : List WorkLine) → IsWorklist c.worklists.shelves person lines → IsExact c person lines
  worklist_exact person lines is = subst (IsExact c person) (sym is.3) (exact_lines person is.0 is.1 is.2)

-- what WORKLIST replies lists exactly these
pub reply_exact : (c : Core) (name text : List ℕ) (found : Option PersonDef) → IsShelved c → IsListed c name found text → ListsExactly c name found text
reply_exact c name text None shelved is = is
reply_exact c name text (Some person) shelved is = (is.0, worklist_exact c shelved person is.0 is.1, is.2)
