-- The ranks of one root stand next to each other.
use Rattle.std.proofs.Common.{◌≡◌, ◌⊎◌, ℕ, ◌<◌, ◌==◌, List, [], ◌∷◌, ◌++◌, ◌||◌, ◌&&◌, not, Bool, true, false, cond, Option, Some, None, refl, sym, ap, subst, ◌∙◌, inl, inr, ⊎_elim, arith}
use Rattle.std.specs.Option.{IsSome}
use Rattle.std.specs.List.{AllByRecursion, filter}
use Rattle.std.specs.List.Sorted.{IsStrictlySortedBy}
use Rattle.std.specs.Ordering.{is_eq, is_le, nat_cmp, ordering_then}
use Rattle.std.specs.declared.cmp.Ordering.TheVariants.{Less, Equal, Greater}
use Rattle.std.specs.Cmp.{nat_cmp_is}
use Rattle.std.specs.Cmp.Lexicographic.{slice_cmp, bytes_decides, nat_list_eq_equiv}
use Rattle.std.specs.Str.{bytes_eq}
use Rattle.std.specs.Map.{lookup, keys_of}
use Rattle.std.specs.Global.{Vec}
use Rattle.std.proofs.lemmas.Bool.{cases_Bool, cases_order, false≢true, cond-true, cond-false}
use Rattle.std.proofs.lemmas.Bool.Decides.{nat_tests}
use Rattle.std.proofs.lemmas.Map.Entries.{lookup-filter-keys}
use Rattle.std.proofs.lemmas.List.Kept.{IsStrictlySortedBy-filter}
use Rattle.std.proofs.lemmas.Map.Keys.{sorted_head}
use Rattle.std.proofs.lemmas.Map.Text.{is_eq-slice_cmp}
use Rattle.std.proofs.lemmas.List.Folds.{list_any-append}
use Rattle.staff_worklists.specs.Standing.{begins_with, is_among}
use Rattle.staff_worklists.specs.declared.worklists.Shelf.{Shelf}

abbrev pub placed_at : List ℕ → List (Vec ℕ × Shelf) → Option Shelf
placed_at rank entries = lookup (λ k. is_eq (slice_cmp nat_cmp rank k.items)) entries

same : (a b : ℕ) → b ≡ a → (a == b) ≡ true
same a b e = grind (arith, nat_tests)

same_of : (a b : ℕ) → (a == b) ≡ true → a ≡ b
same_of a b e = grind (arith, nat_tests)

not_less : Greater ≡ Less → ⊥
not_less e = cc

-- between the first rank of a root and a rank of the root all ranks are the root's
between : (root : ℕ) (k r : List ℕ) → is_le (slice_cmp nat_cmp (root ∷ []) k) ≡ true → begins_with root r ≡ true → slice_cmp nat_cmp k r ≡ Less → begins_with root k ≡ true
between root [] r le begins lt = absurd (false≢true le)
between root (a ∷ ks) [] le begins lt = absurd (false≢true begins)
between root (a ∷ ks) (x ∷ s) le begins lt =
    let x_is : x ≡ root = same_of x root begins in
    ⊎_elim
    (λ e. same a root e)
    (λ other. ⊎_elim
    (λ above. let g : Greater ≡ nat_cmp a x = nat_cmp_is a x Greater (subst (λ y. y < a) (sym x_is) above) in absurd (not_less (subst (λ o. ordering_then o (slice_cmp nat_cmp ks s) ≡ Less) (sym g) lt)))
    (λ below. let g : Greater ≡ nat_cmp root a = nat_cmp_is root a Greater below in absurd (false≢true (subst (λ o. is_le (ordering_then o (slice_cmp nat_cmp [] ks)) ≡ true) (sym g) le)))
    other)
    (cases_order root a)

-- a root's rank is none that doesn't begin with the root
differs : (root : ℕ) (k r : List ℕ) → begins_with root k ≡ false → begins_with root r ≡ true → is_eq (slice_cmp nat_cmp r k) ≡ false
differs root k r no_root begins =
    is_eq-slice_cmp r k ∙ ⊎_elim (λ y. absurd (false≢true (sym no_root ∙ ap (begins_with root) (sym ((bytes_decides r k).0 y)) ∙ begins))) (λ n. n) (cases_Bool (bytes_eq r k))

none_behind : (root : ℕ) (k r : List ℕ) (entries : List (Vec ℕ × Shelf)) → begins_with root k ≡ false → is_le (slice_cmp nat_cmp (root ∷ []) k) ≡ true → begins_with root r ≡ true
    → AllByRecursion (λ y. slice_cmp nat_cmp k y.items ≡ Less) (keys_of entries) → placed_at r entries ≡ None
none_behind root k r [] no_root le begins above = refl
none_behind root k r (e ∷ entries) no_root le begins above =
    ⊎_elim
    (λ y. let lt : slice_cmp nat_cmp k r ≡ Less = subst (λ (l : List ℕ). slice_cmp nat_cmp k l ≡ Less) (sym ((bytes_decides r e.0.items).0 (sym (is_eq-slice_cmp r e.0.items) ∙ y))) above.0 in absurd (false≢true (sym no_root ∙ between root k r le begins lt)))
    (λ n. cond-false (is_eq (slice_cmp nat_cmp r e.0.items)) (Some e.1) (placed_at r entries) n ∙ none_behind root k r entries no_root le begins above.1)
    (cases_Bool (is_eq (slice_cmp nat_cmp r e.0.items)))

-- the first that doesn't begin with the root is behind all that do
pub no_more : (root : ℕ) (k : Vec ℕ) (v : Shelf) (entries : List (Vec ℕ × Shelf)) (r : List ℕ) → begins_with root k.items ≡ false → is_le (slice_cmp nat_cmp (root ∷ []) k.items) ≡ true
    → IsStrictlySortedBy (λ x y. slice_cmp nat_cmp x.items y.items) (keys_of ((k, v) ∷ entries)) → begins_with root r ≡ true → placed_at r ((k, v) ∷ entries) ≡ None
no_more root k v entries r no_root le rising begins =
    cond-false (is_eq (slice_cmp nat_cmp r k.items)) (Some v) (placed_at r entries) (differs root k.items r no_root begins)
    ∙ none_behind root k.items r entries no_root le begins (sorted_head (λ x y. slice_cmp nat_cmp x.items y.items) k (keys_of entries) rising)

-- ---- the range from the first rank of the root

abbrev pub from_first : ℕ → Vec ℕ → Bool
from_first root k = is_le (slice_cmp nat_cmp (root ∷ []) k.items)

shorter : (s : List ℕ) → is_le (slice_cmp nat_cmp [] s) ≡ true
shorter [] = refl
shorter (y ∷ ys) = refl

at_least : (root : ℕ) (r : List ℕ) → begins_with root r ≡ true → is_le (slice_cmp nat_cmp (root ∷ []) r) ≡ true
at_least root [] begins = absurd (false≢true begins)
at_least root (x ∷ s) begins =
    let g : Equal ≡ nat_cmp root x = nat_cmp_is root x Equal (sym (same_of x root begins)) in
    subst (λ o. is_le (ordering_then o (slice_cmp nat_cmp [] s)) ≡ true) g (shorter s)

pub kept_from : (root : ℕ) (r : List ℕ) → begins_with root r ≡ true → (k : Vec ℕ) → is_eq (slice_cmp nat_cmp r k.items) ≡ true → from_first root k ≡ true
kept_from root r begins k e = subst (λ (l : List ℕ). is_le (slice_cmp nat_cmp (root ∷ []) l) ≡ true) ((bytes_decides r k.items).0 (sym (is_eq-slice_cmp r k.items) ∙ e)) (at_least root r begins)

keys_kept : (p : Vec ℕ → Bool) (entries : List (Vec ℕ × Shelf)) → keys_of (filter (λ e. p e.0) entries) ≡ filter p (keys_of entries)
keys_kept p [] = refl
keys_kept p (e ∷ entries) = kept_by (p e.0) e.0 e (filter (λ e. p e.0) entries) (filter p (keys_of entries)) refl (keys_kept p entries)
  where
    kept_by : (b : Bool) (k : Vec ℕ) (e : Vec ℕ × Shelf) (es : List (Vec ℕ × Shelf)) (ks : List (Vec ℕ)) → k ≡ e.0 → keys_of es ≡ ks → keys_of (cond b (e ∷ es) es) ≡ cond b (k ∷ ks) ks
    kept_by true k e es ks same rest = ap (λ (l : List (Vec ℕ)). e.0 ∷ l) rest ∙ ap (λ (x : Vec ℕ). x ∷ ks) (sym same)
    kept_by false k e es ks same rest = rest

all_from : (q p : Vec ℕ → Bool) → ((k : Vec ℕ) → q k ≡ true → p k ≡ true) → (ks : List (Vec ℕ)) → AllByRecursion (λ k. p k ≡ true) (filter q ks)
all_from q p conv [] = tt
all_from q p conv (k ∷ ks) = ⊎_elim
    (λ y. subst (λ (l : List (Vec ℕ)). AllByRecursion (λ k. p k ≡ true) l) (sym (cond-true (q k) (k ∷ filter q ks) (filter q ks) y)) (conv k y, all_from q p conv ks))
    (λ n. subst (λ (l : List (Vec ℕ)). AllByRecursion (λ k. p k ≡ true) l) (sym (cond-false (q k) (k ∷ filter q ks) (filter q ks) n)) (all_from q p conv ks))
    (cases_Bool (q k))

and_true : (b : Bool) → (b && true) ≡ b
and_true true = refl
and_true false = refl

abbrev in_range : Vec ℕ → Vec ℕ → Bool
in_range from k = is_le (slice_cmp nat_cmp from.items k.items) && not false

-- the range from the first rank of a root: it rises, and has each rank of the root
pub started : (root : ℕ) (from : Vec ℕ) (entries range : List (Vec ℕ × Shelf)) → from.items ≡ root ∷ []
    → range ≡ filter (λ e. is_le (slice_cmp nat_cmp from.items e.0.items) && not false) entries
    → IsStrictlySortedBy (λ x y. slice_cmp nat_cmp x.items y.items) (keys_of entries)
    → IsStrictlySortedBy (λ x y. slice_cmp nat_cmp x.items y.items) (keys_of range) × AllByRecursion (λ k. from_first root k ≡ true) (keys_of range)
    × ((r : List ℕ) → begins_with root r ≡ true → placed_at r range ≡ placed_at r entries)
started root from entries range first is rising = (
  subst (λ (ks : List (Vec ℕ)). IsStrictlySortedBy (λ x y. slice_cmp nat_cmp x.items y.items) ks) (sym keys) (IsStrictlySortedBy-filter (λ x y. slice_cmp nat_cmp x.items y.items) (in_range from) (keys_of entries) rising),
  subst (λ (ks : List (Vec ℕ)). AllByRecursion (λ k. from_first root k ≡ true) ks) (sym keys) (all_from (in_range from) (from_first root) (λ k h. sym (is_from k) ∙ h) (keys_of entries)),
  λ r begins. ap (placed_at r) is ∙ lookup-filter-keys (λ k. is_eq (slice_cmp nat_cmp r k.items)) (in_range from) true (λ k e. is_from k ∙ kept_from root r begins k e) entries,
)
  where
    keys : keys_of range ≡ filter (in_range from) (keys_of entries)
    keys = ap (λ (l : List (Vec ℕ × Shelf)). keys_of l) is ∙ keys_kept (in_range from) entries

    is_from : (k : Vec ℕ) → in_range from k ≡ from_first root k
    is_from k = and_true (is_le (slice_cmp nat_cmp from.items k.items)) ∙ ap (λ (l : List ℕ). is_le (slice_cmp nat_cmp l k.items)) first

-- where the first that is left isn't of the root, all of the root are among the ranks
pub all_found : (root : ℕ) (k : Vec ℕ) (v : Shelf) (left entries : List (Vec ℕ × Shelf)) (r : List ℕ) (among : Type 0) → left ≡ (k, v) ∷ entries → begins_with root k.items ≡ false
    → IsStrictlySortedBy (λ x y. slice_cmp nat_cmp x.items y.items) (keys_of left) → AllByRecursion (λ k. from_first root k ≡ true) (keys_of left) → begins_with root r ≡ true
    → among ⊎ IsSome (placed_at r left) → among
all_found root k v left entries r among is no_root rising from begins found =
    ⊎_elim (λ a. a)
    (λ some. let e = ap (placed_at r) is ∙ no_more root k v entries r no_root (subst (λ (l : List (Vec ℕ × Shelf)). AllByRecursion (λ k. from_first root k ≡ true) (keys_of l)) is from).0 (subst (λ (l : List (Vec ℕ × Shelf)). IsStrictlySortedBy (λ x y. slice_cmp nat_cmp x.items y.items) (keys_of l)) is rising) begins in absurd (is_none (subst (λ (o : Option Shelf). IsSome o) e some)))
    found
  where
    is_none : IsSome {T = Shelf} None → ⊥
    is_none h = cc

-- one more rank of the root
pub one_more_found : (root : ℕ) (k : Vec ℕ) (v : Shelf) (copy : Vec ℕ) (ranks after : List (Vec ℕ)) (left entries : List (Vec ℕ × Shelf)) (r : List ℕ) → left ≡ (k, v) ∷ entries → copy.items ≡ k.items → after ≡ ranks ++ copy ∷ []
    → (is_among ranks r ≡ true) ⊎ IsSome (placed_at r left) → (is_among after r ≡ true) ⊎ IsSome (placed_at r entries)
one_more_found root k v copy ranks after left entries r is copied pushed found =
    ⊎_elim
    (λ a. inl (ap (λ (l : List (Vec ℕ)). is_among l r) pushed ∙ list_any-append (λ x. bytes_eq x.items r) ranks (copy ∷ []) ∙ ap (λ (b : Bool). b || (bytes_eq copy.items r || false)) a))
    (λ some. ⊎_elim
    (λ y. inl (ap (λ (l : List (Vec ℕ)). is_among l r) pushed ∙ list_any-append (λ x. bytes_eq x.items r) ranks (copy ∷ []) ∙ ap (λ (b : Bool). is_among ranks r || (b || false)) (ap (λ (l : List ℕ). bytes_eq l r) copied ∙ nat_list_eq_equiv.symm k.items r ∙ sym (is_eq-slice_cmp r k.items) ∙ y) ∙ or_true (is_among ranks r)))
    (λ n. inr (subst (λ (o : Option Shelf). IsSome o) (ap (placed_at r) is ∙ cond-false (is_eq (slice_cmp nat_cmp r k.items)) (Some v) (placed_at r entries) n) some))
    (cases_Bool (is_eq (slice_cmp nat_cmp r k.items))))
    found
  where
    or_true : (b : Bool) → (b || true) ≡ true
    or_true true = refl
    or_true false = refl
