-- When two shelves are the same, and what of a shelf is hashed.
use Rattle.std.specs.Prelude.{◌≡◌, ℕ, Bool, true, false, List, [], ◌∷◌, bytes_eq, Decides}
use Rattle.std.proofs.Common.{refl, ap, subst}
use Rattle.std.specs.Cmp.{IsEquivalence, IsPartialEquivalence, decided, partial_equiv_from_equiv}
use Rattle.std.specs.Cmp.Lexicographic.{bytes_decides}
use Rattle.staff_worklists.specs.declared.worklists.Shelf.{Shelf}
use Rattle.staff_worklists.specs.declared.worklists.Shelf.TheVariants.{Role, Person, Holder}

-- the same kind of shelf, of the same name
abbrev pub shelf_eq : Shelf → Shelf → Bool
shelf_eq (Role a) (Role b) = bytes_eq a b
shelf_eq (Role a) (Person b) = false
shelf_eq (Role a) (Holder b) = false
shelf_eq (Person a) (Role b) = false
shelf_eq (Person a) (Person b) = bytes_eq a b
shelf_eq (Person a) (Holder b) = false
shelf_eq (Holder a) (Role b) = false
shelf_eq (Holder a) (Person b) = false
shelf_eq (Holder a) (Holder b) = bytes_eq a b

-- the role or the person for whom a shelf is
abbrev pub shelf_name : Shelf → List ℕ
shelf_name (Role name) = name
shelf_name (Person name) = name
shelf_name (Holder name) = name

-- what is hashed of a shelf: its name
abbrev pub shelf_writes : Shelf → List (List ℕ)
shelf_writes shelf = shelf_name shelf ∷ []

true_same : (a b : Shelf) → shelf_eq a b ≡ true → a ≡ b
true_same (Role a) (Role b) e = ap Role ((bytes_decides a b).0 e)
true_same (Role a) (Person b) e = cc
true_same (Role a) (Holder b) e = cc
true_same (Person a) (Role b) e = cc
true_same (Person a) (Person b) e = ap Person ((bytes_decides a b).0 e)
true_same (Person a) (Holder b) e = cc
true_same (Holder a) (Role b) e = cc
true_same (Holder a) (Person b) e = cc
true_same (Holder a) (Holder b) e = ap Holder ((bytes_decides a b).0 e)

same_itself : (a : Shelf) → shelf_eq a a ≡ true
same_itself (Role a) = (bytes_decides a a).1 refl
same_itself (Person a) = (bytes_decides a a).1 refl
same_itself (Holder a) = (bytes_decides a a).1 refl

-- the test decides whether they are the same
pub shelf_decides : (a b : Shelf) → Decides (shelf_eq a b) (a ≡ b)
shelf_decides a b = (true_same a b, λ e. subst (λ s. shelf_eq a s ≡ true) e (same_itself a))

-- so it is an equivalence
pub shelf_equiv : IsEquivalence shelf_eq
shelf_equiv = decided shelf_eq shelf_decides

pub shelf_partial_equiv : IsPartialEquivalence shelf_eq
shelf_partial_equiv = partial_equiv_from_equiv shelf_equiv

-- shelves that are the same hash alike
pub same_writes : (a b : Shelf) → shelf_eq a b ≡ true → shelf_writes a ≡ shelf_writes b
same_writes a b e = ap shelf_writes ((shelf_decides a b).0 e)
