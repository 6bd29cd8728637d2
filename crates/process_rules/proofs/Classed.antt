-- Classes of containers stay right where classes are added, and where a template is.
use Rattle.std.proofs.Common.{◌≡◌, ◌⊎◌, ℕ, zero, suc, List, [], ◌∷◌, ◌++◌, Option, Some, None, length, refl, sym, ap, subst, ◌∙◌, inl, inr, ⊎_elim, arith}
use Rattle.std.specs.Prelude.{nat_eq, slice_get}
use Rattle.std.specs.HashMap as hash
use Rattle.std.specs.HashMap.{HashMap}
use Rattle.std.specs.Map.{lookup}
use Rattle.std.proofs.lemmas.Bool.{ne_eqb}
use Rattle.std.proofs.lemmas.Option.{none-some, slice_get_within}
use Rattle.flow_model.specs.declared.graphs.Leaf.{Leaf}
use Rattle.flow_model.specs.declared.graphs.Template.{Template}
use Rattle.leaf_rules.specs.Classes.{class_leaves}
use Rattle.leaf_rules.specs.declared.leaf_classes.LeafClass.{LeafClass}
use Rattle.leaf_rules.specs.declared.leaf_classes.LeafClasses.{LeafClasses}
use Rattle.process_rules.specs.Callees.{AreAlike}
use Rattle.process_rules.specs.Containers.{IsClassKnown, HasClasses, AreClassesKnown, IsOfClass}
use Rattle.process_rules.specs.declared.catalog.Catalog.{Catalog}
use Rattle.process_rules.specs.declared.catalog.ContainerClasses.{ContainerClasses}

-- a class of a list is that of a longer one
class_before : (before added : List LeafClass) (number : ℕ) (leaves : List Leaf) → class_leaves before number ≡ Some leaves → class_leaves (before ++ added) number ≡ Some leaves
class_before [] added number leaves at = absurd (none-some leaves at)
class_before (c ∷ cs) added zero leaves at = at
class_before (c ∷ cs) added (suc n) leaves at = class_before cs added n leaves at

-- what is of the class of a template's container has its leaves
pub alike_by_class : (before added : List LeafClass) (class : Option ℕ) (ours : Option (List Leaf)) (theirs : List Leaf) → IsClassKnown before class theirs → IsOfClass (before ++ added) class ours → AreAlike ours (Some theirs)
alike_by_class before added None ours theirs known of = absurd of
alike_by_class before added (Some number) ours theirs known of = (theirs, sym of.0 ∙ class_before before added number theirs known, refl)

-- the same, where the classes that the text knows are those of the catalog, and what is told of the template is its leaves
pub fits_by_class : (mine theirs : LeafClasses) (added : List LeafClass) (class : Option ℕ) (ours : Option (List Leaf)) (leaves : List Leaf) (told : Option (List Leaf))
    → mine ≡ theirs → IsClassKnown theirs.classes class leaves → IsOfClass (mine.classes ++ added) class ours → told ≡ Some leaves → AreAlike ours told
fits_by_class mine theirs added class ours leaves told same known of is =
    let here = subst (λ (k : LeafClasses). IsClassKnown k.classes class leaves) (sym same) known in
    subst (AreAlike ours) (sym is) (alike_by_class mine.classes added class ours leaves here of)

-- ---- the classes of a template

-- its place and its classes in a catalog that was asked twice
pub classes_at : (catalog first second : Catalog) (place : ℕ) (t : Template) (found : ContainerClasses) → first ≡ catalog → second ≡ catalog → Some t ≡ slice_get first.library.templates place
    → ((u : Template) → slice_get second.library.templates place ≡ Some u → HasClasses second.classes.classes u found) → (slice_get catalog.library.templates place ≡ Some t) × HasClasses catalog.classes.classes t found
classes_at catalog first second place t found one other here has =
    let at = subst (λ (k : Catalog). slice_get k.library.templates place ≡ Some t) one (sym here) in
    let told = subst (λ (k : Catalog). (u : Template) → slice_get k.library.templates place ≡ Some u → HasClasses k.classes.classes u found) other has in
    (at, told t at)

-- ---- more classes

-- the classes of a list have the same leaves in another
abbrev pub Kept : List LeafClass → List LeafClass → Type 0
Kept old new = (number : ℕ) (leaves : List Leaf) → class_leaves old number ≡ Some leaves → class_leaves new number ≡ Some leaves

class_kept : (old new : List LeafClass) → Kept old new → (class : Option ℕ) (leaves : List Leaf) → IsClassKnown old class leaves → IsClassKnown new class leaves
class_kept old new kept None leaves known = known
class_kept old new kept (Some number) leaves known = kept number leaves known

-- where classes keep their leaves, those of the containers are still known
pub still_classed : {S : Type 0} (old new : List LeafClass) (templates : List Template) (containers : HashMap ℕ ContainerClasses S) → Kept old new → AreClassesKnown old templates containers → AreClassesKnown new templates containers
still_classed old new templates containers kept known place t found at got =
    let before = known place t found at got in
    record { input = class_kept old new kept found.input _ before.input; output = class_kept old new kept found.output _ before.output }

-- so they are where the entries stay
pub same_classed : {S : Type 0} (classes : List LeafClass) (templates : List Template) (m n : HashMap ℕ ContainerClasses S) → AreClassesKnown classes templates m → hash.IsUnchanged m n → AreClassesKnown classes templates n
same_classed classes templates m n known same place t found at got = known place t found at (sym (ap (λ es. lookup (nat_eq place) es) same) ∙ got)

-- ---- one more template

last_or_before : {X : Type 0} (xs : List X) (w x : X) (k : ℕ) → slice_get (xs ++ w ∷ []) k ≡ Some x → (slice_get xs k ≡ Some x) ⊎ ((k ≡ length xs) × (w ≡ x))
last_or_before {X} [] w x zero is = inr (refl, some_same w x is)
  where
    some_same : (a b : X) → Some a ≡ Some b → a ≡ b
    some_same a b e = cc
last_or_before {X} [] w x (suc k) is = let e : ◌≡◌ {A = Option X} None (Some x) = is in cc
last_or_before (y ∷ xs) w x zero is = inl is
last_or_before (y ∷ xs) w x (suc k) is = elim (last_or_before xs w x k is) [ inl h ↦ inl h | inr h ↦ inr (ap suc h.0, h.1) ]

module _ {S : Type 0} (classes : List LeafClass) (templates : List Template) (t : Template) (containers : ContainerClasses) (place : ℕ) (m n : HashMap ℕ ContainerClasses S)
    (known : AreClassesKnown classes templates m) (behind : place ≡ length templates) (updates : hash.Updates nat_eq m n place (Some containers)) where
  -- what is kept at a place behind all templates is of none of them
  pub kept_behind : AreClassesKnown classes templates n
  kept_behind k u found at got =
      let less = slice_get_within templates k u at in
      known k u found at (sym (updates.2 k (ne_eqb place k (λ e. omega arith))) ∙ got)

  -- until a template comes there
  pub kept_for : HasClasses classes t containers → AreClassesKnown classes (templates ++ t ∷ []) n
  kept_for has k u found at got =
      ⊎_elim (λ there. kept_behind k u found there got) (λ last. here last.0 last.1) (last_or_before templates t u k at)
    where
      here : k ≡ length templates → t ≡ u → HasClasses classes u found
      here e same =
          let mine : found ≡ containers = some_same found containers (sym got ∙ ap (hash.get nat_eq n) (e ∙ sym behind) ∙ updates.1) in
          subst (λ v. HasClasses classes v found) same (subst (λ c. HasClasses classes t c) (sym mine) has)
        where
          some_same : (a b : ContainerClasses) → Some a ≡ Some b → a ≡ b
          some_same a b e = cc
