-- The first leaf that is written so, among those that are left, and the first values of leaves.
use Rattle.std.proofs.Common.{◌≡◌, ℕ, zero, suc, ◌+◌, ◌<◌, Bool, true, false, List, [], ◌∷◌, ◌++◌, length, drop, map, Option, Some, None, refl, sym, ap, ◌∙◌, append_assoc, append-nil, arith}
use Rattle.std.specs.Prelude.{slice_get, option_map}
use Rattle.std.proofs.lemmas.List.{length-append}
use Rattle.std.specs.List.{position_from}
use Rattle.flow_model.specs.LeafRows.{steps_said}
use Rattle.flow_model.specs.Containers.{first_value}
use Rattle.flow_model.specs.declared.graphs.Kind.{Kind}
use Rattle.flow_model.specs.declared.graphs.Leaf.{Leaf}
use Rattle.flow_model.specs.declared.graphs.Value.{Value}
use Rattle.flow_model.specs.declared.trees.StepTree.{StepTree}
use Rattle.containers.specs.Named.{names_leaf, leaf_place}

-- a leaf that is there, and those behind it
pub at_place : (leaves : List Leaf) (i : ℕ) → i < length leaves → (x : Leaf) × (slice_get leaves i ≡ Some x) × (drop i leaves ≡ x ∷ drop (i + 1) leaves)
at_place [] i less = absurd (omega arith)
at_place (x ∷ leaves) zero less = (x, refl, refl)
at_place (x ∷ leaves) (suc i) less =
    let t = at_place leaves i (omega arith) in
    let on : suc i + 1 ≡ suc (i + 1) = omega arith in
    (t.0, t.1, t.2 ∙ ap (λ (n : ℕ). t.0 ∷ drop n (x ∷ leaves)) (sym on))

found : (p : Leaf → Bool) (i : ℕ) (x : Leaf) (xs : List Leaf) → p x ≡ true → position_from p i (x ∷ xs) ≡ Some i
found p i x xs here = rw here refl

passed : (p : Leaf → Bool) (i : ℕ) (x : Leaf) (xs : List Leaf) → p x ≡ false → position_from p i (x ∷ xs) ≡ position_from p (i + 1) xs
passed p i x xs other = rw other refl

module _ (steps : List StepTree) (leaves : List Leaf) (i : ℕ) (less : i < length leaves) where
  named_at : (b : Bool) → b ≡ names_leaf steps (steps_said (slice_get leaves i)) → names_leaf steps (at_place leaves i less).0.name.steps ≡ b
  named_at b is = sym (is ∙ ap (λ (o : Option Leaf). names_leaf steps (steps_said o)) (at_place leaves i less).1)

  pub place_found : true ≡ names_leaf steps (steps_said (slice_get leaves i)) → position_from (λ f. names_leaf steps f.name.steps) i (drop i leaves) ≡ leaf_place leaves steps → Some i ≡ leaf_place leaves steps
  place_found is so_far =
      let t = at_place leaves i less in
      sym (found (λ f. names_leaf steps f.name.steps) i t.0 (drop (i + 1) leaves) (named_at true is)) ∙ ap (position_from (λ (f : Leaf). names_leaf steps f.name.steps) i) (sym t.2) ∙ so_far

  pub place_passed : false ≡ names_leaf steps (steps_said (slice_get leaves i)) → position_from (λ f. names_leaf steps f.name.steps) i (drop i leaves) ≡ leaf_place leaves steps
      → position_from (λ f. names_leaf steps f.name.steps) (i + 1) (drop (i + 1) leaves) ≡ leaf_place leaves steps
  place_passed is so_far =
      let t = at_place leaves i less in
      sym (passed (λ f. names_leaf steps f.name.steps) i t.0 (drop (i + 1) leaves) (named_at false is)) ∙ ap (position_from (λ (f : Leaf). names_leaf steps f.name.steps) i) (sym t.2) ∙ so_far

-- ---- first values

past_end : (leaves : List Leaf) (i : ℕ) → None ≡ option_map (λ (l : Leaf). l.kind) (slice_get leaves i) → drop i leaves ≡ []
past_end [] zero none = refl
past_end [] (suc i) none = refl
past_end (x ∷ leaves) zero none = cc
past_end (x ∷ leaves) (suc i) none = past_end leaves i none

kind_there : (leaves : List Leaf) (i : ℕ) (k : Kind) → Some k ≡ option_map (λ (l : Leaf). l.kind) (slice_get leaves i) → i < length leaves
kind_there [] i k some = cc
kind_there (x ∷ leaves) zero k some = omega arith
kind_there (x ∷ leaves) (suc i) k some = let l = kind_there leaves i k some in omega arith

-- all leaves have their first values
pub values_all : (leaves : List Leaf) (values : List Value) → None ≡ option_map (λ (l : Leaf). l.kind) (slice_get leaves (length values))
    → map (λ leaf. first_value leaf.kind) leaves ≡ values ++ map (λ leaf. first_value leaf.kind) (drop (length values) leaves) → values ≡ map (λ leaf. first_value leaf.kind) leaves
values_all leaves values none so_far = sym (so_far ∙ ap (λ (ls : List Leaf). values ++ map (λ (leaf : Leaf). first_value leaf.kind) ls) (past_end leaves (length values) none) ∙ append-nil values)

-- one more has
pub values_more : (leaves : List Leaf) (values : List Value) (k : Kind) → Some k ≡ option_map (λ (l : Leaf). l.kind) (slice_get leaves (length values))
    → map (λ leaf. first_value leaf.kind) leaves ≡ values ++ map (λ leaf. first_value leaf.kind) (drop (length values) leaves)
    → map (λ leaf. first_value leaf.kind) leaves ≡ (values ++ first_value k ∷ []) ++ map (λ leaf. first_value leaf.kind) (drop (length (values ++ first_value k ∷ [])) leaves)
values_more leaves values k some so_far =
    let t = at_place leaves (length values) (kind_there leaves (length values) k some) in
    let rest : List Value = map (λ (leaf : Leaf). first_value leaf.kind) (drop (length values + 1) leaves) in
    let kind_is : t.0.kind ≡ k = same t.0.kind k (sym (some ∙ ap (option_map (λ (l : Leaf). l.kind)) t.1)) in
    so_far
    ∙ ap (λ (ls : List Leaf). values ++ map (λ (leaf : Leaf). first_value leaf.kind) ls) t.2
    ∙ ap (λ (q : Kind). values ++ first_value q ∷ rest) kind_is
    ∙ sym (append_assoc values (first_value k ∷ []) rest)
    ∙ ap (λ (n : ℕ). (values ++ first_value k ∷ []) ++ map (λ (leaf : Leaf). first_value leaf.kind) (drop n leaves)) (sym (length-append values (first_value k ∷ [])))
  where
    same : (a b : Kind) → Some a ≡ Some b → a ≡ b
    same a b e = cc
