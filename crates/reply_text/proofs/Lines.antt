-- The lines of a container, one for each leaf that has a value.
use Rattle.std.proofs.Common.{◌≡◌, ℕ, zero, suc, ◌+◌, ◌<◌, List, [], ◌∷◌, ◌++◌, length, drop, Some, None, refl, sym, ap, ◌∙◌, append_assoc, append-nil, arith}
use Rattle.std.specs.Prelude.{slice_get}
use Rattle.std.specs.List.{flat_map, zip}
use Rattle.flow_model.specs.LeafRows.{steps_said}
use Rattle.flow_model.specs.declared.graphs.Leaf.{Leaf}
use Rattle.flow_model.specs.declared.graphs.Step.{Step}
use Rattle.flow_model.specs.declared.graphs.Value.{Value}
use Rattle.reply_text.specs.Leaves.{line_text}

-- an element that is there, and those behind it
at_place : {X : Type 0} (xs : List X) (i : ℕ) (x : X) → slice_get xs i ≡ Some x → drop i xs ≡ x ∷ drop (i + 1) xs
at_place [] i x is = cc
at_place (y ∷ xs) zero x is = same y x is
  where
    same : (a b : _) → Some a ≡ Some b → a ∷ xs ≡ b ∷ xs
    same a b e = cc
at_place (y ∷ xs) (suc i) x is = let on : suc i + 1 ≡ suc (i + 1) = omega arith in at_place xs i x is ∙ ap (λ (n : ℕ). x ∷ drop n (y ∷ xs)) (sym on)

pub there_is : (leaves : List Leaf) (i : ℕ) → i < length leaves → (x : Leaf) × (slice_get leaves i ≡ Some x)
there_is [] i less = absurd (omega arith)
there_is (x ∷ leaves) zero less = (x, refl)
there_is (x ∷ leaves) (suc i) less = there_is leaves i (omega arith)

-- the steps of the leaf at a place
pub steps_of : (leaves : List Leaf) (i : ℕ) (x : Leaf) (steps : List Step) → slice_get leaves i ≡ Some x → steps ≡ steps_said (slice_get leaves i) → steps ≡ x.name.steps
steps_of leaves i x steps there is = is ∙ ap steps_said there

-- one more line
pub line_more : (leaves : List Leaf) (values : List Value) (i : ℕ) (x : Leaf) (v : Value) (out new all : List ℕ) → slice_get leaves i ≡ Some x → slice_get values i ≡ Some v → new ≡ out ++ line_text (x, v)
    → out ++ flat_map line_text (zip (drop i leaves) (drop i values)) ≡ all → new ++ flat_map line_text (zip (drop (i + 1) leaves) (drop (i + 1) values)) ≡ all
line_more leaves values i x v out new all there given now so_far =
    let rest = flat_map line_text (zip (drop (i + 1) leaves) (drop (i + 1) values)) in
    ap (λ (o : List ℕ). o ++ rest) now
    ∙ append_assoc out (line_text (x, v)) rest
    ∙ ap (λ (ls : List Leaf). out ++ flat_map line_text (zip ls (v ∷ drop (i + 1) values))) (sym (at_place leaves i x there))
    ∙ ap (λ (vs : List Value). out ++ flat_map line_text (zip (drop i leaves) vs)) (sym (at_place values i v given))
    ∙ so_far

-- no more lines, where there is no value
pub lines_end : (leaves : List Leaf) (values : List Value) (i : ℕ) (out all : List ℕ) → None ≡ slice_get values i → out ++ flat_map line_text (zip (drop i leaves) (drop i values)) ≡ all → out ≡ all
lines_end leaves values i out all none so_far =
    sym (append-nil out)
    ∙ ap (λ (ls : List (Leaf × Value)). out ++ flat_map line_text ls) (sym (unpaired (drop i leaves) (drop i values) (past values i none)))
    ∙ so_far
  where
    past : (vs : List Value) (k : ℕ) → None ≡ slice_get vs k → drop k vs ≡ []
    past [] zero e = refl
    past [] (suc k) e = refl
    past (v ∷ vs) zero e = cc
    past (v ∷ vs) (suc k) e = past vs k e

    unpaired : (ls : List Leaf) (vs : List Value) → vs ≡ [] → zip ls vs ≡ []
    unpaired [] vs e = refl
    unpaired (l ∷ ls) [] e = refl
    unpaired (l ∷ ls) (v ∷ vs) e = cc
