-- A side that is of texts is a text or a leaf alone that holds one.
use Rattle.std.proofs.Common.{◌≡◌, ℕ, ◌==◌, ◌||◌, Bool, true, false, Option, Some, None, List, [], ◌∷◌, length, refl, arith}
use Rattle.std.specs.Prelude.{if◌then◌else◌, ◌⊎◌}
use Rattle.std.proofs.Common.{inl, inr}
use Rattle.std.specs.List.{list_any}
use Rattle.containers.specs.Named.{leaf_place}
use Rattle.flow_model.specs.declared.graphs.Kind.{Kind}
use Rattle.flow_model.specs.declared.graphs.Kind.TheVariants.{Long, Str}
use Rattle.flow_model.specs.declared.graphs.Leaf.{Leaf}
use Rattle.flow_model.specs.declared.graphs.TextSide.TheVariants as text
use Rattle.flow_model.specs.declared.trees.OperandTree.{OperandTree}
use Rattle.flow_model.specs.declared.trees.OperandTree.TheVariants as operand
use Rattle.flow_model.specs.declared.trees.Side.{Side}
use Rattle.flow_model.specs.declared.trees.Side.TheVariants as side
use Rattle.flow_model.specs.declared.trees.TermTree.{TermTree}
use Rattle.std.specs.Option.{option_map}
use Rattle.conditions.specs.Faults.{is_text_kind, kind_at, is_text_operand, is_text_term, side_kind, same_kind}
use Rattle.conditions.specs.Resolving.{text_operand, resolved_text}

-- a leaf that holds a text has its place
by_test : (b : Bool) (p : ℕ) → (if b || false then Some Str else Some Long) ≡ Some Str → (if b then Some (text.Leaf p) else None) ≡ None → ⊥
by_test true p h g = cc
by_test false p h g = cc

by_place : (leaves : List Leaf) (p : Option ℕ) → (if is_text_kind (kind_at leaves p) || false then Some Str else Some Long) ≡ Some Str
    → (if is_text_kind (kind_at leaves p) then option_map (λ place. text.Leaf place) p else None) ≡ None → ⊥
by_place leaves None h g = cc
by_place leaves (Some p) h g = by_test (is_text_kind (kind_at leaves (Some p))) p h g

by_operand : (leaves : List Leaf) (o : OperandTree) → (if is_text_operand leaves o || false then Some Str else Some Long) ≡ Some Str → text_operand leaves o ≡ None → ⊥
by_operand leaves (operand.Leaf leaf) h g = by_place leaves (leaf_place leaves leaf.steps) h g
by_operand leaves (operand.Number number) h g = cc

more_than_one : (b c : Bool) → c ≡ false → (if b then (if c then Some Str else None) else Some Long) ≡ Some Str → ⊥
more_than_one true true e h = cc
more_than_one true false e h = cc
more_than_one false c e h = cc

not_one : (t u : TermTree) (ts : List TermTree) → (length (t ∷ u ∷ ts) == 1) ≡ false
not_one t u ts = grind arith

-- no side of texts goes without its text
pub has_text : (leaves : List Leaf) (s : Side) → side_kind leaves s ≡ Some Str → resolved_text leaves s ≡ None → ⊥
has_text leaves (side.Text t p) h g = cc
has_text leaves (side.Sum []) h g = cc
has_text leaves (side.Sum (t ∷ [])) h g = by_operand leaves t.operand h g
has_text leaves (side.Sum (t ∷ u ∷ ts)) h g = more_than_one (list_any (is_text_term leaves) (t ∷ u ∷ ts)) (length (t ∷ u ∷ ts) == 1) (not_one t u ts) h

-- two sides of one kind
pub record Both (left right : Option Kind) (kind : Kind) : Type 0 where
  pub first : left ≡ Some kind
  pub second : right ≡ Some kind

pub one_kind : (left right : Option Kind) → same_kind left right ≡ true → Both left right Long ⊎ Both left right Str
one_kind None right h = cc
one_kind (Some Long) None h = cc
one_kind (Some Long) (Some Long) h = inl (record { first = refl; second = refl })
one_kind (Some Long) (Some Str) h = cc
one_kind (Some Str) None h = cc
one_kind (Some Str) (Some Long) h = cc
one_kind (Some Str) (Some Str) h = inr (record { first = refl; second = refl })

pub no_mismatch : (b : Bool) (p : ℕ) → (if b then None else Some p) ≡ None → b ≡ true
no_mismatch true p h = refl
no_mismatch false p h = cc
