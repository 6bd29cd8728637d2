-- Tests of two parts, one behind the other, and of known leaves.
use Rattle.std.proofs.Common.{◌≡◌, Bool, true, false, List, Option, Some, sym, ap, ◌∙◌}
use Rattle.std.specs.Bool.{Decides}
use Rattle.std.proofs.lemmas.Bool.{both_ways}
use Rattle.flow_model.specs.declared.graphs.Leaf.{Leaf}
use Rattle.process_rules.specs.Callees.{AreAlike}

-- a test behind another one
pub decides_second : (P Q : Type 0) (a b : Bool) → a ≡ true → Decides a P → Decides b Q → Decides b (P × Q)
decides_second P Q a b is h k = (λ e. (h.0 is, k.0 e), λ both. k.1 both.1)

pub decides_neither : (P Q : Type 0) (a : Bool) → a ≡ false → Decides a P → Decides a (P × Q)
decides_neither P Q a off h = (λ e. absurd (both_ways a off e), λ both. h.1 both.0)

-- leaves that are known are alike where they are the same
pub decides_alike : (ours theirs : Option (List Leaf)) (a b : List Leaf) (r : Bool) → ours ≡ Some a → theirs ≡ Some b → Decides r (a ≡ b) → Decides r (AreAlike ours theirs)
decides_alike ours theirs a b r here there h =
    (λ e. (a, here, there ∙ ap (λ (l : List Leaf). Some l) (sym (h.0 e))), λ alike. h.1 (some_same a alike.0 (sym here ∙ alike.1) ∙ some_same alike.0 b (sym alike.2 ∙ there)))
  where
    some_same : (x y : List Leaf) → Some x ≡ Some y → x ≡ y
    some_same x y e = cc

-- a test that says no
pub decides_not : (P : Type 0) (b : Bool) → b ≡ false → Decides b P → P → ⊥
decides_not P b off h p = both_ways b off (h.1 p)
