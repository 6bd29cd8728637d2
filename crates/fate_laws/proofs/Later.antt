-- What is known of a list of completions, and of a longer one.
use Rattle.std.proofs.Common.{◌≡◌, ℕ, ◌≤◌, Bool, true, false, List, [], ◌∷◌, ◌++◌, refl, Some, arith}
use Rattle.flow_model.specs.declared.graphs.Container.{Container}
use Rattle.flow_model.specs.declared.instances.Fact.{Fact}
use Rattle.flow_model.specs.declared.instances.Part.{Part}
use Rattle.flow_model.specs.Rows.{same_parts, output_of, by_facts}
use Rattle.fate_laws.specs.More.{More}

-- the first completion of an item counts, whatever follows
pub output_of-append : (fs later : List Fact) (p : List Part) (out : Container) → output_of fs p ≡ Some out → output_of (fs ++ later) p ≡ Some out
output_of-append [] later p out h = cc
output_of-append (f ∷ fs) later p out h = go (same_parts f.item.parts p) refl (output_of-append fs later p out)
  where
    go : (b : Bool) → same_parts f.item.parts p ≡ b → (output_of fs p ≡ Some out → output_of (fs ++ later) p ≡ Some out) → output_of ((f ∷ fs) ++ later) p ≡ Some out
    go true is rest = rw is (rw is at h)
    go false is rest = rw is (rest (rw is at h))

pub completions_add : (most most' : ℕ) (fs later : List Fact) → most ≤ most' → More (by_facts most fs) (by_facts most' (fs ++ later))
completions_add most most' fs later le = record {
  most = le;
  begun = λ p h. refl;
  closed = λ p h. refl;
  sent = λ p a b v v' same known. same known;
  given = λ p out h. output_of-append fs later p out h;
}

pub steady : (most : ℕ) (fs : List Fact) → More (by_facts most fs) (by_facts most fs)
steady most fs = record {
  most = omega arith;
  begun = λ p h. refl;
  closed = λ p h. refl;
  sent = λ p a b v v' same known. same known;
  given = λ p out h. h;
}
