-- Knowing more of messages and completions.
use Rattle.std.specs.Prelude.{◌≡◌, ℕ, ◌≤◌, Bool, true, false, Option, Some, is_none, List}
use Rattle.flow_model.specs.declared.graphs.Container.{Container}
use Rattle.flow_model.specs.declared.instances.Part.{Part}
use Rattle.flow_model.specs.Scopes.{Known}

-- what counts by k counts by k' too, and is the same there
pub record More (k k' : Known) : Type 0 where
  pub most : k.most ≤ k'.most
  pub begun : (p : List Part) → k.begun p ≡ true → k'.begun p ≡ true
  pub closed : (p : List Part) → k.closed p ≡ true → k'.closed p ≡ true
  pub sent : (p : List Part) (a b : ℕ) (v v' : Option Bool) → (is_none v ≡ false → v' ≡ v)
      → is_none (k.sent p a b v) ≡ false → k'.sent p a b v' ≡ k.sent p a b v
  pub given : (p : List Part) (out : Container) → k.given p ≡ Some out → k'.given p ≡ Some out
