-- Names that are met one by one.
use Rattle.std.specs.Prelude.{◌≡◌, ℕ, List, bytes_eq}
use Rattle.std.specs.List.{list_any}
use Rattle.flow_model.specs.declared.trees.NameAt.{NameAt}
use Rattle.text_graphs.specs.Places.{IsLeastOf, PairAt}
use Rattle.text_graphs.specs.declared.least.Repeats.{Repeats}

-- the place of a name that came before
abbrev pub IsAgainAt : NameAt → NameAt → ℕ → Type 0
IsAgainAt before name p = (before.name ≡ name.name) × (name.place ≡ p)

-- these names were met, and the least place of one that came again is known
pub record AreMet (repeats : Repeats) (names : List NameAt) : Type 0 where
  pub known : (name : List ℕ) → list_any (λ k. bytes_eq name k.now) repeats.met.keys
      ≡ list_any (λ n. bytes_eq name n.name) names
  pub least : IsLeastOf (PairAt IsAgainAt names) repeats.first
