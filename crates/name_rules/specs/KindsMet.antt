-- Attributes of one kind that are met one by one.
use Rattle.std.specs.Prelude.{◌≡◌, ℕ, List, true, false}
use Rattle.flow_model.specs.declared.trees.AttrAt.{AttrAt}
use Rattle.name_rules.specs.Names.{kind_said}
use Rattle.text_graphs.specs.Places.{IsLeastOf, AnyAt, PairAt}
use Rattle.name_rules.specs.declared.names.AttributeKind.{AttributeKind}
use Rattle.name_rules.specs.declared.names.OfKind.{OfKind}

-- the place of an attribute of this kind
abbrev pub IsOfKind : AttributeKind → AttrAt → ℕ → Type 0
IsOfKind kind a p = (kind_said a.what ≡ kind) × (a.place ≡ p)

-- and of one behind another of this kind
abbrev pub AreOfKind : AttributeKind → AttrAt → AttrAt → ℕ → Type 0
AreOfKind kind before a p = (kind_said before.what ≡ kind) × IsOfKind kind a p

-- these attributes were met, and the least place of a second one of this kind is known
pub record IsKindMet (met : OfKind) (kind : AttributeKind) (attributes : List AttrAt) : Type 0 where
  pub of : met.kind ≡ kind
  pub seen : met.is_met ≡ true → (p : ℕ) × AnyAt (IsOfKind kind) attributes p
  pub unseen : met.is_met ≡ false → (p : ℕ) → AnyAt (IsOfKind kind) attributes p → ⊥
  pub least : IsLeastOf (PairAt (AreOfKind kind) attributes) met.second
