-- The conditions of a graph: those of EXIT and of WHEN.
use Rattle.std.specs.Prelude.{ℕ, Option, Some, None, ◌⊎◌}
use Rattle.flow_model.specs.declared.trees.CondAt.{CondAt}
use Rattle.flow_model.specs.declared.trees.WhenTree.{WhenTree}
use Rattle.flow_model.specs.declared.trees.WhenTree.TheVariants as when
use Rattle.text_graphs.specs.Attributes.{exit_said}
use Rattle.text_graphs.specs.Graphs.{GraphAt}
use Rattle.text_graphs.specs.Places.{AnyAt}
use Rattle.text_graphs.specs.Texts.{activities_in, controls_in}

-- the condition of a connector
abbrev pub when_said : WhenTree → Option CondAt
when_said when.Always = None
when_said (when.Cond c) = Some c
when_said when.Otherwise = None

-- it is such a place of a condition, where there is one
abbrev pub OfSaid : (CondAt → ℕ → Type 0) → Option CondAt → ℕ → Type 0
OfSaid places None p = ⊥
OfSaid places (Some c) p = places c p

-- of EXIT
abbrev pub InExits : (CondAt → ℕ → Type 0) → GraphAt → ℕ → Type 0
InExits places g = AnyAt (λ a. AnyAt (λ x. OfSaid places (exit_said x.what)) a.attrs) (activities_in g.elements)

-- of WHEN
abbrev pub InConnectors : (CondAt → ℕ → Type 0) → GraphAt → ℕ → Type 0
InConnectors places g = AnyAt (λ c. OfSaid places (when_said c.when)) (controls_in g.elements)

-- of any condition of a graph
abbrev pub InConditions : (CondAt → ℕ → Type 0) → GraphAt → ℕ → Type 0
InConditions places g p = InExits places g p ⊎ InConnectors places g p
