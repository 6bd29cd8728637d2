-- Rule 24: more than is allowed of processes, of a graph's activities or lines, or of a condition's parts.
use Rattle.std.specs.Prelude.{◌≡◌, ◌<◌, ◌⊎◌, ℕ, Some, List, slice_get}
use Rattle.conditions.specs.Sizes.{operands_of, nodes_of}
use Rattle.flow_model.specs.declared.trees.CondAt.{CondAt}
use Rattle.flow_model.specs.declared.trees.ProcessTree.{ProcessTree}
use Rattle.text_graphs.specs.Graphs.{GraphAt}
use Rattle.text_graphs.specs.Texts.{activities_in, controls_in, lines_in}
use Rattle.process_rules.specs.Said.{InConditions}

-- the place of the first element behind this many
abbrev pub IsExtra : {X : Type 0} → (X → ℕ) → ℕ → List X → ℕ → Type 0
IsExtra {X} place_of most xs p = (x : X) × (slice_get xs most ≡ Some x) × (place_of x ≡ p)

-- of a condition with too many operands or nodes
abbrev pub IsLarge : CondAt → ℕ → Type 0
IsLarge c p = ((64 < operands_of c.cond) ⊎ (256 < nodes_of c.cond)) × (c.place ≡ p)

-- of an activity or a line behind those that a graph may have
abbrev pub IsLineExtra : GraphAt → ℕ → Type 0
IsLineExtra g p = IsExtra (λ a. a.place) 1024 (activities_in g.elements) p
    ⊎ (IsExtra (λ c. c.place) 4096 (controls_in g.elements) p ⊎ IsExtra (λ l. l.place) 4096 (lines_in g.elements) p)

-- of what is too much in a graph
abbrev pub IsTooMuch : GraphAt → ℕ → Type 0
IsTooMuch g p = IsLineExtra g p ⊎ InConditions IsLarge g p

-- of what is too much in a text, or in one of its graphs
abbrev pub IsTooMuchOf : List ProcessTree → (ℕ → Type 0) → ℕ → Type 0
IsTooMuchOf processes in_graphs p = IsExtra (λ q. q.place) 256 processes p ⊎ in_graphs p
