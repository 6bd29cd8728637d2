use Rattle.std.proofs.Common.{ℕ, ◌≤◌, ◌^◌, List, length, Option, Bool}
use Rattle.flow_model.specs.Wiring.{IsFeeding, IsOutgoing}
use Rattle.flow_model.specs.declared.graphs.Graph.{out-Graph}
use Rattle.navigator.specs.Steps.{fields, told, AreTallied, DecidesFirst}
use Rattle.navigator.proofs.scopes.ScopeState.begin.Given as goal

abbrev pub invariant-loop-place : goal.invariant-loop-place
invariant-loop-place l =
    IsFeeding l.graph → IsOutgoing l.graph → length (out-Graph l.graph).activities ≤ 2 ^ 32 → (values : ℕ → List (Option Bool)) → AreTallied l.graph values (fields l.initial.self).tallies
    → DecidesFirst l.with.library.now.templates l.graph l.path l.with.clock values l.place (fields l.initial.self) (fields l.self) (told l.initial.effects) (told l.effects)
