use Rattle.std.proofs.Common.{take}
use Rattle.text_graphs.specs.Places.{IsLeastOf, AnyAt}
use Rattle.text_graphs.specs.Graphs.{graph_at}
use Rattle.name_rules.specs.Names.{IsInsideAgain}
use Rattle.name_rules.proofs.names.second_in_graphs.Given as goal

abbrev pub invariant-loop-scope : goal.invariant-loop-scope
invariant-loop-scope l = IsLeastOf (AnyAt (λ s. IsInsideAgain (graph_at s)) (take l.scope-index l.scopes)) l.least
