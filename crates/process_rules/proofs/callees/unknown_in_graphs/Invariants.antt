use Rattle.std.proofs.Common.{take}
use Rattle.process_rules.specs.Callees.{NamesNone}
use Rattle.process_rules.specs.Calling.{callee_meant}
use Rattle.text_graphs.specs.Graphs.{graph_at}
use Rattle.text_graphs.specs.Places.{IsLeastOf, AnyAt}
use Rattle.process_rules.proofs.callees.unknown_in_graphs.Given as goal

abbrev pub invariant-loop-scope : goal.invariant-loop-scope
invariant-loop-scope l = IsLeastOf (AnyAt (λ s. NamesNone (callee_meant l.known) (graph_at s)) (take l.scope-index l.scopes)) l.least
