use Rattle.std.proofs.Common.{take}
use Rattle.process_rules.specs.Doers.{NamesNoPerformer}
use Rattle.text_graphs.specs.Graphs.{graph_at}
use Rattle.text_graphs.specs.Places.{IsLeastOf, AnyAt}
use Rattle.process_rules.proofs.doers.wrong_performers.Given as goal

abbrev pub invariant-loop-scope : goal.invariant-loop-scope
invariant-loop-scope l = IsLeastOf (AnyAt (λ s. NamesNoPerformer (graph_at s)) (take l.scope-index l.scopes)) l.least
