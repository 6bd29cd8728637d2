use Rattle.graph_check.specs.Grouping.{IsGrouped, Grows, work_left}
use Rattle.graph_check.proofs.strong.Grouping.run.Given as goal

abbrev pub invariant-turns : goal.invariant-turns
invariant-turns l = record { grouped : IsGrouped l.nodes l.edges l.self; grows : Grows l.nodes l.initial.self l.self }

abbrev pub decreases-turns : goal.decreases-turns
decreases-turns l = work_left l.self
