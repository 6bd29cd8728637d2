use Rattle.std.proofs.Common.{take, map}
use Rattle.text_graphs.specs.Meeting.{AreMet}
use Rattle.text_graphs.specs.Texts.{processes_in}
use Rattle.name_rules.proofs.names.second_process.Given as goal

abbrev pub invariant-loop-item : goal.invariant-loop-item
invariant-loop-item l = AreMet l.processes (map (λ p. p.name) (processes_in (take l.item-index l.items)))
