use Rattle.std.proofs.Common.{take, map}
use Rattle.text_graphs.specs.Meeting.{AreMet}
use Rattle.text_graphs.specs.Texts.{structures_in}
use Rattle.name_rules.proofs.names.second_structure.Given as goal

abbrev pub invariant-loop-item : goal.invariant-loop-item
invariant-loop-item l = AreMet l.structures (map (λ s. s.name) (structures_in (take l.item-index l.items)))
