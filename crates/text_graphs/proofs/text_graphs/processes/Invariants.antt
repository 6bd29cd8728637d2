use Rattle.std.proofs.Common.{◌≡◌, map, take}
use Rattle.text_graphs.specs.Texts.{processes_in}
use Rattle.text_graphs.proofs.text_graphs.processes.Given as goal

abbrev pub invariant-loop-item : goal.invariant-loop-item
invariant-loop-item l = map (λ p. p.now) l.processes.items ≡ processes_in (take l.item-index l.item-items)
