use Rattle.std.proofs.Common.{◌≡◌, map, take}
use Rattle.text_graphs.specs.Texts.{structures_in}
use Rattle.leaf_rules.proofs.structures.structures_of.Given as goal

abbrev pub invariant-loop-item : goal.invariant-loop-item
invariant-loop-item l = map (λ s. s.now) l.structures.items ≡ structures_in (take l.item-index l.items)
