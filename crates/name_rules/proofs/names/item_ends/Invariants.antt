use Rattle.std.proofs.Common.{take}
use Rattle.text_graphs.specs.Places.{IsLeastOf, AnyAt}
use Rattle.name_rules.specs.Names.{IsItemEnd}
use Rattle.name_rules.proofs.names.item_ends.Given as goal

abbrev pub invariant-loop-item : goal.invariant-loop-item
invariant-loop-item l = IsLeastOf (AnyAt IsItemEnd (take l.item-index l.items)) l.least
