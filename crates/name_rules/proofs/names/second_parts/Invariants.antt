use Rattle.std.proofs.Common.{take}
use Rattle.text_graphs.specs.Places.{IsLeastOf, AnyAt}
use Rattle.name_rules.specs.Names.{IsPartAgain}
use Rattle.name_rules.proofs.names.second_parts.Given as goal

abbrev pub invariant-loop-item : goal.invariant-loop-item
invariant-loop-item l = IsLeastOf (AnyAt IsPartAgain (take l.item-index l.items)) l.least
