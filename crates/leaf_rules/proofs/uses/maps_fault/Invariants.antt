use Rattle.std.proofs.Common.{take}
use Rattle.text_graphs.specs.Places.{IsLeastOf, AnyAt}
use Rattle.leaf_rules.specs.Searches.{breaks_of}
use Rattle.leaf_rules.proofs.uses.maps_fault.Given as goal

abbrev pub invariant-loop-map : goal.invariant-loop-map
invariant-loop-map l = IsLeastOf (AnyAt (breaks_of l.search l.from.leaves l.to.leaves) (take l.map-index l.maps)) l.least
