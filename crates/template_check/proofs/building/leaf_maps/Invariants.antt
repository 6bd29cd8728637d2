use Rattle.std.proofs.Common.{take}
use Rattle.template_check.specs.Meant.{AreParts, IsOne, IsMap}
use Rattle.template_check.proofs.building.leaf_maps.Given as goal

abbrev pub invariant-loop-map : goal.invariant-loop-map
invariant-loop-map l = AreParts (IsOne (IsMap l.from.leaves l.to.leaves)) (take l.map-index l.maps) l.places
