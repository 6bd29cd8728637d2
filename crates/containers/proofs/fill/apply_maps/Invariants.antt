use Rattle.std.proofs.Common.{◌≡◌, drop}
use Rattle.flow_model.specs.Containers.{mapped}
use Rattle.containers.proofs.fill.apply_maps.Given as goal

abbrev pub invariant-loop-map : goal.invariant-loop-map
invariant-loop-map l = mapped (drop l.map-index l.maps) l.source l.changed ≡ mapped l.maps l.source l.initial.changed
