use Rattle.std.proofs.Common.{sym, subst}
use Rattle.template_check.specs.Found.{IsMapFound}
use Rattle.template_check.specs.Meant.{IsOne, IsMap, NoneLeft}
use Rattle.template_check.proofs.Meaning.{parts_next, read_more}
use Rattle.template_check.proofs.building.leaf_maps.Goals as goal

pub leaf_map-requires-clause-found : goal.leaf_map-requires-clause-found
leaf_map-requires-clause-found c =
    subst (IsMapFound c.args.from.now.leaves c.args.to.now.leaves) (sym c.map-item.is)
    (c.requires.found c.loop-map.map-index c.map-item.result c.loop-map-test.true)

pub loop-map-init : goal.loop-map-init
loop-map-init c = rw c.new-places.ensures NoneLeft

pub loop-map-preserved : goal.loop-map-preserved
loop-map-preserved c =
    parts_next (IsOne (IsMap c.args.from.now.leaves c.args.to.now.leaves)) _ _ c.map-item.result c.loop-map.places c.push.new.self c.leaf_map.result
    (read_more c.args.maps.now c.loop-map.map-index c.map-item.result c.loop-map-test.true c.map-item.is) c.in_ok-push.ensures.ok c.leaf_map.ensures c.loop-map.invariant
