use Rattle.text_graphs.proofs.Finding.{least_more, least_all}
use Rattle.leaf_rules.specs.Searches.{breaks_of}
use Rattle.leaf_rules.proofs.uses.maps_fault.Goals as goal

pub loop-map-preserved : goal.loop-map-preserved
loop-map-preserved c =
    least_more (breaks_of c.args.search c.args.from.now.leaves c.args.to.now.leaves) c.args.maps.now c.loop-map.map-index c.map-item.result c.loop-map.least c.map_fault.result c.lesser-least.result c.loop-map-test.true c.map-item.is
    c.lesser-least.ensures.least c.loop-map.invariant c.map_fault.ensures

pub returns : goal.returns
returns c = least_all (breaks_of c.args.search c.args.from.now.leaves c.args.to.now.leaves) c.args.maps.now c.loop-map.map-index c.loop-map.least c.loop-map-test.false c.loop-map.invariant
