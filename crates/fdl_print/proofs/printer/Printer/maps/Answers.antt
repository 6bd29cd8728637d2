use Rattle.std.proofs.Common.{refl, length, take, drop, ◌-◌}
use Rattle.fdl_print.specs.Elements.{map_pieces, later_map, maps_pieces}
use Rattle.fdl_print.proofs.Laying.{one_more, at_end, first_and_later}
use Rattle.fdl_print.proofs.printer.Printer.maps.Goals as goal

pub loop-map-preserved : goal.loop-map-preserved
loop-map-preserved c =
    let all = c.args.maps.now in
    one_more later_map (take (length all - 1) (drop 1 all)) c.loop-map.map-index c.map-item.result c.loop-map.self c.later_map.new.self _
    c.loop-map-test.true c.map-item.is c.loop-map.invariant c.in_ok-later_map.ensures

pub returns : goal.returns
returns c =
    let all = c.args.maps.now in
    first_and_later map_pieces later_map maps_pieces (λ x xs. refl) all c.first-item.result c.args.self.now c.map.new.self c.loop-map.self
    c.in-len1-up.len_at_least c.first-item.is c.in_ok-map.ensures
    (at_end later_map (take (length all - 1) (drop 1 all)) c.loop-map.map-index c.loop-map.self _ c.loop-map-test.false c.loop-map.invariant)
