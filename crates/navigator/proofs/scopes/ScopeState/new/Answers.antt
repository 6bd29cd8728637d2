use Rattle.std.proofs.Common.{◌≡◌, ◌<◌, length, Some, refl, ap, arith, false, None, replicate}
use Rattle.std.specs.Prelude.{slice_get}
use Rattle.std.proofs.lemmas.Option.{slice_get_read}
use Rattle.dead_paths.specs.Tallies.{Counts}
use Rattle.flow_model.specs.declared.graphs.Graph.{out-Graph}
use Rattle.navigator.specs.Fresh.{incoming_count}
use Rattle.navigator.specs.declared.scopes.ScopeState.{ScopeState, roll-ScopeState}
use Rattle.navigator.proofs.Making.{made_more, made_fresh}
use Rattle.navigator.proofs.Untouched.{fresh_shows}
use Rattle.navigator.proofs.scopes.ScopeState.new.Goals as goal

pub loop-i-preserved : goal.loop-i-preserved
loop-i-preserved c =
    let items = c.as_slice-activity-items.ensures in
    let at = c.activity-item.is in
    let less : c.loop-i.i < length c.as_slice-activity-items.result.now = c.loop-i-test.true in
    let here : slice_get c.as_slice-activity-items.result.now c.loop-i.i ≡ Some c.activity-item.result = slice_get_read c.as_slice-activity-items.result.now _ c.loop-i.i c.activity-item.result refl less at in
    let counts : Counts c.new.result (replicate (incoming_count c.args.graph.now c.loop-i.i) None) = rw (← c.incoming_count.ensures) c.new.ensures in
    rw (c.in_ok-push.ensures.items, c.in_ok-push-2.ensures.items, c.in_ok-push-3.ensures.items)
    (made_more c.args.graph.now c.loop-i.i c.loop-i.tallies.items c.loop-i.ends.items c.loop-i.states.items c.new.result c.new-in-loop-i.result c.activity-item.result c.loop-i.invariant
    (rw items at here) counts c.new-in-loop-i.ensures)

pub returns-clause-shows : goal.returns-clause-shows
returns-clause-shows c = λ ts depth k untouched incoming fits.
    let items = c.as_slice-activity-items.ensures in
    let past = c.loop-i-test.false in
    let lengths = ap length items in
    let within = c.loop-i.auto.i-end in
    let all : c.loop-i.i ≡ length (out-Graph c.args.graph.now).activities = omega arith in
    let s : ScopeState = roll-ScopeState (record { begun = false; input = c.args.input; tallies = c.loop-i.tallies; ends = c.loop-i.ends; states = c.loop-i.states; unsettled = c.len-count.result }) in
    fresh_shows ts depth k c.args.graph.now c.args.input s (made_fresh c.args.graph.now c.args.input s c.loop-i.i all refl refl c.len-count.ensures c.loop-i.invariant) untouched incoming fits
