use Rattle.std.proofs.Common.{map, sym}
use Rattle.process_rules.specs.Callees.{call_at, call_of}
use Rattle.process_rules.specs.Calling.{callee_meant}
use Rattle.process_rules.proofs.InOrder.{gathered_past, gathered_next}
use Rattle.process_rules.proofs.callees.add_calls.Goals as goal
use Rattle.process_rules.proofs.callees.add_calls.Goals.{in-Some+in_ok-push-in-Some, in-None}

pub loop-activity-preserved : goal.loop-activity-preserved
loop-activity-preserved c =
    let items = c.args.scope.now.activities.items in
    let before = map call_at c.args.calls.now.items in
    let f = call_of (callee_meant c.args.known.now) c.args.scope.now.process in
    let activity = c.activity-item.result in
    let less = rw c.deref-activity-items.ensures.value at c.loop-activity-test.true in
    let is = rw c.deref-activity-items.ensures.value at c.activity-item.is in
    elim c.match-process_call.branch [
      | in-Some+in_ok-push-in-Some w ↦ rw w.calls-is (gathered_next f call_at before items c.loop-activity.activity-index activity less is c.loop-activity.calls.items w.push.new.self.items w.in-Some.call (sym w.in-Some.ensures) w.in_ok-push-in-Some.ensures.items c.loop-activity.invariant)
      | in-None w ↦ rw w.calls-is (gathered_past f call_at before items c.loop-activity.activity-index activity less is c.loop-activity.calls.items (sym w.in-None.ensures) c.loop-activity.invariant)
    ]
