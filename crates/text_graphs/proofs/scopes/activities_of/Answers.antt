use Rattle.std.proofs.Common.{◌≡◌, Some, None, ap}
use Rattle.text_graphs.specs.Texts.{activity_of}
use Rattle.text_graphs.proofs.Sorting.{sorted_past, sorted_next}
use Rattle.text_graphs.proofs.scopes.activities_of.Goals as goal
use Rattle.text_graphs.proofs.scopes.activities_of.Goals.{in-Activity+in_ok-push-in-Activity, in-Control, in-Line}

pub loop-element-preserved : goal.loop-element-preserved
loop-element-preserved c =
    let past = λ (none : activity_of c.element-item.result ≡ None).
    sorted_past activity_of c.args.elements.now c.loop-element.element-index c.element-item.result c.loop-element-test.true c.element-item.is c.loop-element.activities.items none c.loop-element.invariant in
    elim c.match-element.branch [
      | in-Activity+in_ok-push-in-Activity w ↦
          let some : activity_of c.element-item.result ≡ Some w.in-Activity.activity = ap activity_of w.in-Activity.is in
          rw w.activities-is
          (sorted_next activity_of c.args.elements.now c.loop-element.element-index c.element-item.result c.loop-element-test.true c.element-item.is c.loop-element.activities.items w.push.new.self.items _ some
          w.in_ok-push-in-Activity.ensures.items c.loop-element.invariant)
      | in-Control w ↦ rw w.activities-is (past (ap activity_of w.in-Control.is))
      | in-Line w ↦ rw w.activities-is (past (ap activity_of w.in-Line.is))
    ]
