use Rattle.std.proofs.Common.{◌≡◌, Some, None, ap}
use Rattle.text_graphs.specs.Texts.{control_of}
use Rattle.text_graphs.proofs.Sorting.{sorted_past, sorted_next}
use Rattle.text_graphs.proofs.scopes.controls_of.Goals as goal
use Rattle.text_graphs.proofs.scopes.controls_of.Goals.{in-Control+in_ok-push-in-Control, in-Activity, in-Line}

pub loop-element-preserved : goal.loop-element-preserved
loop-element-preserved c =
    let past = λ (none : control_of c.element-item.result ≡ None).
    sorted_past control_of c.args.elements.now c.loop-element.element-index c.element-item.result c.loop-element-test.true c.element-item.is c.loop-element.controls.items none c.loop-element.invariant in
    elim c.match-element.branch [
      | in-Control+in_ok-push-in-Control w ↦
          let some : control_of c.element-item.result ≡ Some w.in-Control.control = ap control_of w.in-Control.is in
          rw w.controls-is
          (sorted_next control_of c.args.elements.now c.loop-element.element-index c.element-item.result c.loop-element-test.true c.element-item.is c.loop-element.controls.items w.push.new.self.items _ some
          w.in_ok-push-in-Control.ensures.items c.loop-element.invariant)
      | in-Activity w ↦ rw w.controls-is (past (ap control_of w.in-Activity.is))
      | in-Line w ↦ rw w.controls-is (past (ap control_of w.in-Line.is))
    ]
