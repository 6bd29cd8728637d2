use Rattle.std.proofs.Common.{◌≡◌, Some, None, ap}
use Rattle.text_graphs.specs.Texts.{line_of}
use Rattle.text_graphs.proofs.Sorting.{sorted_past, sorted_next}
use Rattle.text_graphs.proofs.scopes.lines_of.Goals as goal
use Rattle.text_graphs.proofs.scopes.lines_of.Goals.{in-Line+in_ok-push-in-Line, in-Activity, in-Control}

pub loop-element-preserved : goal.loop-element-preserved
loop-element-preserved c =
    let past = λ (none : line_of c.element-item.result ≡ None).
    sorted_past line_of c.args.elements.now c.loop-element.element-index c.element-item.result c.loop-element-test.true c.element-item.is c.loop-element.lines.items none c.loop-element.invariant in
    elim c.match-element.branch [
      | in-Line+in_ok-push-in-Line w ↦
          let some : line_of c.element-item.result ≡ Some w.in-Line.line = ap line_of w.in-Line.is in
          rw w.lines-is
          (sorted_next line_of c.args.elements.now c.loop-element.element-index c.element-item.result c.loop-element-test.true c.element-item.is c.loop-element.lines.items w.push.new.self.items _ some
          w.in_ok-push-in-Line.ensures.items c.loop-element.invariant)
      | in-Activity w ↦ rw w.lines-is (past (ap line_of w.in-Activity.is))
      | in-Control w ↦ rw w.lines-is (past (ap line_of w.in-Control.is))
    ]
