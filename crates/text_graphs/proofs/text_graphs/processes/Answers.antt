use Rattle.std.proofs.Common.{◌≡◌, Some, None, ap}
use Rattle.text_graphs.specs.Texts.{process_of}
use Rattle.text_graphs.proofs.Sorting.{sorted_past, sorted_next}
use Rattle.text_graphs.proofs.text_graphs.processes.Goals as goal
use Rattle.text_graphs.proofs.text_graphs.processes.Goals.{in-Process+in_ok-push-in-Process, in-Structure, in-Person}

pub loop-item-preserved : goal.loop-item-preserved
loop-item-preserved c =
    let items = c.as_slice-item-items.result.now in
    let past = λ (none : process_of c.item-item.result ≡ None).
    sorted_past process_of items c.loop-item.item-index c.item-item.result c.loop-item-test.true c.item-item.is c.loop-item.processes.items none c.loop-item.invariant in
    elim c.match-item.branch [
      | in-Process+in_ok-push-in-Process w ↦
          let some : process_of c.item-item.result ≡ Some w.in-Process.process = ap process_of w.in-Process.is in
          rw w.processes-is
          (sorted_next process_of items c.loop-item.item-index c.item-item.result c.loop-item-test.true c.item-item.is c.loop-item.processes.items w.push.new.self.items _ some
          w.in_ok-push-in-Process.ensures.items c.loop-item.invariant)
      | in-Structure w ↦ rw w.processes-is (past (ap process_of w.in-Structure.is))
      | in-Person w ↦ rw w.processes-is (past (ap process_of w.in-Person.is))
    ]
