use Rattle.std.proofs.Common.{sym}
use Rattle.text_graphs.specs.Texts.{edge_of}
use Rattle.text_graphs.proofs.Sorting.{chosen_past, chosen_next}
use Rattle.connector_rules.proofs.walks.pairs.Goals as goal
use Rattle.connector_rules.proofs.walks.pairs.Goals.{in-Some+in_ok-push-in-Some, in-None}

pub loop-control-preserved : goal.loop-control-preserved
loop-control-preserved c =
    let elements = c.args.scope.now.elements.now in
    let items = c.args.scope.now.controls.items in
    let control = c.control-item.result in
    let less = rw c.deref-control-items.ensures.value at c.loop-control-test.true in
    let is = rw c.deref-control-items.ensures.value at c.control-item.is in
    elim c.match-ends.branch [
      | in-Some+in_ok-push-in-Some w ↦
          rw w.pairs-is
          (chosen_next (edge_of elements) items c.loop-control.control-index control less is c.loop-control.pairs.items w.push.new.self.items w.in-Some.ends (sym w.in-Some.ensures) w.in_ok-push-in-Some.ensures.items c.loop-control.invariant)
      | in-None w ↦ rw w.pairs-is (chosen_past (edge_of elements) items c.loop-control.control-index control less is c.loop-control.pairs.items (sym w.in-None.ensures) c.loop-control.invariant)
    ]
