use Rattle.std.proofs.Common.{◌≡◌, Some, None, ap}
use Rattle.text_graphs.specs.Texts.{structure_of}
use Rattle.text_graphs.proofs.Sorting.{sorted_past, sorted_next}
use Rattle.leaf_rules.proofs.structures.structures_of.Goals as goal
use Rattle.leaf_rules.proofs.structures.structures_of.Goals.{in-Structure+in_ok-push-in-Structure, in-Person, in-Process}

pub loop-item-preserved : goal.loop-item-preserved
loop-item-preserved c =
    let past = λ (none : structure_of c.item-item.result ≡ None).
    sorted_past structure_of c.args.items.now c.loop-item.item-index c.item-item.result c.loop-item-test.true c.item-item.is c.loop-item.structures.items none c.loop-item.invariant in
    elim c.match-item.branch [
      | in-Structure+in_ok-push-in-Structure w ↦
          let some : structure_of c.item-item.result ≡ Some w.in-Structure.structure = ap structure_of w.in-Structure.is in
          rw w.structures-is
          (sorted_next structure_of c.args.items.now c.loop-item.item-index c.item-item.result c.loop-item-test.true c.item-item.is c.loop-item.structures.items w.push.new.self.items _ some
          w.in_ok-push-in-Structure.ensures.items c.loop-item.invariant)
      | in-Person w ↦ rw w.structures-is (past (ap structure_of w.in-Person.is))
      | in-Process w ↦ rw w.structures-is (past (ap structure_of w.in-Process.is))
    ]
