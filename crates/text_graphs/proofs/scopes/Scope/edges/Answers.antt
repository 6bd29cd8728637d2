use Rattle.std.proofs.Common.{sym, ◌∙◌, arith}
use Rattle.text_graphs.specs.Texts.{edge_of}
use Rattle.text_graphs.proofs.Judging.{pair_below}
use Rattle.text_graphs.proofs.Sorting.{chosen_past, chosen_next}
use Rattle.text_graphs.proofs.scopes.Scope.edges.Goals as goal
use Rattle.text_graphs.proofs.scopes.Scope.edges.Goals.{in-Some+in_ok-add-in-Some, in-None}

pub loop-control-preserved : goal.loop-control-preserved
loop-control-preserved c =
    let elements = c.args.self.now.elements.now in
    let items = c.args.self.now.controls.items in
    let control = c.control-item.result in
    let less = rw c.deref-control-items.ensures.value at c.loop-control-test.true in
    let is = rw c.deref-control-items.ensures.value at c.control-item.is in
    let nodes = c.loop-control.invariant.0 in
    elim c.match-ends.branch [
      | in-Some+in_ok-add-in-Some w ↦
          let below = pair_below elements control.now.from.name control.now.to.name w.in-Some.from w.in-Some.to (sym w.in-Some.ensures) in
          let added = w.in_ok-add-in-Some.ensures.added (omega (arith, nodes, below.0)) (omega (arith, nodes, below.1)) in
          rw w.edges-is (
            w.in_ok-add-in-Some.ensures.nodes ∙ nodes,
            chosen_next (edge_of elements) items c.loop-control.control-index control less is c.loop-control.edges.pairs.items w.add.new.self.pairs.items (w.in-Some.from, w.in-Some.to) (sym w.in-Some.ensures) added c.loop-control.invariant.1,
          )
      | in-None w ↦
          rw w.edges-is
          (nodes, chosen_past (edge_of elements) items c.loop-control.control-index control less is c.loop-control.edges.pairs.items (sym w.in-None.ensures) c.loop-control.invariant.1)
    ]
