use Rattle.std.proofs.Common.{Bor, get_or, [], arith}
use Rattle.std.proofs.lemmas.List.Elements.{AllWithin-more, at_read}
use Rattle.flow_model.specs.declared.trees.ProcessTree.{ProcessTree}
use Rattle.text_graphs.specs.Blocks.{lists_of, IsCovered}
use Rattle.text_graphs.specs.Graphs.{graphs_in}
use Rattle.text_graphs.specs.Texts.{processes_in}
use Rattle.text_graphs.proofs.Judging.{all_behind}
use Rattle.text_graphs.proofs.Listing.{covered_stays}
use Rattle.text_graphs.proofs.Graphs.{processes_next, processes_none, all_graphs}
use Rattle.text_graphs.proofs.text_graphs.text_scopes.Goals as goal

pub loop-i-init : goal.loop-i-init
loop-i-init c = record {
  covered = λ k d low less. absurd (omega arith);
  added = rw c.new-scopes.ensures.items (processes_none c.deref-process-items.result.now);
}

pub loop-i-preserved : goal.loop-i-preserved
loop-i-preserved c =
    let P = λ (p : Bor ProcessTree). IsCovered (lists_of c.add_process.new.scopes.items) p.now.elements in
    let old = lists_of c.loop-i.scopes.items in
    let new = lists_of c.add_process.new.scopes.items in
    let items = c.deref-process-items.result.now in
    let put = c.in_ok-add_process.ensures in
    record {
      covered = AllWithin-more P items 0 c.loop-i.i (λ k d low less. covered_stays old new put.kept (get_or items k d).now.elements (c.loop-i.invariant.covered k d low less))
          (at_read items P c.loop-i.i c.process-item.result c.loop-i-test.true c.process-item.is put.covered);
      added = processes_next items c.loop-i.i c.process-item.result c.loop-i-test.true c.process-item.is [] (graphs_in c.loop-i.scopes.items) (graphs_in c.add_process.new.scopes.items) c.loop-i.invariant.added put.added;
    }

pub returns-clause-covered : goal.returns-clause-covered
returns-clause-covered c =
    let lists = lists_of c.loop-i.scopes.items in
    let P = λ (p : ProcessTree). IsCovered lists p.elements in
    all_behind P c.deref-process-items.result.now c.loop-i.i (processes_in c.args.tree.now.items) c.loop-i-test.false c.loop-i.invariant.covered (rw c.deref-process-items.ensures.value c.in_ok-processes.ensures)

pub returns-clause-graphs : goal.returns-clause-graphs
returns-clause-graphs c =
    all_graphs c.args.tree.now.items (graphs_in c.loop-i.scopes.items) c.deref-process-items.result.now c.loop-i.i c.loop-i-test.false (rw c.deref-process-items.ensures.value c.in_ok-processes.ensures) c.loop-i.invariant.added
