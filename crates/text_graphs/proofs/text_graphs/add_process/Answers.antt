use Rattle.std.proofs.Common.{◌∙◌}
use Rattle.text_graphs.proofs.Listing.{grows_pushed, has_pushed, on_ok, on_ok_both}
use Rattle.text_graphs.specs.Graphs.{graphs_in}
use Rattle.text_graphs.proofs.Graphs.{same_graph, added_process}
use Rattle.text_graphs.proofs.text_graphs.add_process.Goals as goal

pub returns-clause-kept : goal.returns-clause-kept
returns-clause-kept c =
    on_ok c.add_blocks.result
    (λ grows elements h. grows elements (grows_pushed c.args.scopes.now.items c.push.new.self.items c.in_ok-scope.scope c.in_ok-push.ensures.items elements h))
    c.add_blocks.ensures.kept

pub returns-clause-covered : goal.returns-clause-covered
returns-clause-covered c =
    let elements = c.args.process.now.elements in
    let here = has_pushed c.args.scopes.now.items c.push.new.self.items c.in_ok-scope.scope elements c.in_ok-push.ensures.items (c.in_ok-scope.ensures.elements ∙ c.as_slice-elements.ensures) in
    let blocks = rw c.as_slice-elements.ensures at c.add_blocks.ensures.blocks in
    on_ok_both c.add_blocks.result (λ grows inside. (grows elements here, inside)) c.add_blocks.ensures.kept blocks

pub returns-clause-added : goal.returns-clause-added
returns-clause-added c =
    let p = c.args.process.now in
    let made = c.in_ok-scope.ensures in
    let here = same_graph c.in_ok-scope.scope c.args.number p.place p.input p.output p.elements (made.numbered ∙ c.in_ok-number.ensures) made.place made.input made.output (made.elements ∙ c.as_slice-elements.ensures) in
    let inside = rw c.in_ok-number.ensures at (rw c.as_slice-elements.ensures at c.add_blocks.ensures.added) in
    on_ok c.add_blocks.result (added_process c.args.number c.args.scopes.now.items c.push.new.self.items (graphs_in c.add_blocks.new.scopes.items) c.in_ok-scope.scope p here c.in_ok-push.ensures.items) inside
