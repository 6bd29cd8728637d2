use Rattle.std.proofs.Common.{ap, ◌∙◌}
use Rattle.flow_model.specs.declared.graphs.Graph.{out-Graph}
use Rattle.flow_model.specs.Wiring.{row_at}
use Rattle.blocks_subprocs.specs.Ends.{ends_of}
use Rattle.certificates.proofs.Rows.{fed_named}
use Rattle.certificates.proofs.scopes.Begun.is_fed.Goals as goal

pub returns : goal.returns
returns c = λ laid.
    let lines = (out-Graph c.args.self.now.graph.now).lines in
    let named = c.row-places.ensures ∙ ap (λ rows. row_at rows c.args.place) c.as_slice.ensures ∙ laid.feeding c.args.place in
    let e = fed_named lines c.args.place (ends_of c.args.self.now.ends.items) c.row-places.result.now named in
    rw (c.as_slice-2.ensures, c.deref.ensures.value) at c.are_ready.ensures ∙ e
