use Rattle.std.proofs.Common.{◌∙◌, ap}
use Rattle.flow_model.specs.declared.graphs.Graph.{out-Graph}
use Rattle.flow_model.specs.declared.graphs.MapEnd.TheVariants.{Activity as At}
use Rattle.flow_model.specs.Wiring.{row_at}
use Rattle.blocks_subprocs.specs.Ends.{ends_of}
use Rattle.blocks_subprocs.proofs.Lines.{fed_through}
use Rattle.blocks_subprocs.proofs.inputs.first_input.Goals as goal

pub returns : goal.returns
returns c = λ feeding.
    let named = c.row-places.ensures ∙ ap (λ rows. row_at rows c.args.place) c.as_slice.ensures ∙ feeding c.args.place in
    let e = fed_through (out-Graph c.args.graph.now).lines (At c.args.place) c.args.scope_input.now (ends_of c.args.ends.now) c.in_ok-target.target _ named in
    rw (← c.in_ok-target.ensures, ← e, ← c.as_slice-2.ensures) c.with_lines.ensures
