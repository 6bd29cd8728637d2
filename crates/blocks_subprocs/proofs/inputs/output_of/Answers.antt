use Rattle.std.proofs.Common.{◌∙◌}
use Rattle.flow_model.specs.declared.graphs.Graph.{out-Graph}
use Rattle.flow_model.specs.declared.graphs.MapEnd.TheVariants.{Border}
use Rattle.blocks_subprocs.specs.Ends.{ends_of}
use Rattle.blocks_subprocs.proofs.Lines.{fed_through}
use Rattle.blocks_subprocs.proofs.inputs.output_of.Goals as goal

pub returns : goal.returns
returns c = λ sinking.
    let e = fed_through (out-Graph c.args.graph.now).lines Border c.args.scope_input.now (ends_of c.args.ends.now) c.in_ok-target.target _ (c.as_slice-places.ensures ∙ sinking) in
    rw (← c.in_ok-target.ensures, ← e, ← c.as_slice.ensures) c.with_lines.ensures
