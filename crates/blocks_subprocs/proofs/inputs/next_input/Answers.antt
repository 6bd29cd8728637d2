use Rattle.std.proofs.Common.{◌≡◌, ◌∙◌, ap, arith}
use Rattle.std.specs.List.{fold}
use Rattle.std.specs.Option.{option_map_or}
use Rattle.std.specs.Prelude.{slice_get}
use Rattle.std.proofs.lemmas.Grind.{common_steps}
use Rattle.flow_model.specs.declared.graphs.Graph.{out-Graph}
use Rattle.flow_model.specs.Wiring.{row_at}
use Rattle.blocks_subprocs.proofs.Lines.{looped_through, with_loop}
use Rattle.blocks_subprocs.proofs.inputs.next_input.Goals as goal

pub returns : goal.returns
returns c = λ looping.
    let named = c.row-place-items.ensures ∙ ap (λ rows. row_at rows c.args.place) c.as_slice.ensures ∙ looping c.args.place in
    let e = looped_through (out-Graph c.args.graph.now).loops c.args.place c.args.last.now c.args.base _ named in
    let all : c.loop-place.changed ≡ fold (λ d p. option_map_or (with_loop c.args.last.now d) (slice_get c.as_slice-loops.result.now p) d) c.args.base c.row-place-items.result.now
    = grind (arith, common_steps, c.loop-place.invariant) in
    rw c.as_slice-loops.ensures at all ∙ e
