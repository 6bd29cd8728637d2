use Rattle.std.proofs.Common.{◌≡◌, ap, ◌∙◌, arith, map}
use Rattle.std.specs.Prelude.{◌==◌, slice_get}
use Rattle.std.specs.List.{filter_map}
use Rattle.std.specs.Option.{option_map}
use Rattle.std.proofs.lemmas.Grind.{common_steps}
use Rattle.std.proofs.lemmas.List.Elements.{filter_map-append}
use Rattle.blocks_subprocs.specs.Ends.{ends_of}
use Rattle.flow_model.specs.Fates.{connector_value}
use Rattle.flow_model.specs.declared.graphs.Control.{Control}
use Rattle.flow_model.specs.declared.graphs.Graph.{out-Graph}
use Rattle.flow_model.specs.Wiring.{row_at}
use Rattle.dead_paths.proofs.Places.{at_places_are}
use Rattle.fate_eval.proofs.Rows.{mapped_at}
use Rattle.fate_eval.proofs.scopes.values.Goals as goal

pub loop-place-preserved : goal.loop-place-preserved
loop-place-preserved c = λ outgoing.
    grind (arith, common_steps, filter_map-append, c.loop-place.invariant outgoing, c.value_at-value.ensures outgoing, c.in_ok-add.ensures)

pub returns : goal.returns
returns c = λ incoming outgoing.
    let controls = (out-Graph c.args.graph.now).controls in
    let f = λ (d : Control). connector_value controls d (ends_of c.args.ends.now d.from) in
    let all : c.loop-place.values.items ≡ filter_map (λ p. option_map f (slice_get controls p)) c.row-place-items.result.now = grind (arith, common_steps, c.loop-place.invariant outgoing) in
    let named = c.row-place-items.ensures ∙ ap (λ rows. row_at rows c.args.place) c.as_slice.ensures ∙ incoming c.args.place in
    all ∙ mapped_at f controls _ ∙ ap (map f) (rw named (at_places_are (λ d. d.to == c.args.place) controls))
