use Rattle.std.proofs.Common.{◌≡◌, ap, ◌∙◌, arith}
use Rattle.std.specs.Prelude.{◌==◌, slice_get, option_and_then}
use Rattle.std.specs.List.{filter_map}
use Rattle.std.proofs.lemmas.Grind.{common_steps}
use Rattle.std.proofs.lemmas.List.Elements.{filter_map-append}
use Rattle.flow_model.specs.declared.graphs.Graph.{out-Graph}
use Rattle.dead_paths.specs.Signals.{signal_of}
use Rattle.dead_paths.proofs.Places.{at_places_are, found_at}
use Rattle.dead_paths.proofs.signals.signals_of.Goals as goal

pub loop-place-preserved : goal.loop-place-preserved
loop-place-preserved c = λ wired.
    let before = c.loop-place.invariant wired in
    let message = c.in_ok-message.ensures wired in
    grind (arith, common_steps, filter_map-append, before, message, c.in_ok-add.ensures)

pub returns : goal.returns
returns c = λ wired.
    let controls = (out-Graph c.args.graph.now).controls in
    let h = signal_of c.args.graph.now c.args.scope.now c.args.end.now in
    let all : c.loop-place.signals ≡ filter_map (λ p. option_and_then h (slice_get controls p)) c.row-place-items.result.now = grind (arith, common_steps, c.loop-place.invariant wired) in
    all ∙ found_at h controls _ ∙ ap (filter_map h)
    (rw (c.row-place-items.ensures, c.as_slice.ensures, wired c.args.activity) (at_places_are (λ d. d.from == c.args.activity) controls))
