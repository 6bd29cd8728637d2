use Rattle.std.proofs.Common.{not, ap, ◌∙◌}
use Rattle.std.specs.Prelude.{◌==◌}
use Rattle.flow_model.specs.Fates.{when_true}
use Rattle.flow_model.specs.declared.graphs.Control.{Control}
use Rattle.flow_model.specs.declared.graphs.Graph.{out-Graph}
use Rattle.dead_paths.proofs.Places.{at_places_are, any_at, any_filter}
use Rattle.dead_paths.proofs.signals.truth.Goals as goal

pub returns-in-Otherwise : goal.returns-in-Otherwise
returns-in-Otherwise c = λ wired.
    let controls = (out-Graph c.args.graph.now).controls in
    let f = λ (d : Control). when_true d.when c.args.output.now in
    rw c.in-Otherwise.is
    (ap not (c.some_when.ensures
    ∙ rw (c.as_slice-in-Otherwise.ensures, c.row-places.ensures, c.as_slice.ensures, wired c.args.control.now.from)
    (any_at f controls _ ∙ rw (at_places_are (λ d. d.from == c.args.control.now.from) controls) (any_filter (λ d. d.from == c.args.control.now.from) f controls))))
