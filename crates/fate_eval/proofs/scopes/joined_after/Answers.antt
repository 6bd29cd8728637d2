use Rattle.std.proofs.Common.{◌≡◌, ◌≤◌, ◌∙◌, Some, ap, arith}
use Rattle.std.specs.Prelude.{slice_get}
use Rattle.flow_model.specs.declared.graphs.Control.{Control}
use Rattle.flow_model.specs.declared.graphs.Graph.{out-Graph}
use Rattle.flow_model.specs.Wiring.{row_at}
use Rattle.fate_eval.specs.Timely.{after_of}
use Rattle.fate_eval.proofs.Sources.{controls_after, controls_back, all_more, all_taken}
use Rattle.fate_eval.proofs.scopes.joined_after.Goals as goal

pub loop-place-preserved : goal.loop-place-preserved
loop-place-preserved c = record {
  later = omega (arith, c.loop-place.invariant.later, c.max-known.ensures);
  all = all_more (λ p. (d : Control) → slice_get (out-Graph c.args.graph.now).controls p ≡ Some d → after_of c.args.afters.now d.from ≤ c.loop-place.known)
      (λ p. (d : Control) → slice_get (out-Graph c.args.graph.now).controls p ≡ Some d → after_of c.args.afters.now d.from ≤ c.max-known.result)
      c.row-place-items.result.now c.loop-place.place-index 0 c.loop-place-test.true
      (λ p before d there. let h = before d there in omega (arith, h, c.max-known.ensures))
      c.loop-place.invariant.all
      (λ d there. let h = (rw c.as_slice-in-loop-place.ensures at c.control_after.ensures.later) d there in omega (arith, h, c.max-known.ensures));
  least = λ n low each.
      let before = c.loop-place.invariant.least n low each in
      let here = (rw c.as_slice-in-loop-place.ensures at c.control_after.ensures.least) n (λ d there. each c.loop-place.place-index 0 c.loop-place-test.true d there) in
      omega (arith, before, here, c.max-known.ensures);
}

pub returns-clause-least : goal.returns-clause-least
returns-clause-least c = λ incoming n low after.
    let named = c.row-place-items.ensures ∙ ap (λ rows. row_at rows c.args.place) c.as_slice.ensures ∙ incoming c.args.place in
    c.loop-place.invariant.least n low (controls_back (out-Graph c.args.graph.now).controls c.args.afters.now c.args.place n c.row-place-items.result.now named after)

pub returns-clause-controls : goal.returns-clause-controls
returns-clause-controls c = λ incoming.
    let named = c.row-place-items.ensures ∙ ap (λ rows. row_at rows c.args.place) c.as_slice.ensures ∙ incoming c.args.place in
    controls_after (out-Graph c.args.graph.now).controls c.args.afters.now c.args.place c.loop-place.known c.row-place-items.result.now named
    (all_taken (λ p. (d : Control) → slice_get (out-Graph c.args.graph.now).controls p ≡ Some d → after_of c.args.afters.now d.from ≤ c.loop-place.known) c.row-place-items.result.now c.loop-place.place-index (omega arith) c.loop-place.invariant.all)
