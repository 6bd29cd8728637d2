use Rattle.std.proofs.Common.{◌≡◌, ◌≤◌, ◌∙◌, ℕ, Some, ap, arith}
use Rattle.std.specs.Prelude.{slice_get}
use Rattle.flow_model.specs.declared.graphs.DataLine.{DataLine}
use Rattle.flow_model.specs.declared.graphs.Graph.{out-Graph}
use Rattle.flow_model.specs.declared.graphs.MapEnd.TheVariants.{Activity as At}
use Rattle.flow_model.specs.Wiring.{row_at}
use Rattle.fate_eval.specs.Timely.{after_of}
use Rattle.fate_eval.proofs.Sources.{lines_after, lines_back, all_more, all_taken}
use Rattle.fate_eval.proofs.scopes.fed_after.Goals as goal

pub loop-place-preserved : goal.loop-place-preserved
loop-place-preserved c = record {
  later = omega (arith, c.loop-place.invariant.later, c.max-known.ensures);
  all = all_more (λ p. (d : DataLine) (b : ℕ) → slice_get (out-Graph c.args.graph.now).lines p ≡ Some d → d.from ≡ At b → after_of c.args.afters.now b ≤ c.loop-place.known)
      (λ p. (d : DataLine) (b : ℕ) → slice_get (out-Graph c.args.graph.now).lines p ≡ Some d → d.from ≡ At b → after_of c.args.afters.now b ≤ c.max-known.result)
      c.row-place-items.result.now c.loop-place.place-index 0 c.loop-place-test.true
      (λ p before d b there from. let h = before d b there from in omega (arith, h, c.max-known.ensures))
      c.loop-place.invariant.all
      (λ d b there from. let h = (rw c.as_slice-in-loop-place.ensures at c.line_after.ensures.later) d b there from in omega (arith, h, c.max-known.ensures));
  least = λ n low each.
      let before = c.loop-place.invariant.least n low each in
      let here = (rw c.as_slice-in-loop-place.ensures at c.line_after.ensures.least) n (λ d b there from. each c.loop-place.place-index 0 c.loop-place-test.true d b there from) in
      omega (arith, before, here, c.max-known.ensures);
}

pub returns-clause-least : goal.returns-clause-least
returns-clause-least c = λ feeding n low after.
    let named = c.row-place-items.ensures ∙ ap (λ rows. row_at rows c.args.place) c.as_slice.ensures ∙ feeding c.args.place in
    c.loop-place.invariant.least n low (lines_back (out-Graph c.args.graph.now).lines c.args.afters.now c.args.place n c.row-place-items.result.now named after)

pub returns-clause-lines : goal.returns-clause-lines
returns-clause-lines c = λ feeding.
    let named = c.row-place-items.ensures ∙ ap (λ rows. row_at rows c.args.place) c.as_slice.ensures ∙ feeding c.args.place in
    lines_after (out-Graph c.args.graph.now).lines c.args.afters.now c.args.place c.loop-place.known c.row-place-items.result.now named
    (all_taken (λ p. (d : DataLine) (b : ℕ) → slice_get (out-Graph c.args.graph.now).lines p ≡ Some d → d.from ≡ At b → after_of c.args.afters.now b ≤ c.loop-place.known) c.row-place-items.result.now c.loop-place.place-index (omega arith) c.loop-place.invariant.all)
