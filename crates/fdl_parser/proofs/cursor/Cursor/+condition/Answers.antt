use Rattle.std.proofs.Common.{arith, ◌<◌}
use Rattle.fdl_parser.specs.Conditions.{Comparison, Denied, Bracketed, TwoNegations, MoreNegations, OneNegation, Negations, TwoConjunctions, MoreConjunctions, OneConjunction, Conjunctions}
use Rattle.fdl_parser.proofs.StopsConditions.{negation_compared, negation_denied, negation_bracketed, stops_comparison, stops_level, stops_denied, stops_inner, stops_closing, conjunction_first, conjunction_more, conjunction_taken, stops_first_negation, stops_next_negation, disjunction_first, disjunction_more, disjunction_taken, stops_first_conjunction, stops_next_conjunction}
use Rattle.fdl_parser.proofs.Stops.{at_err}
use Rattle.fdl_parser.proofs.StopsTokens.{stops_mark}
use Rattle.fdl_lexer.specs.declared.kinds.Mark.TheVariants as mark
use Rattle.flow_table.specs.declared.keyword.Keyword.TheVariants as word
use Rattle.std.proofs.Common.{[], ◌∷◌, inl, inr}
use Rattle.fdl_lexer.specs.declared.kinds.What.TheVariants.{Word, Mark}
use Rattle.fdl_parser.specs.Tokens.{first_kind}
use Rattle.fdl_parser.proofs.Shapes.{Among}
use Rattle.fdl_parser.proofs.cursor.Cursor.+condition.Goals.{negation-else-not-denies-via-then-not-denies+else-not-is_mark, negation-else-not-denies-via-else-not-denies}
use Rattle.fdl_parser.proofs.cursor.Cursor.+condition.Goals as goal

pub negation-returns-then-not-is_mark-clause-read : goal.negation-returns-then-not-is_mark-clause-read
negation-returns-then-not-is_mark-clause-read t c = Comparison c.in_ok-comparison.ensures.read

pub negation-returns-then-denies-clause-read : goal.negation-returns-then-denies-clause-read
negation-returns-then-denies-clause-read t c = let h : 0 < c.args.levels = omega arith in
    rw c.in_ok-denial.ensures.denies (Denied h c.in_ok-word.ensures.read c.in_ok-denied.ensures.read)

pub negation-returns-clause-read : goal.negation-returns-clause-read
negation-returns-clause-read t c = let h : 0 < c.args.levels = omega arith in
    Bracketed h c.in_ok-mark.ensures.read c.in_ok-inner.ensures.read c.in_ok-mark-2.ensures.read

pub conjunction-returns-then-not-is_word-clause-read : goal.conjunction-returns-then-not-is_word-clause-read
conjunction-returns-then-not-is_word-clause-read t c = OneNegation c.in_ok-first.ensures.read

pub conjunction-loop-self-init : goal.conjunction-loop-self-init
conjunction-loop-self-init t c = record {
  shorter = omega (arith, c.in_ok-first.ensures.shorter, c.in_ok-word.ensures.shorter, c.in_ok-negation.ensures.shorter);
  so_far = conjunction_more (conjunction_first c.in_ok-first.ensures.taken) c.in_ok-word.ensures.read c.in_ok-negation.ensures.taken;
  within = λ all h. c.in_ok-negation.ensures.within all (c.in_ok-word.ensures.within all (c.in_ok-first.ensures.within all h));
  read = rw (c.in_ok-push-2.ensures.ok, c.in_ok-push.ensures.ok, c.new-members.ensures) (TwoNegations c.in_ok-first.ensures.read c.in_ok-word.ensures.read c.in_ok-negation.ensures.read);
}

pub conjunction-loop-self-preserved : goal.conjunction-loop-self-preserved
conjunction-loop-self-preserved t c = record {
  shorter = omega (arith, c.loop-self.invariant.shorter, c.in_ok-word-2.ensures.shorter, c.in_ok-negation-2.ensures.shorter);
  so_far = conjunction_more c.loop-self.invariant.so_far c.in_ok-word-2.ensures.read c.in_ok-negation-2.ensures.taken;
  within = λ all h. c.in_ok-negation-2.ensures.within all (c.in_ok-word-2.ensures.within all (c.loop-self.invariant.within all h));
  read = rw (c.in_ok-push-3.ensures.ok) (MoreNegations c.loop-self.invariant.read c.in_ok-word-2.ensures.read c.in_ok-negation-2.ensures.read);
}

pub conjunction-returns-clause-read : goal.conjunction-returns-clause-read
conjunction-returns-clause-read t c = Negations c.loop-self.invariant.read

pub disjunction-returns-then-not-is_word-clause-read : goal.disjunction-returns-then-not-is_word-clause-read
disjunction-returns-then-not-is_word-clause-read t c = OneConjunction c.in_ok-first.ensures.read

pub disjunction-loop-self-init : goal.disjunction-loop-self-init
disjunction-loop-self-init t c = record {
  shorter = omega (arith, c.in_ok-first.ensures.shorter, c.in_ok-word.ensures.shorter, c.in_ok-conjunction.ensures.shorter);
  so_far = disjunction_more (disjunction_first c.in_ok-first.ensures.taken) c.in_ok-word.ensures.read c.in_ok-conjunction.ensures.taken;
  within = λ all h. c.in_ok-conjunction.ensures.within all (c.in_ok-word.ensures.within all (c.in_ok-first.ensures.within all h));
  read = rw (c.in_ok-push-2.ensures.ok, c.in_ok-push.ensures.ok, c.new-members.ensures) (TwoConjunctions c.in_ok-first.ensures.read c.in_ok-word.ensures.read c.in_ok-conjunction.ensures.read);
}

pub disjunction-loop-self-preserved : goal.disjunction-loop-self-preserved
disjunction-loop-self-preserved t c = record {
  shorter = omega (arith, c.loop-self.invariant.shorter, c.in_ok-word-2.ensures.shorter, c.in_ok-conjunction-2.ensures.shorter);
  so_far = disjunction_more c.loop-self.invariant.so_far c.in_ok-word-2.ensures.read c.in_ok-conjunction-2.ensures.taken;
  within = λ all h. c.in_ok-conjunction-2.ensures.within all (c.in_ok-word-2.ensures.within all (c.loop-self.invariant.within all h));
  read = rw (c.in_ok-push-3.ensures.ok) (MoreConjunctions c.loop-self.invariant.read c.in_ok-word-2.ensures.read c.in_ok-conjunction-2.ensures.read);
}

pub disjunction-returns-clause-read : goal.disjunction-returns-clause-read
disjunction-returns-clause-read t c = Conjunctions c.loop-self.invariant.read

pub negation-returns-then-not-is_mark-clause-taken : goal.negation-returns-then-not-is_mark-clause-taken
negation-returns-then-not-is_mark-clause-taken t c = negation_compared c.args.levels c.in_ok-comparison.ensures.taken

pub negation-returns-then-denies-clause-taken : goal.negation-returns-then-denies-clause-taken
negation-returns-then-denies-clause-taken t c = let h : 0 < c.args.levels = omega arith in negation_denied h c.in_ok-word.ensures.read c.in_ok-denied.ensures.taken

pub negation-returns-clause-taken : goal.negation-returns-clause-taken
negation-returns-clause-taken t c = let h : 0 < c.args.levels = omega arith in negation_bracketed h c.in_ok-mark.ensures.read c.in_ok-inner.ensures.taken c.in_ok-mark-2.ensures.read

pub negation-returns-in_err-comparison-clause-stops : goal.negation-returns-in_err-comparison-clause-stops
negation-returns-in_err-comparison-clause-stops t c = at_err c.from_residual.result c.in_err-comparison.field-0.0 c.from_residual.ensures.1 (stops_comparison c.args.levels (c.is_word-denies.ensures.no c.if-not-denies.true) (c.is_mark.ensures.no c.if-not-is_mark.true) c.in_err-comparison.ensures.stops)

pub negation-returns-then-levels-eq0-clause-stops : goal.negation-returns-then-levels-eq0-clause-stops
negation-returns-then-levels-eq0-clause-stops t c =
    let here : Among (Word word.Not ∷ Mark mark.Open ∷ []) (first_kind c.args.self.now.left) =
    elim c.else-not-denies.branch as (λ w. Among (Word word.Not ∷ Mark mark.Open ∷ []) (first_kind c.args.self.now.left)) [
      | negation-else-not-denies-via-then-not-denies+else-not-is_mark w ↦ inr (inl (w.is_mark.ensures.yes w.if-not-is_mark.false))
      | negation-else-not-denies-via-else-not-denies w ↦ inl (c.is_word-denies.ensures.yes w.if-not-denies.false)
    ] in
    stops_level c.args.levels c.if-levels-eq0.true here

pub negation-returns-in_err-denied-clause-stops : goal.negation-returns-in_err-denied-clause-stops
negation-returns-in_err-denied-clause-stops t c = at_err c.from_residual-in_err-denied.result c.in_err-denied.field-0.0 c.from_residual-in_err-denied.ensures.1 (let h : 0 < c.args.levels = omega arith in stops_denied h c.in_ok-word.ensures.read c.in_err-denied.ensures.stops)

pub negation-returns-in_err-inner-clause-stops : goal.negation-returns-in_err-inner-clause-stops
negation-returns-in_err-inner-clause-stops t c = at_err c.from_residual-in_err-inner.result c.in_err-inner.field-0.0 c.from_residual-in_err-inner.ensures.1 (let h : 0 < c.args.levels = omega arith in stops_inner h c.in_ok-mark.ensures.read c.in_err-inner.ensures.stops)

pub negation-returns-in_err-mark-2-clause-stops : goal.negation-returns-in_err-mark-2-clause-stops
negation-returns-in_err-mark-2-clause-stops t c = at_err c.from_residual-in_err-mark-2.result c.in_err-mark-2.field-0.0 c.from_residual-in_err-mark-2.ensures.1 (let h : 0 < c.args.levels = omega arith in stops_closing h c.in_ok-mark.ensures.read c.in_ok-inner.ensures.taken (stops_mark mark.Close c.disjunction.new.self c.mark-2.new.self _ c.in_err-mark-2.ensures.refused))

pub conjunction-returns-then-not-is_word-clause-taken : goal.conjunction-returns-then-not-is_word-clause-taken
conjunction-returns-then-not-is_word-clause-taken t c = conjunction_taken (conjunction_first c.in_ok-first.ensures.taken) (c.is_word.ensures.no c.if-not-is_word.true)

pub conjunction-returns-clause-taken : goal.conjunction-returns-clause-taken
conjunction-returns-clause-taken t c = conjunction_taken c.loop-self.invariant.so_far (c.is_word-in-loop-self.ensures.no c.loop-self-test.false)

pub conjunction-returns-in_err-first-clause-stops : goal.conjunction-returns-in_err-first-clause-stops
conjunction-returns-in_err-first-clause-stops t c = at_err c.from_residual.result c.in_err-first.field-0.0 c.from_residual.ensures.1 (stops_first_negation c.in_err-first.ensures.stops)

pub conjunction-returns-in_err-negation-clause-stops : goal.conjunction-returns-in_err-negation-clause-stops
conjunction-returns-in_err-negation-clause-stops t c = at_err c.from_residual-in_err-negation.result c.in_err-negation.field-0.0 c.from_residual-in_err-negation.ensures.1 (stops_next_negation (conjunction_first c.in_ok-first.ensures.taken) c.in_ok-word.ensures.read c.in_err-negation.ensures.stops)

pub conjunction-returns-in_err-negation-2-clause-stops : goal.conjunction-returns-in_err-negation-2-clause-stops
conjunction-returns-in_err-negation-2-clause-stops t c = at_err c.from_residual-in_err-negation-2.result c.in_err-negation-2.field-0.0 c.from_residual-in_err-negation-2.ensures.1 (stops_next_negation c.loop-self.invariant.so_far c.in_ok-word-2.ensures.read c.in_err-negation-2.ensures.stops)

pub disjunction-returns-then-not-is_word-clause-taken : goal.disjunction-returns-then-not-is_word-clause-taken
disjunction-returns-then-not-is_word-clause-taken t c = disjunction_taken (disjunction_first c.in_ok-first.ensures.taken) (c.is_word.ensures.no c.if-not-is_word.true)

pub disjunction-returns-clause-taken : goal.disjunction-returns-clause-taken
disjunction-returns-clause-taken t c = disjunction_taken c.loop-self.invariant.so_far (c.is_word-in-loop-self.ensures.no c.loop-self-test.false)

pub disjunction-returns-in_err-first-clause-stops : goal.disjunction-returns-in_err-first-clause-stops
disjunction-returns-in_err-first-clause-stops t c = at_err c.from_residual.result c.in_err-first.field-0.0 c.from_residual.ensures.1 (stops_first_conjunction c.in_err-first.ensures.stops)

pub disjunction-returns-in_err-conjunction-clause-stops : goal.disjunction-returns-in_err-conjunction-clause-stops
disjunction-returns-in_err-conjunction-clause-stops t c = at_err c.from_residual-in_err-conjunction.result c.in_err-conjunction.field-0.0 c.from_residual-in_err-conjunction.ensures.1 (stops_next_conjunction (disjunction_first c.in_ok-first.ensures.taken) c.in_ok-word.ensures.read c.in_err-conjunction.ensures.stops)

pub disjunction-returns-in_err-conjunction-2-clause-stops : goal.disjunction-returns-in_err-conjunction-2-clause-stops
disjunction-returns-in_err-conjunction-2-clause-stops t c = at_err c.from_residual-in_err-conjunction-2.result c.in_err-conjunction-2.field-0.0 c.from_residual-in_err-conjunction-2.ensures.1 (stops_next_conjunction c.loop-self.invariant.so_far c.in_ok-word-2.ensures.read c.in_err-conjunction-2.ensures.stops)
