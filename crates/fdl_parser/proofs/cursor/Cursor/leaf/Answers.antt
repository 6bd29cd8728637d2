use Rattle.std.proofs.Common.{arith}
use Rattle.fdl_parser.specs.Tokens.{FirstStep, MoreSteps}
use Rattle.fdl_parser.proofs.Stops.{at_err}
use Rattle.fdl_parser.proofs.StopsTokens.{leaf_first, leaf_more, leaf_taken, stops_leaf, stops_leaf_first}
use Rattle.fdl_parser.proofs.cursor.Cursor.leaf.Goals as goal

pub loop-steps-init : goal.loop-steps-init
loop-steps-init c = record {
  shorter = omega (arith, c.in_ok-first.ensures.shorter);
  within = λ all h. c.in_ok-first.ensures.within all h;
  so_far = leaf_first c.in_ok-first.ensures.read;
  read = rw (c.in_ok-push.ensures.ok, c.new-steps.ensures) (FirstStep c.in_ok-first.ensures.read);
}

pub loop-steps-preserved : goal.loop-steps-preserved
loop-steps-preserved c = record {
  shorter = omega (arith, c.loop-steps.invariant.shorter, c.in_ok-next_step.ensures.shorter);
  within = λ all h. c.in_ok-next_step.ensures.within all (c.loop-steps.invariant.within all h);
  so_far = leaf_more c.loop-steps.invariant.so_far c.in_ok-next_step.ensures.read;
  read = rw (c.in_ok-push-2.ensures.ok) (MoreSteps c.loop-steps.invariant.read c.in_ok-next_step.ensures.read);
}

pub returns-in_err-first-clause-stops : goal.returns-in_err-first-clause-stops
returns-in_err-first-clause-stops c = at_err c.from_residual.result c.in_err-first.field-0.0 c.from_residual.ensures.1 (stops_leaf_first c.in_err-first.ensures.stops)

pub returns-in_err-next_step-clause-stops : goal.returns-in_err-next_step-clause-stops
returns-in_err-next_step-clause-stops c = at_err c.from_residual-in_err-next_step.result c.in_err-next_step.field-0.0 c.from_residual-in_err-next_step.ensures.1 (stops_leaf c.loop-steps.invariant.so_far (c.is_step_next.ensures.yes c.loop-steps-test.true) c.in_err-next_step.ensures.stops)

pub returns-clause-taken : goal.returns-clause-taken
returns-clause-taken c = leaf_taken c.loop-steps.invariant.so_far (c.is_step_next.ensures.no c.loop-steps-test.false)
