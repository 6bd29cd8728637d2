use Rattle.std.proofs.Common.{arith}
use Rattle.fdl_parser.specs.Activities.{NoCommon, MoreCommon}
use Rattle.fdl_parser.proofs.Stops.{at_err}
use Rattle.fdl_parser.proofs.StopsActivities.{commons_taken, stops_commons}
use Rattle.fdl_parser.proofs.cursor.Cursor.common_attributes.Goals as goal

pub loop-attributes-init : goal.loop-attributes-init
loop-attributes-init c = record {
  shorter = omega arith;
  within = λ all h. h;
  read = rw (c.new-attributes.ensures) (NoCommon);
}

pub loop-attributes-preserved : goal.loop-attributes-preserved
loop-attributes-preserved c = record {
  shorter = omega (arith, c.loop-attributes.invariant.shorter, c.in_ok-common_attribute.ensures.shorter);
  within = λ all h. c.in_ok-common_attribute.ensures.within all (c.loop-attributes.invariant.within all h);
  read = rw (c.in_ok-push.ensures.ok) (MoreCommon c.loop-attributes.invariant.read c.in_ok-common_attribute.ensures.read);
}

pub returns-clause-taken : goal.returns-clause-taken
returns-clause-taken c = commons_taken c.loop-attributes.invariant.read (c.is_common_attribute.ensures.no c.loop-attributes-test.false)

pub returns-in_err-common_attribute-clause-stops : goal.returns-in_err-common_attribute-clause-stops
returns-in_err-common_attribute-clause-stops c = at_err c.from_residual.result c.in_err-common_attribute.field-0.0 c.from_residual.ensures.1 (stops_commons c.loop-attributes.invariant.read (c.is_common_attribute.ensures.yes c.loop-attributes-test.true) c.in_err-common_attribute.ensures.stops)
