use Rattle.std.proofs.Common.{arith}
use Rattle.fdl_parser.specs.Activities.{NoAttribute, MoreAttributes}
use Rattle.fdl_parser.proofs.Stops.{at_err}
use Rattle.fdl_parser.proofs.StopsActivities.{attributes_taken, stops_attributes}
use Rattle.fdl_parser.proofs.cursor.Cursor.attributes.Goals as goal

pub loop-attributes-init : goal.loop-attributes-init
loop-attributes-init c = record {
  shorter = omega arith;
  within = λ all h. h;
  read = rw (c.new-attributes.ensures) (NoAttribute);
}

pub loop-attributes-preserved : goal.loop-attributes-preserved
loop-attributes-preserved c = record {
  shorter = omega (arith, c.loop-attributes.invariant.shorter, c.in_ok-attribute.ensures.shorter);
  within = λ all h. c.in_ok-attribute.ensures.within all (c.loop-attributes.invariant.within all h);
  read = rw (c.in_ok-push.ensures.ok) (MoreAttributes c.loop-attributes.invariant.read c.in_ok-attribute.ensures.read);
}

pub returns-clause-taken : goal.returns-clause-taken
returns-clause-taken c = attributes_taken c.loop-attributes.invariant.read (c.is_attribute.ensures.no c.loop-attributes-test.false)

pub returns-in_err-attribute-clause-stops : goal.returns-in_err-attribute-clause-stops
returns-in_err-attribute-clause-stops c = at_err c.from_residual.result c.in_err-attribute.field-0.0 c.from_residual.ensures.1 (stops_attributes c.loop-attributes.invariant.read (c.is_attribute.ensures.yes c.loop-attributes-test.true) c.in_err-attribute.ensures.stops)
