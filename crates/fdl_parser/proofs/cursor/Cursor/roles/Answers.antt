use Rattle.std.proofs.Common.{arith}
use Rattle.fdl_parser.specs.Items.{FirstRole, NextRole, NoRoles, SomeRoles}
use Rattle.fdl_parser.proofs.Stops.{at_err}
use Rattle.fdl_parser.proofs.StopsItems.{roles_none, roles_taken, stops_first_role, stops_next_role}
use Rattle.fdl_parser.proofs.cursor.Cursor.roles.Goals as goal

pub returns-then-not-is_word-clause-read : goal.returns-then-not-is_word-clause-read
returns-then-not-is_word-clause-read c = rw c.new-roles.ensures NoRoles

pub loop-self-init : goal.loop-self-init
loop-self-init c = record {
  shorter = omega (arith, c.in_ok-word.ensures.shorter, c.in_ok-first.ensures.shorter);
  within = λ all h. c.in_ok-first.ensures.within all (c.in_ok-word.ensures.within all h);
  read = rw (c.in_ok-push.ensures.ok, c.new-roles.ensures) (FirstRole c.in_ok-word.ensures.read c.in_ok-first.ensures.read);
}

pub loop-self-preserved : goal.loop-self-preserved
loop-self-preserved c = record {
  shorter = omega (arith, c.loop-self.invariant.shorter, c.in_ok-mark.ensures.shorter, c.in_ok-next.ensures.shorter);
  within = λ all h. c.in_ok-next.ensures.within all (c.in_ok-mark.ensures.within all (c.loop-self.invariant.within all h));
  read = rw (c.in_ok-push-2.ensures.ok) (NextRole c.loop-self.invariant.read c.in_ok-mark.ensures.read c.in_ok-next.ensures.read);
}

pub returns-clause-read : goal.returns-clause-read
returns-clause-read c = SomeRoles c.loop-self.invariant.read

pub returns-then-not-is_word-clause-taken : goal.returns-then-not-is_word-clause-taken
returns-then-not-is_word-clause-taken c = roles_none (c.is_word.ensures.no c.if-not-is_word.true)

pub returns-clause-taken : goal.returns-clause-taken
returns-clause-taken c = roles_taken c.loop-self.invariant.read (c.is_mark.ensures.no c.loop-self-test.false)

pub returns-in_err-first-clause-stops : goal.returns-in_err-first-clause-stops
returns-in_err-first-clause-stops c = at_err c.from_residual-in_err-first.result c.in_err-first.field-0.0 c.from_residual-in_err-first.ensures.1 (stops_first_role c.in_ok-word.ensures.read c.in_err-first.ensures.stops)

pub returns-in_err-next-clause-stops : goal.returns-in_err-next-clause-stops
returns-in_err-next-clause-stops c = at_err c.from_residual-in_err-next.result c.in_err-next.field-0.0 c.from_residual-in_err-next.ensures.1 (stops_next_role c.loop-self.invariant.read c.in_ok-mark.ensures.read c.in_err-next.ensures.stops)
