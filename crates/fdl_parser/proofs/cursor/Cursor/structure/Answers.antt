use Rattle.std.proofs.Common.{arith}
use Rattle.fdl_parser.specs.Items.{NoMember, MoreMembers, OneStructure}
use Rattle.fdl_parser.proofs.Shapes.{word_shape, name_shape, stops_as, stop_now, stop_then, free_stops}
use Rattle.fdl_parser.proofs.Stops.{at_err}
use Rattle.fdl_parser.proofs.StopsTokens.{stops_word}
use Rattle.flow_table.specs.declared.keyword.Keyword.TheVariants as word
use Rattle.fdl_parser.proofs.StopsItems.{structure_same, structure_name, structure_members, stops_member, stops_members_end}
use Rattle.fdl_parser.proofs.cursor.Cursor.structure.Goals as goal

pub loop-members-init : goal.loop-members-init
loop-members-init c = record {
  shorter = omega (arith, c.in_ok-word.ensures.shorter, c.in_ok-name.ensures.shorter);
  within = λ all h. c.in_ok-name.ensures.within all (c.in_ok-word.ensures.within all h);
  read = rw (c.new-members.ensures) (NoMember);
}

pub loop-members-preserved : goal.loop-members-preserved
loop-members-preserved c = record {
  shorter = omega (arith, c.loop-members.invariant.shorter, c.in_ok-member.ensures.shorter);
  within = λ all h. c.in_ok-member.ensures.within all (c.loop-members.invariant.within all h);
  read = rw (c.in_ok-push.ensures.ok) (MoreMembers c.loop-members.invariant.read c.in_ok-member.ensures.read);
}

pub returns-clause-read : goal.returns-clause-read
returns-clause-read c = OneStructure c.in_ok-word.ensures.read c.in_ok-name.ensures.read c.loop-members.invariant.read c.in_ok-end.ensures.read

pub returns-in_err-word-clause-stops : goal.returns-in_err-word-clause-stops
returns-in_err-word-clause-stops c = at_err c.from_residual.result c.in_err-word.field-0.0 c.from_residual.ensures.1 (free_stops (stops_as structure_same (stop_now structure_name.can (stops_word word.Structure c.args.self.now c.word.new.self _ c.in_err-word.ensures.refused))))

pub returns-in_err-name-clause-stops : goal.returns-in_err-name-clause-stops
returns-in_err-name-clause-stops c = at_err c.from_residual-in_err-name.result c.in_err-name.field-0.0 c.from_residual-in_err-name.ensures.1 (free_stops (stops_as structure_same (stop_then (word_shape word.Structure) (_, c.in_ok-word.ensures.read) (stop_now structure_members.can c.in_err-name.ensures.stops))))

pub returns-in_err-member-clause-stops : goal.returns-in_err-member-clause-stops
returns-in_err-member-clause-stops c = at_err c.from_residual-in_err-member.result c.in_err-member.field-0.0 c.from_residual-in_err-member.ensures.1 (free_stops (stops_as structure_same (stop_then (word_shape word.Structure) (_, c.in_ok-word.ensures.read) (stop_then name_shape (_, c.in_ok-name.ensures.read) (stops_member c.loop-members.invariant.read (c.is_next.ensures.yes c.loop-members-test.true) c.in_err-member.ensures.stops)))))

pub returns-in_err-end-clause-stops : goal.returns-in_err-end-clause-stops
returns-in_err-end-clause-stops c = at_err c.from_residual-in_err-end.result c.in_err-end.field-0.0 c.from_residual-in_err-end.ensures.1 (free_stops (stops_as structure_same (stop_then (word_shape word.Structure) (_, c.in_ok-word.ensures.read) (stop_then name_shape (_, c.in_ok-name.ensures.read) (stops_members_end c.loop-members.invariant.read (c.is_next.ensures.no c.loop-members-test.false) c.in_err-end.ensures.stops)))))
