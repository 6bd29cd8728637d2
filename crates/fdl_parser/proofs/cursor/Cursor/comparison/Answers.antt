use Rattle.std.proofs.Common.{Some, sym, ◌∙◌, ap}
use Rattle.fdl_lexer.specs.declared.kinds.Mark.{Mark as Sign}
use Rattle.fdl_lexer.specs.declared.kinds.What.TheVariants.{Mark}
use Rattle.fdl_parser.specs.Conditions.{Compared}
use Rattle.fdl_parser.proofs.Stops.{at_err}
use Rattle.fdl_parser.proofs.StopsConditions.{compare_taken, stops_left_side, stops_operator, stops_right_side}
use Rattle.fdl_parser.proofs.cursor.Cursor.comparison.Goals as goal

pub returns-clause-read : goal.returns-clause-read
returns-clause-read c = Compared c.in_ok-left.ensures.read (rw c.mark_of.ensures at c.in_ok-mark.ensures.read) c.in_ok-right.ensures.read

pub returns-clause-taken : goal.returns-clause-taken
returns-clause-taken c = compare_taken c.in-Some.operator c.in_ok-left.ensures.taken (rw c.mark_of.ensures at c.in_ok-mark.ensures.read) c.in_ok-right.ensures.taken

pub returns-in_default-clause-stops : goal.returns-in_default-clause-stops
returns-in_default-clause-stops c = stops_operator c.in_ok-left.ensures.taken (λ o e. c.operator_of.ensures.none c.in_default.is o (c.peek.ensures ∙ e))

pub returns-in_err-mark-clause-stops : goal.returns-in_err-mark-clause-stops
returns-in_err-mark-clause-stops c = absurd (c.in_err-mark.ensures.refused.2 (sym c.peek.ensures ∙ c.in-Some.ensures.some ∙ ap (λ (m : Sign). Some (Mark m)) (sym c.mark_of.ensures)))

pub returns-in_err-right-clause-stops : goal.returns-in_err-right-clause-stops
returns-in_err-right-clause-stops c = at_err c.from_residual-in_err-right.result c.in_err-right.field-0.0 c.from_residual-in_err-right.ensures.1 (stops_right_side c.in-Some.operator c.in_ok-left.ensures.taken (rw c.mark_of.ensures at c.in_ok-mark.ensures.read) c.in_err-right.ensures.stops)

pub returns-in_err-left-clause-stops : goal.returns-in_err-left-clause-stops
returns-in_err-left-clause-stops c = at_err c.from_residual.result c.in_err-left.field-0.0 c.from_residual.ensures.1 (stops_left_side c.in_err-left.ensures.stops)
