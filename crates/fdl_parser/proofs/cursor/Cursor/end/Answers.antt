use Rattle.fdl_parser.specs.Lines.{BorderEnd, ActivityEnd}
use Rattle.fdl_parser.proofs.Stops.{at_err}
use Rattle.fdl_parser.proofs.StopsLines.{stops_end}
use Rattle.fdl_parser.proofs.cursor.Cursor.end.Goals as goal

pub returns-then-is_word-clause-read : goal.returns-then-is_word-clause-read
returns-then-is_word-clause-read c = BorderEnd c.in_ok-word.ensures.read

pub returns-clause-read : goal.returns-clause-read
returns-clause-read c = ActivityEnd c.in_ok-name.ensures.read

pub returns-in_err-name-clause-stops : goal.returns-in_err-name-clause-stops
returns-in_err-name-clause-stops c = at_err c.from_residual-in_err-name.result c.in_err-name.field-0.0 c.from_residual-in_err-name.ensures.1 (stops_end c.args.border (c.is_word.ensures.no c.if-is_word.false) c.in_err-name.ensures.stops)
