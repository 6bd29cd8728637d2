use Rattle.std.proofs.Common.{refl}
use Rattle.fdl_parser.proofs.Stops.{at_err}
use Rattle.fdl_parser.proofs.StopsTokens.{no_item, stops_here}
use Rattle.fdl_parser.proofs.cursor.Cursor.item.Goals as goal

pub returns-in_err-spelled-clause-stops : goal.returns-in_err-spelled-clause-stops
returns-in_err-spelled-clause-stops c = at_err c.from_residual.result c.in_err-spelled.field-0.0 c.from_residual.ensures.1 (stops_here c.args.self.now c.args.self.now _ refl (no_item c.args.self.now.left c.in_err-spelled.ensures.other))
