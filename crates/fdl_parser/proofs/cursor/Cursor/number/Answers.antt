use Rattle.std.proofs.Common.{refl}
use Rattle.fdl_parser.proofs.StopsTokens.{no_number, stops_here}
use Rattle.fdl_parser.proofs.cursor.Cursor.number.Goals as goal

pub returns-in_default-clause-stops : goal.returns-in_default-clause-stops
returns-in_default-clause-stops c =
    stops_here c.args.self.now c.args.self.now c.fault.result refl (no_number c.args.self.now.left (λ size is. c.in_default.not-Some size (c.next_size.ensures.other size is)))
