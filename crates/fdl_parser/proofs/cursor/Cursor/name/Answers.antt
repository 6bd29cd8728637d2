use Rattle.std.proofs.Common.{refl, rules}
use Rattle.fdl_parser.proofs.Stops.{no_memory, at_err}
use Rattle.fdl_parser.proofs.StopsTokens.{no_name, name_fits, stops_here}
use Rattle.fdl_parser.proofs.cursor.Cursor.name.Goals as goal

pub returns-in_err-bytes-clause-stops : goal.returns-in_err-bytes-clause-stops
returns-in_err-bytes-clause-stops c = at_err c.from_residual.result c.in_err-bytes.field-0.0 c.from_residual.ensures.1 (stops_here c.args.self.now c.args.self.now _ refl (no_name c.args.self.now.left c.in_err-bytes.ensures.other))

pub returns-in-Err-Bad-clause-stops : goal.returns-in-Err-Bad-clause-stops
returns-in-Err-Bad-clause-stops c = record {
  stop = λ place is quoted.
      absurd (name_fits c.args.self.now.left c.in_ok-bytes.bytes.now c.unquoted.result.now quoted c.in_ok-bytes.ensures.read c.unquoted.ensures (c.in-Err-Bad.ensures.bad (search (rules, c.in-Err-Bad.field-0-is))));
}

pub returns-in-Err-NoMemory-clause-stops : goal.returns-in-Err-NoMemory-clause-stops
returns-in-Err-NoMemory-clause-stops c = no_memory refl

pub returns-in_err-place-in-Ok-clause-stops : goal.returns-in_err-place-in-Ok-clause-stops
returns-in_err-place-in-Ok-clause-stops c = at_err c.from_residual-in_err-place-in-Ok.result c.in_err-place-in-Ok.field-0.0 c.from_residual-in_err-place-in-Ok.ensures.1 (stops_here c.args.self.now c.token.new.self _ c.in_err-place-in-Ok.ensures.refused.1 (no_name c.args.self.now.left c.in_err-place-in-Ok.ensures.refused.2))
