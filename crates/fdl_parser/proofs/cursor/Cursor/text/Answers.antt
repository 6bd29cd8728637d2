use Rattle.std.proofs.Common.{refl, rules, ◌∙◌}
use Rattle.fdl_parser.proofs.Stops.{at_err}
use Rattle.fdl_parser.proofs.StopsTokens.{no_quote, text_fits, stops_here}
use Rattle.fdl_parser.proofs.cursor.Cursor.text.Goals as goal

pub returns-in_err-bytes-clause-stops : goal.returns-in_err-bytes-clause-stops
returns-in_err-bytes-clause-stops c = at_err c.from_residual.result c.in_err-bytes.field-0.0 c.from_residual.ensures.1 (stops_here c.args.self.now c.args.self.now _ refl (no_quote c.args.self.now.left c.in_err-bytes.ensures.other))

pub returns-in-Err-Bad-clause-stops : goal.returns-in-Err-Bad-clause-stops
returns-in-Err-Bad-clause-stops c = record {
  stop = λ place is quoted.
      absurd (text_fits c.args.self.now.left c.in_ok-bytes.bytes.now c.deref.result.now quoted c.in_ok-bytes.ensures.read (λ value same. c.deref.ensures.value ∙ c.in_ok-value.ensures value same) (c.in-Err-Bad.ensures.bad (search (rules, c.in-Err-Bad.field-0-is))));
}
