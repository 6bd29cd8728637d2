use Rattle.fdl_parser.proofs.Rows.{rest_less}
use Rattle.fdl_parser.proofs.cursor.Cursor.token.Goals as goal

pub returns-in-len1-up-clause-within : goal.returns-in-len1-up-clause-within
returns-in-len1-up-clause-within c = λ all h. rest_less all c.args.self.now c.self.inside.text.now c.self.inside.left.now c.self.view_is c.in-len1-up.len_at_least h
