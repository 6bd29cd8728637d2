use Rattle.std.proofs.Common.{sym, ◌∙◌}
use Rattle.fdl_parser.proofs.SameWhat.{what_same, what_apart}
use Rattle.fdl_parser.proofs.cursor.is_same.Goals as goal

pub returns-clause-yes : goal.returns-clause-yes
returns-clause-yes c = λ is. what_same c.args.token c.args.what (sym c.eq.ensures ∙ is)

pub returns-clause-no : goal.returns-clause-no
returns-clause-no c = λ is. what_apart c.args.token c.args.what (sym c.eq.ensures ∙ is)
