use Rattle.std.proofs.Common.{rules, Some, ap, ◌∙◌, sym}
use Rattle.flow_table.proofs.Apart.{spelling_one}
use Rattle.flow_table.proofs.keyword.Keyword.from_word.Goals as goal

pub returns-then-is_same-clause-all : goal.returns-then-is_same-clause-all
returns-then-is_same-clause-all c = λ keyword e. ap Some (spelling_one _ keyword (search rules ∙ sym e))
