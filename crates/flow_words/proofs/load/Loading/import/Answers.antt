use Rattle.flow_words.specs.Loading.{loan_text, lines}
use Rattle.std.proofs.Common.{◌++◌, ◌∷◌, [], codes}
use Rattle.flow_words.proofs.Loads.{serves_behind}
use Rattle.flow_words.proofs.load.Loading.import.Goals as goal

pub returns : goal.returns
unfolding loan_text
returns c =
    serves_behind (lines (codes "IMPORT" ∷ []) ++ lines loan_text) (lines (codes "." ∷ [])) c.args.self.now c.lines.new.self c.line-2.new.self
    (serves_behind (lines (codes "IMPORT" ∷ [])) (lines loan_text) c.args.self.now c.line.new.self c.lines.new.self c.in_ok-line.ensures c.in_ok-lines.ensures) c.in_ok-line-2.ensures
