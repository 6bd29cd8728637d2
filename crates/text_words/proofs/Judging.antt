-- How a text is judged behind no imports, and the line that its refusal is.
use Rattle.std.proofs.Common.{◌≡◌, ℕ, List, [], ◌∷◌, subst}
use Rattle.std.specs.Prelude.{codes}
use Rattle.flow_model.specs.declared.graphs.Library.{Library}
use Rattle.template_check.specs.Judged.{line_at, IsRefused}
use Rattle.template_check.specs.declared.faults.RuleFault.{RuleFault}
use Rattle.text_words.specs.Answers.{no_imports, Refuses, RefusesFirst, RefusesRule}
use Rattle.text_words.specs.declared.check.Answer.{Answer}

-- the refusal of a text that is judged so
pub refuses_first : (library : Library) (text : List ℕ) (fault : RuleFault) (answer : Answer) → library ≡ no_imports → IsRefused library text fault.rule fault.place × (fault.line ≡ line_at text fault.place) → RefusesRule answer fault → RefusesFirst text answer
refuses_first library text fault answer empty judged says = record {
  rule = fault.rule;
  place = fault.place;
  broken = subst (λ (l : Library). IsRefused l text fault.rule fault.place) empty judged.0;
  says = subst (λ (line : ℕ). Refuses answer (codes "RULE") (fault.rule ∷ line ∷ [])) judged.1 says;
}
