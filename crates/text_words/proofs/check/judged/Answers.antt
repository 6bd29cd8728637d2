use Rattle.std.proofs.Common.{Err, inl, inr, refl, subst}
use Rattle.std.proofs.lemmas.Result.{IfOk-weaker}
use Rattle.flow_model.specs.declared.graphs.Library.{Library}
use Rattle.template_check.specs.Judged.{IsFaultless, IsJudged}
use Rattle.template_check.specs.declared.compiling.Compiled.{Compiled}
use Rattle.template_check.specs.declared.faults.ImportFault.{ImportFault}
use Rattle.text_words.specs.Answers.{AnswersTree, RefusesRule}
use Rattle.text_words.specs.declared.check.Answer.{Answer}
use Rattle.text_words.proofs.Judging.{refuses_first}
use Rattle.text_words.proofs.check.judged.Goals as goal

pub returns-in-Err-Rule : goal.returns-in-Err-Rule
returns-in-Err-Rule c =
    let fault = c.in-Err-Rule.fault in
    let broken = subst (λ (f : ImportFault). IsJudged {T = Compiled} c.new.result.library c.args.text.now (Err f)) c.in-Err-Rule.field-0-is c.in-Err-Rule.ensures.judged in
    IfOk-weaker c.rule_refusal.result (λ (answer : Answer). RefusesRule answer fault) (AnswersTree c.args.text.now)
    (λ (answer : Answer) h. inl (refuses_first c.new.result.library c.args.text.now fault answer c.new.ensures broken h)) c.rule_refusal.ensures

pub returns-in_ok-canonical-in-Ok-syntax_tree : goal.returns-in_ok-canonical-in-Ok-syntax_tree
returns-in_ok-canonical-in-Ok-syntax_tree c =
    inr (record {
      faultless = subst (λ (l : Library). IsFaultless l c.args.text.now) c.new.ensures c.in-Ok.ensures.judged;
      tree = c.in-Ok-syntax_tree.tree;
      has = c.in-Ok-syntax_tree.ensures.tree;
      tells = record { text = c.in_ok-canonical-in-Ok-syntax_tree.ensures; told = refl };
    })
