use Rattle.std.proofs.Common.{◌≡◌, ℕ, List, Err, inl, inr, subst, sym}
use Rattle.std.proofs.lemmas.Result.{IfOk-weaker}
use Rattle.flow_model.specs.declared.graphs.Library.{Library}
use Rattle.template_check.specs.Built.{AreSound}
use Rattle.template_check.specs.Compiling.{IsNamedBy}
use Rattle.template_check.specs.Judged.{line_at, IsFaultless, IsJudged, IsRefused}
use Rattle.template_check.specs.declared.faults.ImportFault.{ImportFault}
use Rattle.text_words.specs.Answers.{no_imports, RefusesRule}
use Rattle.text_words.specs.FateAnswers.{IsMeantAlone, AnswersLibrary, AnswersText}
use Rattle.text_words.specs.declared.check.Answer.{Answer}
use Rattle.text_words.proofs.Judging.{refuses_first}
use Rattle.text_words.proofs.Answering.{named_alone, meant_alone}
use Rattle.text_words.proofs.fate.fated.Goals as goal

pub returns-in-Err-Rule-clause-judged : goal.returns-in-Err-Rule-clause-judged
returns-in-Err-Rule-clause-judged c = λ none ended.
    let text = c.args.input.now.text.items in
    let behind = c.args.input.now.behind.items in
    let fault = c.in-Err-Rule.fault in
    let judged = subst (λ (f : ImportFault). IsJudged {T = ℕ} c.new-store.result c.deref.result.now (Err f)) c.in-Err-Rule.field-0-is c.in-Err-Rule.ensures.judged in
    let broken = subst (λ (t : List ℕ). IsRefused c.new-store.result t fault.rule fault.place × (fault.line ≡ line_at t fault.place)) c.deref.ensures.value judged in
    IfOk-weaker c.rule_refusal.result (λ (answer : Answer). RefusesRule answer fault) (λ (answer : Answer). AnswersText text answer behind)
    (λ (answer : Answer) h. inl (refuses_first c.new-store.result text fault answer c.new-store.ensures.empty broken h)) c.rule_refusal.ensures

pub returns-clause-judged : goal.returns-clause-judged
returns-clause-judged c = λ none ended.
    let ts = c.library.result.now.templates in
    let text = c.args.input.now.text.items in
    let behind = c.args.input.now.behind.items in
    let new = c.import.new.self in
    let named : IsNamedBy text ts
    = subst (λ (l : Library). IsNamedBy text l.templates) (sym c.library.ensures)
    (subst (λ (t : List ℕ). IsNamedBy t new.templates) c.deref.ensures.value
    (named_alone c.deref.result.now c.new-store.result new c.new-store.ensures.empty c.in-Ok.ensures.of_text)) in
    let meant : IsMeantAlone text ts
    = subst (λ (l : Library). IsMeantAlone text l.templates) (sym c.library.ensures)
    (subst (λ (t : List ℕ). IsMeantAlone t new.templates) c.deref.ensures.value
    (meant_alone c.deref.result.now c.new-store.result new c.new-store.ensures.empty c.in-Ok.ensures.of_text)) in
    let sound : AreSound ts = subst (λ (l : Library). AreSound l.templates) (sym c.library.ensures) (c.in-Ok.ensures.sound c.new-store.ensures.sound) in
    let faultless : IsFaultless no_imports text
    = subst (λ (l : Library). IsFaultless l text) c.new-store.ensures.empty (subst (λ (t : List ℕ). IsFaultless c.new-store.result t) c.deref.ensures.value c.in-Ok.ensures.judged) in
    IfOk-weaker c.over_library.result (λ (answer : Answer). AnswersLibrary answer ts behind) (λ (answer : Answer). AnswersText text answer behind)
    (λ (answer : Answer) h. inr (faultless, ts, record { named = named; meant = meant; sound = sound; answers = h })) c.over_library.ensures
