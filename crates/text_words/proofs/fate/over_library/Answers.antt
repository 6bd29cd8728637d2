use Rattle.std.proofs.Common.{List, inr, subst}
use Rattle.std.proofs.lemmas.Result.{IfOk-weaker}
use Rattle.text_words.specs.Completions.{IsRead}
use Rattle.text_words.specs.FateAnswers.{IsOfLast, AnswersLibrary}
use Rattle.text_words.specs.declared.check.Answer.{Answer}
use Rattle.text_words.specs.declared.input.Numbered.{Numbered}
use Rattle.text_words.proofs.Reading.{of_one}
use Rattle.text_words.proofs.fate.over_library.Goals as goal

pub by_completions-requires-clause-of_one : goal.by_completions-requires-clause-of_one
by_completions-requires-clause-of_one c =
    of_one c.args.library.now.templates c.in-Some.template.now.graph c.deref.result.now c.in_ok-read.read c.in_ok-read.ensures

pub returns : goal.returns
returns c =
    let ts = c.args.library.now.templates in
    let last = c.in-Some.template.now in
    let read = c.in_ok-read.read in
    let behind = c.args.input.now.behind.items in
    let said = subst (λ (lines : List Numbered). IsRead ts last.graph lines read) c.deref.ensures.value c.in_ok-read.ensures in
    IfOk-weaker c.by_completions.result (λ (answer : Answer). IsOfLast answer ts last read) (λ (answer : Answer). AnswersLibrary answer ts behind) (λ (answer : Answer) h. inr (last, read, h, said))
    c.by_completions.ensures
