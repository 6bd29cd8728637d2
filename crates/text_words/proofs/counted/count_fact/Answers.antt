use Rattle.std.proofs.Common.{sym, subst, ◌∙◌}
use Rattle.std.proofs.lemmas.Result.{IfOk-weaker}
use Rattle.text_words.specs.Nexts.{CountsOne, CountsFact}
use Rattle.text_words.proofs.Counting.{next_counted, one_part}
use Rattle.text_words.proofs.counted.count_fact.Goals as goal

pub returns-in-len1-clause-ok : goal.returns-in-len1-clause-ok
returns-in-len1-clause-ok c =
    let old = c.args.nexts.now in
    let new = c.count.new.nexts in
    let parts = sym c.as_slice.ensures ∙ one_part c.as_slice.result.now c.part-item.result c.in-len1.len_at_least c.in-len1.len_below c.part-item.is in
    IfOk-weaker c.count.result (λ _. CountsOne c.as_slice-in-len1.result.now old new) (λ _. CountsFact c.args.fact.now old new)
    (λ _ is. next_counted old new c.args.fact.now c.part-item.result parts (subst (λ n. CountsOne n old new) c.as_slice-in-len1.ensures is)) c.count.ensures.ok
