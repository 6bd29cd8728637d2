use Rattle.std.proofs.Common.{inl}
use Rattle.flow_words.specs.Printed.{IsFateOf}
use Rattle.flow_words.proofs.Printing.{prints_answer, is_fate}
use Rattle.flow_words.proofs.Verdicts.{unread}
use Rattle.flow_words.proofs.Serving.{keeps_same}
use Rattle.flow_words.proofs.pure.answer_fate.Goals as goal

pub returns-in-Ok-clause-prints : goal.returns-in-Ok-clause-prints
returns-in-Ok-clause-prints g c =
    let input = c.in-Ok.input in
    let answer = c.fated.result in
    let left = g.S.Source.left c.args.src.now in
    prints_answer input left (IsFateOf left) answer (g.K.Sink.held c.args.out.now) (g.K.Sink.held c.end_with.new.out) c.end_with.result
    (is_fate input left answer c.in-Ok.ensures.limit c.in-Ok.ensures.gathered c.fated.ensures.long c.fated.ensures.unended c.fated.ensures.judged)
    c.end_with.ensures.prints

pub returns-in-Err-clause-prints : goal.returns-in-Err-clause-prints
returns-in-Err-clause-prints g c =
    let left = g.S.Source.left c.args.src.now in
    inl (rw c.line_status.ensures.status (unread left c.in-Err.stop c.in-Err.ensures.limit), keeps_same (g.K.Sink.held c.args.out.now))
