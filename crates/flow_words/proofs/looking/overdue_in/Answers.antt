use Rattle.std.proofs.Common.{◌∙◌, ap, inl, inr}
use Rattle.std.proofs.lemmas.Result.{err_from_is_err_and}
use Rattle.flow_core.specs.Summaries.{summary}
use Rattle.flow_session.proofs.Runs.{opened}
use Rattle.flow_words.specs.Outside.{files}
use Rattle.flow_words.specs.Scripts.{status_of_word}
use Rattle.flow_words.proofs.EndingLemmas.{word_memory}
use Rattle.flow_words.proofs.Verdicts.{prints_late, no_memory}
use Rattle.flow_words.proofs.Serving.{stood_there}
use Rattle.flow_words.proofs.looking.overdue_in.Goals as goal

pub returns-in_ok-text-in-Ok-clause-prints : goal.returns-in_ok-text-in-Ok-clause-prints
returns-in_ok-text-in-Ok-clause-prints g c = inr (record {
  core = c.in-Ok.session.core;
  keeps = λ only. opened g.D.Disk.tells g.D.Disk.moment g.D.Disk.left_since g.D.Disk.seen g.D.Disk.images c.args.disk.now c.reopen.new.disk only c.reopen.ensures.any_moment;
  stood = λ told. stood_there g.D.Disk.seen c.args.disk.now c.reopen.new.disk (summary c.in-Ok.session.core) c.in-Ok.ensures.seen (c.in-Ok.ensures.open told).holds;
  state = c.in-Ok.ensures.state;
  right = c.in-Ok.ensures.right;
  printed = prints_late (g.K.Sink.held c.args.out.now) (g.K.Sink.held c.print_answer.new.out) (status_of_word c.print_answer.result) c.in-Ok.session.core c.core.result.now c.in_ok-text-in-Ok.text.items c.deref.result.now c.core.ensures c.in_ok-text-in-Ok.ensures c.deref.ensures.value c.print_answer.ensures.prints;
})

pub returns-in_err-text-in-Ok-clause-prints : goal.returns-in_err-text-in-Ok-clause-prints
returns-in_err-text-in-Ok-clause-prints g c =
    let p = err_from_is_err_and c.from_residual.result c.from_residual.ensures.1 in
    inl (no_memory (files g.D.Disk c.args.disk.now c.args.disk.now) (g.K.Sink.held c.args.out.now) (status_of_word c.from_residual.result) (ap status_of_word p.1 ∙ p.2))

pub returns-in-Err-clause-cause : goal.returns-in-Err-clause-cause
returns-in-Err-clause-cause g c read read' = c.refuse.ensures.cause read read' (g.D.Disk.faults c.args.disk.now) (g.D.Disk.faults c.reopen.new.disk) c.in-Err.ensures.cause

pub returns-in_ok-text-in-Ok-clause-cause : goal.returns-in_ok-text-in-Ok-clause-cause
returns-in_ok-text-in-Ok-clause-cause g c read read' = c.print_answer.ensures.cause read read' (g.D.Disk.faults c.args.disk.now) (g.D.Disk.faults c.reopen.new.disk)

pub returns-in_err-text-in-Ok-clause-cause : goal.returns-in_err-text-in-Ok-clause-cause
returns-in_err-text-in-Ok-clause-cause g c read read' =
    let p = err_from_is_err_and c.from_residual.result c.from_residual.ensures.1 in
    word_memory read read' (g.K.Sink.faults c.args.out.now) (g.K.Sink.faults c.args.out.now) (g.D.Disk.faults c.args.disk.now) (g.D.Disk.faults c.reopen.new.disk) (status_of_word c.from_residual.result) (ap status_of_word p.1 ∙ p.2)
