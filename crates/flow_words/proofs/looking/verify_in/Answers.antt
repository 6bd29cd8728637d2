use Rattle.std.proofs.Common.{inr, subst}
use Rattle.flow_core.specs.Summaries.{summary}
use Rattle.flow_session.proofs.Runs.{opened}
use Rattle.flow_words.specs.Looking.{PrintsVerdict}
use Rattle.flow_words.specs.Scripts.{status_of_word}
use Rattle.flow_words.proofs.Serving.{stood_there}
use Rattle.flow_words.proofs.looking.verify_in.Goals as goal

pub returns-in-Ok-clause-prints : goal.returns-in-Ok-clause-prints
returns-in-Ok-clause-prints g c = inr (record {
  core = c.in-Ok.session.core;
  keeps = λ only. opened g.D.Disk.tells g.D.Disk.moment g.D.Disk.left_since g.D.Disk.seen g.D.Disk.images c.args.disk.now c.reopen.new.disk only c.reopen.ensures.any_moment;
  stood = λ told. stood_there g.D.Disk.seen c.args.disk.now c.reopen.new.disk (summary c.in-Ok.session.core) c.in-Ok.ensures.seen (c.in-Ok.ensures.open told).holds;
  state = c.in-Ok.ensures.state;
  right = c.in-Ok.ensures.right;
  printed = subst (PrintsVerdict (g.S.Source.left c.args.src.now) (g.K.Sink.held c.args.out.now) (g.K.Sink.held c.verify_over.new.out) (status_of_word c.verify_over.result)) c.core.ensures c.verify_over.ensures.prints;
})

pub returns-in-Err-clause-cause : goal.returns-in-Err-clause-cause
returns-in-Err-clause-cause g c = c.refuse.ensures.cause (g.S.Source.faults c.args.src.now) (g.S.Source.faults c.args.src.now) (g.D.Disk.faults c.args.disk.now) (g.D.Disk.faults c.reopen.new.disk) c.in-Err.ensures.cause

pub returns-in-Ok-clause-cause : goal.returns-in-Ok-clause-cause
returns-in-Ok-clause-cause g c = rw c.in-Ok.ensures.cause (c.verify_over.ensures.cause (g.D.Disk.faults c.args.disk.now))
