use Rattle.std.proofs.Common.{rules}
use Rattle.std.proofs.lemmas.Result.{err_from_is_err_and}
use Rattle.flow_session.specs.Asking.{NoneAsked, JudgedSo}
use Rattle.flow_session.proofs.Asked.{asked_nothing, asked_one, one_stopped, stopped_first}
use Rattle.flow_session.proofs.Leading.{leads_by}
use Rattle.flow_session.proofs.Stopping.{silent}
use Rattle.flow_session.proofs.Rights.{asks_open}
use Rattle.flow_session.proofs.serving.Session.obey.Goals as goal

pub returns-in_err-out-in-Ok-Do-clause-makes : goal.returns-in_err-out-in-Ok-Do-clause-makes
returns-in_err-out-in-Ok-Do-clause-makes g c =
    let p = err_from_is_err_and c.from_residual.result c.from_residual.ensures.1 in
    rw (p.1, p.2) (stopped_first g.J.Journal.tells g.J.Journal.holds g.J.Journal.moment g.J.Journal.left_since
    g.met.J.Journal.at_rest _ c.in_err-out-in-Ok-Do.field-0.0 c.args.journal.now c.args.self.now.core c.judge.new.self
    _ c.requires c.in_err-out-in-Ok-Do.ensures.silent NoneAsked)

pub returns-in_err-make-in-Ok-Do-clause-makes : goal.returns-in_err-make-in-Ok-Do-clause-makes
returns-in_err-make-in-Ok-Do-clause-makes g c =
    let p = err_from_is_err_and c.from_residual-in_err-make-in-Ok-Do.result c.from_residual-in_err-make-in-Ok-Do.ensures.1 in
    rw (p.1, p.2) (one_stopped g.J.Journal.tells g.J.Journal.holds g.J.Journal.moment g.J.Journal.left_since
    g.met.J.Journal.at_rest g.met.J.Journal.counts_now _ c.in_err-make-in-Ok-Do.field-0.0 c.args.journal.now
    c.make.new.journal c.args.self.now.core c.make.new.self.core c.in-Ok-Do.t _ c.requires
    c.in_err-make-in-Ok-Do.ensures.undone (rw c.judge.ensures.same at c.make.ensures.any_moment) (rw c.judge.ensures.same at c.make.ensures.fit) NoneAsked
    (JudgedSo (search rules)))

pub returns-in_ok-make-in-Ok-Do-clause-makes : goal.returns-in_ok-make-in-Ok-Do-clause-makes
returns-in_ok-make-in-Ok-Do-clause-makes g c =
    asked_one g.J.Journal.tells g.J.Journal.holds g.J.Journal.moment g.J.Journal.left_since
    g.met.J.Journal.at_rest g.met.J.Journal.counts_now _ c.args.journal.now c.make.new.journal c.args.self.now.core c.make.new.self.core
    c.in-Ok-Do.t _ c.requires (search rules) (rw c.judge.ensures.same at c.make.ensures.any_moment) (rw c.judge.ensures.same at c.make.ensures.fit)
    (search rules)
    (leads_by c.args.self.now.core c.make.new.self.core c.args.command.now _ c.in-Ok-Do.t c.in-Ok-Do.ensures.verdict
    c.in-Ok-Do.field-0-is (rw c.judge.ensures.same at c.in_ok-make-in-Ok-Do.ensures.applied)
    (rw c.judge.ensures.same at c.in_ok-make-in-Ok-Do.ensures.counts)) (search rules) (JudgedSo (search rules))

pub returns-in-Ok-Same-clause-makes : goal.returns-in-Ok-Same-clause-makes
returns-in-Ok-Same-clause-makes g c =
    rw c.judge.ensures.same (asked_nothing g.J.Journal.tells g.J.Journal.holds g.J.Journal.moment g.J.Journal.left_since
    g.met.J.Journal.at_rest c.numbered.result c.args.journal.now c.args.self.now.core _ c.requires (c.numbered.ensures.silent) (NoneAsked))

pub returns-in-Ok-Refused-clause-makes : goal.returns-in-Ok-Refused-clause-makes
returns-in-Ok-Refused-clause-makes g c =
    rw c.judge.ensures.same (asked_nothing g.J.Journal.tells g.J.Journal.holds g.J.Journal.moment g.J.Journal.left_since
    g.met.J.Journal.at_rest c.refused.result c.args.journal.now c.args.self.now.core _ c.requires (c.refused.ensures.silent) (NoneAsked))

pub returns-in-Err-clause-makes : goal.returns-in-Err-clause-makes
returns-in-Err-clause-makes g c =
    rw c.judge.ensures.same (asked_nothing g.J.Journal.tells g.J.Journal.holds g.J.Journal.moment g.J.Journal.left_since
    g.met.J.Journal.at_rest _ c.args.journal.now c.args.self.now.core _ c.requires (search rules) (NoneAsked))

pub returns-in-Ok-Same-clause-cause : goal.returns-in-Ok-Same-clause-cause
returns-in-Ok-Same-clause-cause g c = silent (g.J.Journal.faults c.args.journal.now) c.numbered.result c.numbered.ensures.silent

pub returns-in-Ok-Refused-clause-cause : goal.returns-in-Ok-Refused-clause-cause
returns-in-Ok-Refused-clause-cause g c = silent (g.J.Journal.faults c.args.journal.now) c.refused.result c.refused.ensures.silent

pub returns-in_ok-make-in-Ok-Do-clause-right : goal.returns-in_ok-make-in-Ok-Do-clause-right
returns-in_ok-make-in-Ok-Do-clause-right g c = λ was.
    (rw c.judge.ensures.same at c.in_ok-make-in-Ok-Do.ensures.right)
    (asks_open c.args.self.now.core c.args.command.now _ c.in-Ok-Do.t c.in-Ok-Do.ensures.verdict c.in-Ok-Do.field-0-is was)
    was
