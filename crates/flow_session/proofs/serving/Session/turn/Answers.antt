use Rattle.std.proofs.Common.{◌∙◌, [], ◌∷◌, subst, rules}
use Rattle.std.proofs.lemmas.Result.{err_from_is_err_and}
use Rattle.flow_core.specs.Judgements.{IsVerdict}
use Rattle.flow_core.specs.Summaries.{summary}
use Rattle.flow_session.specs.Asking.{NoneAsked, JudgedSo, IsTurnOf}
use Rattle.flow_session.specs.Leading.{LeadsBy}
use Rattle.flow_session.proofs.Asked.{asked_nothing, asked_one, no_turn, stopped_first}
use Rattle.flow_session.proofs.Leading.{leads_by}
use Rattle.flow_session.proofs.Stopping.{silent_stop}
use Rattle.flow_session.proofs.Turns.{takes_front}
use Rattle.flow_model.specs.declared.commands.Command.TheVariants.{Turn as TurnCommand}
use Rattle.flow_session.proofs.Rights.{asks_open, whatever}
use Rattle.flow_session.proofs.serving.Session.turn.Goals as goal

pub returns-in_err-prepared-in-Ok-Do-clause-makes : goal.returns-in_err-prepared-in-Ok-Do-clause-makes
returns-in_err-prepared-in-Ok-Do-clause-makes g c =
    let p = err_from_is_err_and c.from_residual.result c.from_residual.ensures.1 in
    rw (p.1, p.2) (stopped_first g.J.Journal.tells g.J.Journal.holds g.J.Journal.moment g.J.Journal.left_since
    g.met.J.Journal.at_rest _ c.in_err-prepared-in-Ok-Do.field-0.0 c.args.journal.now c.args.self.now.core c.prepare.new.self.core
    _ c.requires.open c.in_err-prepared-in-Ok-Do.ensures.silent (NoneAsked, tt))

pub returns-in-Ok-Do-clause-makes : goal.returns-in-Ok-Do-clause-makes
returns-in-Ok-Do-clause-makes g c =
    let old = c.args.self.now.core in
    let new = c.prepare.new.self.core in
    let t = c.in-Ok-Do.t in
    let command = TurnCommand c.args.queue in
    let same = c.judge.ensures.same in
    let prepared = rw same at c.in_ok-prepared-in-Ok-Do.ensures in
    let spelled = c.deref.ensures.value in
    let verdict = c.in-Ok-Do.ensures.verdict in
    let leads = leads_by old new command _ t verdict c.in-Ok-Do.field-0-is prepared.applied prepared.counts in
    let turned = takes_front old new c.args.queue _ t verdict c.in-Ok-Do.field-0-is prepared.applied leads
    (λ was. prepared.right (asks_open old command _ t verdict c.in-Ok-Do.field-0-is was) was) in
    asked_one g.J.Journal.tells g.J.Journal.holds g.J.Journal.moment g.J.Journal.left_since
    g.met.J.Journal.at_rest g.met.J.Journal.counts_now c.keep.result c.args.journal.now c.keep.new.self old new
    t _ c.requires.open c.keep.ensures.undone
    (λ told. c.keep.ensures.any_moment (summary old) t told (c.requires.open told) (spelled ∙ prepared.spelled told)
    (prepared.range told))
    (λ told now fit. c.keep.ensures.fit (summary old) t told (c.requires.open told) (spelled ∙ prepared.spelled told)
    (prepared.range told) now fit)
    (λ told. rw prepared.applied.came
    (c.keep.ensures.kept (summary old) t told (c.requires.open told) (spelled ∙ prepared.spelled told) (prepared.range told)))
    (whatever {P = LeadsBy old (t ∷ []) new} c.keep.result leads) (no_turn c.keep.result old new c.args.queue) (
      JudgedSo (subst (IsVerdict old command) c.in-Ok-Do.field-0-is verdict),
      whatever {P = IsTurnOf old new c.args.queue (t ∷ [])} c.keep.result turned,
    )

pub returns-in-Ok-Do-clause-kept : goal.returns-in-Ok-Do-clause-kept
returns-in-Ok-Do-clause-kept g c told =
    let prepared = rw c.judge.ensures.same at c.in_ok-prepared-in-Ok-Do.ensures in
    rw prepared.applied.came
    (c.keep.ensures.kept (summary c.args.self.now.core) c.in-Ok-Do.t told (c.requires.open told)
    (c.deref.ensures.value ∙ prepared.spelled told) (prepared.range told))

pub returns-clause-makes : goal.returns-clause-makes
returns-clause-makes g c =
    rw c.judge.ensures.same (asked_nothing g.J.Journal.tells g.J.Journal.holds g.J.Journal.moment g.J.Journal.left_since
    g.met.J.Journal.at_rest _ c.args.journal.now c.args.self.now.core _ c.requires.open (search rules) (NoneAsked, search rules))

pub returns-in-Ok-Do-clause-right : goal.returns-in-Ok-Do-clause-right
returns-in-Ok-Do-clause-right g c = λ was.
    whatever c.keep.result ((rw c.judge.ensures.same at c.in_ok-prepared-in-Ok-Do.ensures.right)
    (asks_open c.args.self.now.core (TurnCommand c.args.queue) _ c.in-Ok-Do.t c.in-Ok-Do.ensures.verdict
    c.in-Ok-Do.field-0-is was) was)

pub returns-in_err-prepared-in-Ok-Do-clause-cause : goal.returns-in_err-prepared-in-Ok-Do-clause-cause
returns-in_err-prepared-in-Ok-Do-clause-cause g c =
    let p = err_from_is_err_and c.from_residual.result c.from_residual.ensures.1 in
    rw (p.1, p.2) (silent_stop (g.J.Journal.faults c.args.journal.now) c.in_err-prepared-in-Ok-Do.field-0.0 c.in_err-prepared-in-Ok-Do.ensures.silent)
