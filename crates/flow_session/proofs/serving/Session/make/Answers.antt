use Rattle.std.proofs.Common.{◌≡◌, ◌∙◌, ◌++◌, ℕ, subst}
use Rattle.flow_core.specs.Replies.{applied_text}
use Rattle.flow_core.specs.Summaries.{summary}
use Rattle.flow_session.specs.Fitting.{HasFitRecords}
use Rattle.flow_session.proofs.Keeping.{nothing_done}
use Rattle.flow_session.proofs.Rights.{whatever}
use Rattle.flow_session.proofs.Stopping.{silent_stop}
use Rattle.std.proofs.lemmas.Result.{err_from_is_err_and}
use Rattle.flow_session.proofs.serving.Session.make.Goals as goal

pub returns-clause-kept : goal.returns-clause-kept
returns-clause-kept g c told =
    rw c.in_ok-prepared.ensures.applied.came
    (c.keep.ensures.kept (summary c.args.self.now.core) c.args.t told (c.requires.open told)
    (c.deref.ensures.value ∙ c.in_ok-prepared.ensures.spelled told) (c.in_ok-prepared.ensures.range told))

pub returns-clause-any_moment : goal.returns-clause-any_moment
returns-clause-any_moment g c told =
    c.keep.ensures.any_moment (summary c.args.self.now.core) c.args.t told (c.requires.open told)
    (c.deref.ensures.value ∙ c.in_ok-prepared.ensures.spelled told) (c.in_ok-prepared.ensures.range told)

pub returns-clause-fit : goal.returns-clause-fit
returns-clause-fit g c told now fit =
    c.keep.ensures.fit (summary c.args.self.now.core) c.args.t told (c.requires.open told)
    (c.deref.ensures.value ∙ c.in_ok-prepared.ensures.spelled told) (c.in_ok-prepared.ensures.range told) now fit

pub returns-in_err-prepared-clause-fit : goal.returns-in_err-prepared-clause-fit
returns-in_err-prepared-clause-fit g c told now fit =
    nothing_done g.J.Journal.moment g.J.Journal.left_since c.args.journal.now HasFitRecords (λ image left. now image left)

pub returns-in_err-write_applied-clause-fit : goal.returns-in_err-write_applied-clause-fit
returns-in_err-write_applied-clause-fit g c told now fit =
    nothing_done g.J.Journal.moment g.J.Journal.left_since c.args.journal.now HasFitRecords (λ image left. now image left)

pub returns-clause-applied : goal.returns-clause-applied
returns-clause-applied g c = whatever c.keep.result c.in_ok-prepared.ensures.applied

pub returns-clause-counts : goal.returns-clause-counts
returns-clause-counts g c = whatever c.keep.result c.in_ok-prepared.ensures.counts

pub returns-clause-right : goal.returns-clause-right
returns-clause-right g c = λ asks was. whatever c.keep.result (c.in_ok-prepared.ensures.right asks was)

pub returns-clause-told : goal.returns-clause-told
returns-clause-told g c =
    let prepared = c.in_ok-prepared.prepared in
    whatever c.keep.result (
      prepared.applied.note,
      c.in_ok-prepared.ensures.note,
      subst (λ (n : ℕ). c.write_applied.new.out.items
          ≡ c.args.out.now.items ++ applied_text (record { number = n; note = prepared.applied.note }))
          c.in_ok-prepared.ensures.number c.in_ok-write_applied.ensures,
    )

pub returns-in_err-prepared-clause-cause : goal.returns-in_err-prepared-clause-cause
returns-in_err-prepared-clause-cause g c =
    let p = err_from_is_err_and c.from_residual.result c.from_residual.ensures.1 in
    rw (p.1, p.2) (silent_stop (g.J.Journal.faults c.args.journal.now) c.in_err-prepared.field-0.0 c.in_err-prepared.ensures.silent)
