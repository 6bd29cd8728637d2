use Rattle.std.proofs.Common.{◌≡◌, [], refl}
use Rattle.flow_core.specs.Summaries.{summary}
use Rattle.std.proofs.lemmas.Result.{err_from_is_err_and}
use Rattle.flow_session.proofs.Asked.{asked_moved, asked_so_far}
use Rattle.flow_session.proofs.Calls.{makes_none}
use Rattle.flow_session.proofs.Leading.{leads_none}
use Rattle.flow_session.proofs.Rights.{whatever}
use Rattle.flow_session.proofs.Stopping.{silent_after}
use Rattle.flow_session.proofs.serving.Session.checkpoint.Goals as goal

pub returns-in_err-checkpoint-clause-makes : goal.returns-in_err-checkpoint-clause-makes
returns-in_err-checkpoint-clause-makes g c =
    let p = err_from_is_err_and c.from_residual.result c.from_residual.ensures.1 in
    rw (p.1, p.2) (asked_moved g.J.Journal.tells g.J.Journal.holds g.J.Journal.moment g.J.Journal.left_since
    g.met.J.Journal.at_rest g.met.J.Journal.counts_now _ c.in_err-checkpoint.field-0.0 c.args.journal.now
    c.checkpoint.new.self c.args.self.now.core (λ ts. ts ≡ []) (λ none told. (c.in_err-checkpoint.ensures.stays none told).1)
    c.checkpoint.ensures.any_moment c.checkpoint.ensures.fit refl)

pub returns-clause-makes : goal.returns-clause-makes
returns-clause-makes g c =
    asked_so_far g.J.Journal.tells g.J.Journal.holds g.J.Journal.moment g.J.Journal.left_since
    c.numbered.result c.args.journal.now c.checkpoint.new.self c.args.self.now.core c.args.self.now.core (λ ts. ts ≡ []) _
    c.numbered.ensures.silent
    (makes_none g.J.Journal.tells g.J.Journal.moment g.J.Journal.left_since
    c.args.journal.now c.checkpoint.new.self (summary c.args.self.now.core) _ c.checkpoint.ensures.any_moment
    c.checkpoint.ensures.fit (refl, leads_none c.args.self.now.core))
    c.in_ok-checkpoint.ensures.kept (λ ts none. none)

pub returns-clause-cause : goal.returns-clause-cause
returns-clause-cause g c = silent_after (g.J.Journal.faults c.args.journal.now) (g.J.Journal.faults c.checkpoint.new.self) c.numbered.result c.in_ok-checkpoint.ensures.cause c.numbered.ensures.silent

pub returns-clause-moved : goal.returns-clause-moved
returns-clause-moved g c = whatever c.numbered.result c.in_ok-checkpoint.ensures.moved
