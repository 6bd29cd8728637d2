use Rattle.std.proofs.Common.{◌∙◌, refl, arith, rules, length}
use Rattle.flow_core.specs.Summaries.{summary}
use Rattle.flow_session.specs.Asking.{NoneTaken, TurnsSoFar}
use Rattle.flow_session.proofs.Asked.{asked_so_far, asked_stopped, turns_on, turns_stopped}
use Rattle.flow_session.proofs.Calls.{makes_nothing}
use Rattle.flow_session.proofs.Leading.{leads_none}
use Rattle.flow_session.proofs.Rights.{whatever}
use Rattle.flow_session.proofs.Turns.{taken_none, taken_more, behind_some}
use Rattle.flow_session.proofs.Stopping.{silent_after, cause_after}
use Rattle.std.proofs.lemmas.Result.{err_from_is_err_and}
use Rattle.flow_session.proofs.serving.Session.drain.Goals as goal

pub loop-self-init : goal.loop-self-init
loop-self-init g c = record {
  open' = c.requires;
  makes =
      makes_nothing g.J.Journal.tells g.J.Journal.moment g.J.Journal.left_since g.J.Journal.holds g.met.J.Journal.at_rest
      c.args.journal.now (summary c.args.self.now.core) _ c.requires (NoneTaken, leads_none c.args.self.now.core);
  taken = taken_none c.args.self.now.core;
  some = omega arith;
  right = λ right. right;
  text = refl;
  place = refl;
  unfailed = refl;
}

pub loop-self-preserved : goal.loop-self-preserved
loop-self-preserved g c = record {
  open' = c.in_ok-turn.ensures.kept;
  makes = rw c.behind-queue.ensures (turns_on g.J.Journal.tells g.J.Journal.holds g.J.Journal.moment g.J.Journal.left_since
      _ g.met.J.Journal.counts_now c.args.journal.now c.loop-self.journal c.turn.new.journal c.args.self.now.core
      c.loop-self.self.core
      c.turn.new.self.core c.loop-self.queue c.in-Some.next _ c.loop-self.invariant.makes c.in_ok-turn.ensures.makes
      c.in-Some.ensures.some);
  taken = rw c.behind-queue.ensures (taken_more c.args.self.now.core c.loop-self.self.core c.turn.new.self.core c.loop-self.turns c.saturating_add-turns.result c.loop-self.queue c.in-Some.next c.loop-self.invariant.taken c.in-Some.ensures.some c.in_ok-turn.ensures.makes.ended.asked.1.0 (search rules));
  some = rw c.behind-queue.ensures (behind_some (length c.loop-self.self.core.queues) c.in-Some.next);
  right = λ right. c.in_ok-turn.ensures.right (c.loop-self.invariant.right right);
  text = c.in_ok-turn.ensures.gathers ∙ c.loop-self.invariant.text;
  place = c.turn.ensures.place ∙ c.loop-self.invariant.place;
  unfailed = c.in_ok-turn.ensures.cause ∙ c.loop-self.invariant.unfailed;
}

pub returns-in_err-turn-clause-makes : goal.returns-in_err-turn-clause-makes
returns-in_err-turn-clause-makes g c =
    let p = err_from_is_err_and c.from_residual.result c.from_residual.ensures.1 in
    rw (p.1, p.2) (asked_stopped g.J.Journal.tells g.J.Journal.holds g.J.Journal.moment g.J.Journal.left_since
    _ _ c.in_err-turn.field-0.0 g.met.J.Journal.counts_now c.args.journal.now c.loop-self.journal c.turn.new.journal
    c.args.self.now.core c.loop-self.self.core c.turn.new.self.core _ _ _ c.loop-self.invariant.makes c.in_err-turn.ensures.makes
    (λ ts us taken asked. turns_stopped c.args.self.now.core c.loop-self.self.core ts us c.loop-self.queue c.in-Some.next
    taken c.in-Some.ensures.some asked.0))

pub returns-in_default-clause-makes : goal.returns-in_default-clause-makes
returns-in_default-clause-makes g c =
    asked_so_far g.J.Journal.tells g.J.Journal.holds g.J.Journal.moment g.J.Journal.left_since
    c.drained.result c.args.journal.now c.loop-self.journal c.args.self.now.core c.loop-self.self.core _ _
    c.drained.ensures.silent c.loop-self.invariant.makes c.loop-self.invariant.open' (λ ts taken. TurnsSoFar taken)

pub returns-clause-makes : goal.returns-clause-makes
returns-clause-makes g c =
    asked_so_far g.J.Journal.tells g.J.Journal.holds g.J.Journal.moment g.J.Journal.left_since
    c.drained-2.result c.args.journal.now c.loop-self.journal c.args.self.now.core c.loop-self.self.core _ _
    c.drained-2.ensures.silent c.loop-self.invariant.makes c.loop-self.invariant.open' (λ ts taken. TurnsSoFar taken)

pub returns-clause-gathers : goal.returns-clause-gathers
returns-clause-gathers g c = whatever c.drained-2.result c.loop-self.invariant.text

pub returns-in_err-turn-clause-cause : goal.returns-in_err-turn-clause-cause
returns-in_err-turn-clause-cause g c =
    let p = err_from_is_err_and c.from_residual.result c.from_residual.ensures.1 in
    rw (p.1, p.2) (cause_after (g.J.Journal.faults c.args.journal.now) (g.J.Journal.faults c.loop-self.journal) (g.J.Journal.faults c.turn.new.journal) c.in_err-turn.field-0.0 c.loop-self.invariant.unfailed c.in_err-turn.ensures.cause)

pub returns-in_default-clause-cause : goal.returns-in_default-clause-cause
returns-in_default-clause-cause g c = silent_after (g.J.Journal.faults c.args.journal.now) (g.J.Journal.faults c.loop-self.journal) c.drained.result c.loop-self.invariant.unfailed c.drained.ensures.silent

pub returns-clause-cause : goal.returns-clause-cause
returns-clause-cause g c = silent_after (g.J.Journal.faults c.args.journal.now) (g.J.Journal.faults c.loop-self.journal) c.drained-2.result c.loop-self.invariant.unfailed c.drained-2.ensures.silent
