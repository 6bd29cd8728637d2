use Rattle.std.proofs.Common.{inl, rules, subst, sym}
use Rattle.flow_core.specs.Summaries.{summary}
use Rattle.flow_words.specs.Endings.{ServeCause}
use Rattle.flow_words.proofs.EndingLemmas.{stop_serves}
use Rattle.flow_session.proofs.Calls.{makes_so}
use Rattle.flow_session.specs.Inputs.{given}
use Rattle.flow_words.proofs.Serving.{keeps_same, nothing_printed, printed_one}
use Rattle.flow_words.proofs.script.serve_one.Goals as goal

pub returns-in-Err-clause-cause : goal.returns-in-Err-clause-cause
returns-in-Err-clause-cause g c =
    let put = g.K.Sink.faults c.args.out.now in
    let before = g.J.Journal.faults c.args.journal.now in
    let now = g.J.Journal.faults c.serve.new.journal in
    subst (ServeCause put put before now) (sym c.stop_status.ensures.status) (stop_serves put before now c.in-Err.stop c.in-Err.ensures.cause)

pub returns-in-Err-clause-makes : goal.returns-in-Err-clause-makes
returns-in-Err-clause-makes g c =
    makes_so g.J.Journal.tells g.J.Journal.moment g.J.Journal.left_since c.args.journal.now c.serve.new.journal
    (summary c.args.session.now.core) _ _ c.in-Err.ensures.makes (λ ts e. tt)

pub returns-in-Err-clause-served : goal.returns-in-Err-clause-served
returns-in-Err-clause-served g c =
    inl (c.in-Err.stop, c.stop_status.ensures.status, keeps_same (g.K.Sink.held c.args.out.now), c.in-Err.ensures.makes)

pub returns-then-is_empty-clause-makes : goal.returns-then-is_empty-clause-makes
returns-then-is_empty-clause-makes g c =
    makes_so g.J.Journal.tells g.J.Journal.moment g.J.Journal.left_since c.args.journal.now c.serve.new.journal
    (summary c.args.session.now.core) _ _ c.in-Ok.ensures.makes (λ ts e. e.leads)

pub returns-then-is_empty-clause-served : goal.returns-then-is_empty-clause-served
returns-then-is_empty-clause-served g c = (
  c.in-Ok.reply.items,
  record {
    served = c.in-Ok.ensures.served;
    makes = record {
      transactions = c.in-Ok.ensures.makes.transactions;
      any_moment = c.in-Ok.ensures.makes.any_moment;
      fit = c.in-Ok.ensures.makes.fit;
      ended = c.in-Ok.ensures.makes.ended.leads;
    };
    asked = c.in-Ok.ensures.makes.ended.asked;
    kept = c.in-Ok.ensures.kept;
    right = c.in-Ok.ensures.right;
    stays = c.in-Ok.ensures.place;
    moves = c.in-Ok.ensures.moved;
  },
  nothing_printed (g.K.Sink.held c.args.out.now) c.in-Ok.reply.items (search rules),
)

pub returns-else-is_empty-clause-makes : goal.returns-else-is_empty-clause-makes
returns-else-is_empty-clause-makes g c =
    makes_so g.J.Journal.tells g.J.Journal.moment g.J.Journal.left_since c.args.journal.now c.serve.new.journal
    (summary c.args.session.now.core) _ _ c.in-Ok.ensures.makes (λ ts e. search rules)

pub returns-else-is_empty-clause-served : goal.returns-else-is_empty-clause-served
returns-else-is_empty-clause-served g c =
    printed_one g.J.Journal.tells g.J.Journal.holds g.J.Journal.moment g.J.Journal.left_since g.J.Journal.place g.J.Journal.moved (g.K.Sink.held c.args.out.now) (g.K.Sink.held c.print.new.out) (given c.args.input) c.in-Ok.reply.items
    c.args.session.now c.serve.new.self c.args.journal.now c.serve.new.journal c.print.result
    (record {
      served = c.in-Ok.ensures.served;
      makes = record {
        transactions = c.in-Ok.ensures.makes.transactions;
        any_moment = c.in-Ok.ensures.makes.any_moment;
        fit = c.in-Ok.ensures.makes.fit;
        ended = c.in-Ok.ensures.makes.ended.leads;
      };
      asked = c.in-Ok.ensures.makes.ended.asked;
      kept = c.in-Ok.ensures.kept;
      right = c.in-Ok.ensures.right;
      stays = c.in-Ok.ensures.place;
      moves = c.in-Ok.ensures.moved;
    })
    (rw c.deref.ensures.value at c.print.ensures.whole) (rw c.deref.ensures.value at c.print.ensures.part)
