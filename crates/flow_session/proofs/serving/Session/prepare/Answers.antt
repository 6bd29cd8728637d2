use Rattle.std.proofs.Common.{◌∙◌, ◌+◌, ℕ, ap, subst}
use Rattle.flow_txn.specs.Ranges.{IsInRange}
use Rattle.flow_txn.specs.Records.{record_bytes}
use Rattle.flow_core.specs.Summaries.{Summary}
use Rattle.worklist_laws.proofs.Transactions.{listed_stays}
use Rattle.flow_session.proofs.serving.Session.prepare.Goals as goal

pub returns-clause-applied : goal.returns-clause-applied
returns-clause-applied g c =
    record {
      drives = c.in_ok-applied.ensures.drives;
      came = c.in_ok-applied.ensures.next;
      clock = c.in_ok-applied.ensures.clock;
      store = c.in_ok-applied.ensures.store;
      keys = c.in_ok-applied.ensures.keys;
      exact = c.in_ok-applied.ensures.exact;
    }

pub returns-clause-right : goal.returns-clause-right
returns-clause-right g c = λ asks was.
    listed_stays c.args.self.now.core c.apply.new.self c.args.t (record {
      allowed = c.requires.allowed;
      drives = c.in_ok-applied.ensures.drives;
      counts = c.in_ok-applied.ensures.counts;
      lives = (c.args.self.now.core.number + 1, ap (λ (s : Summary). s.live) c.in_ok-applied.ensures.next);
    }) (c.in_ok-applied.ensures.shelves) asks was

pub returns-clause-spelled : goal.returns-clause-spelled
returns-clause-spelled g c told =
    c.in_ok-payload.ensures.spelled told ∙ ap (λ n. record_bytes n c.args.t) c.next_number.ensures

pub returns-clause-range : goal.returns-clause-range
returns-clause-range g c told =
    subst (λ (n : ℕ). IsInRange n c.args.t) c.next_number.ensures (c.in_ok-payload.ensures.range told)
