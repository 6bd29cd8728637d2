use Rattle.std.proofs.Common.{◌∙◌, ap, subst}
use Rattle.std.proofs.lemmas.Result.{err_from_is_err_and}
use Rattle.flow_disk.specs.Images.{opposite}
use Rattle.flow_disk.proofs.Runs.{weaker}
use Rattle.txn_log.specs.declared.log.Log.{Log}
use Rattle.checkpoint.specs.Compacting.{IsCompacted, MayBeCompacted}
use Rattle.flow_core.specs.Summaries.{summary}
use Rattle.live_history.specs.declared.history.History.{History}
use Rattle.flow_session.specs.Fitting.{HasFitRecords}
use Rattle.flow_session.specs.Histories.{StandsFor, payloads}
use Rattle.flow_session.proofs.Fitting.{fit_compacted}
use Rattle.flow_session.proofs.Histories.{compacted, may_be_compacted}
use Rattle.flow_session.proofs.Keeping.{in_journal, nothing_done, seen_left, stays_open}
use Rattle.flow_session.proofs.store.StoredJournal.checkpoint.Goals as goal

pub returns-in_err-move_log-clause-any_moment : goal.returns-in_err-move_log-clause-any_moment
returns-in_err-move_log-clause-any_moment g c told =
    let d = g.D.Disk in
    let is = c.requires.open told in
    let live = ap (λ (h : History). payloads h.items) c.live-history.ensures in
    in_journal (λ j. j.disk) d.moment d.left_since _ _ (StandsFor (summary c.args.core.now))
    (weaker d.moment d.left_since d.images c.args.self.now.disk c.move_log.new.disk (MayBeCompacted (opposite c.args.self.now.log.slot) c.in-Some.header (payloads c.live-history.result.now.items) (d.seen c.args.self.now.disk)) (StandsFor (summary c.args.core.now)) (c.move_log.ensures.any_moment told is.only)
    (λ image may. may_be_compacted (summary c.args.core.now) (opposite c.args.self.now.log.slot) c.in-Some.header (d.seen c.args.self.now.disk) image is.holds c.in-Some.ensures.2
    (subst (λ ps. MayBeCompacted (opposite c.args.self.now.log.slot) c.in-Some.header ps (d.seen c.args.self.now.disk) image) live may)))

pub returns-clause-kept : goal.returns-clause-kept
returns-clause-kept g c told =
    let d = g.D.Disk in
    let is = c.requires.open told in
    let live = ap (λ (h : History). payloads h.items) c.live-history.ensures in
    record {
      alive = c.in_ok-move_log.ensures.alive;
      stands = c.in_ok-move_log.ensures.stands told;
      only = c.in_ok-move_log.ensures.durable;
      holds = compacted (summary c.args.core.now) (opposite c.args.self.now.log.slot) c.in-Some.header (d.seen c.args.self.now.disk) (d.seen c.move_log.new.disk) is.holds c.in-Some.ensures.2
          (subst (λ ps. IsCompacted (opposite c.args.self.now.log.slot) c.in-Some.header ps (d.seen c.move_log.new.disk)) live (c.in_ok-move_log.ensures.compacted told));
    }

pub returns-clause-any_moment : goal.returns-clause-any_moment
returns-clause-any_moment g c told =
    let d = g.D.Disk in
    let is = c.requires.open told in
    let live = ap (λ (h : History). payloads h.items) c.live-history.ensures in
    in_journal (λ j. j.disk) d.moment d.left_since _ _ (StandsFor (summary c.args.core.now))
    (weaker d.moment d.left_since d.images c.args.self.now.disk c.move_log.new.disk (MayBeCompacted (opposite c.args.self.now.log.slot) c.in-Some.header (payloads c.live-history.result.now.items) (d.seen c.args.self.now.disk)) (StandsFor (summary c.args.core.now)) (c.move_log.ensures.any_moment told is.only)
    (λ image may. may_be_compacted (summary c.args.core.now) (opposite c.args.self.now.log.slot) c.in-Some.header (d.seen c.args.self.now.disk) image is.holds c.in-Some.ensures.2
    (subst (λ ps. MayBeCompacted (opposite c.args.self.now.log.slot) c.in-Some.header ps (d.seen c.args.self.now.disk) image) live may)))

pub returns-clause-moved : goal.returns-clause-moved
returns-clause-moved g c =
    let d = g.D.Disk in
    let log = c.in_ok-move_log.ensures.log in
    let live = ap (λ (h : History). payloads h.items) c.live-history.ensures in
    record {
      slot = log.0;
      generation = log.1 ∙ c.in-Some.ensures.1;
      holds = λ told. record {
        header = c.in-Some.header;
        generation_is = c.in-Some.ensures.1;
        says = c.in-Some.ensures.2;
        records = subst (λ ps. IsCompacted (opposite c.args.self.now.log.slot) c.in-Some.header ps (d.seen c.move_log.new.disk)) live (c.in_ok-move_log.ensures.compacted told);
      };
      durable = c.in_ok-move_log.ensures.durable;
    }

pub returns-in_err-move_log-clause-stays : goal.returns-in_err-move_log-clause-stays
returns-in_err-move_log-clause-stays g c =
    let d = g.D.Disk in
    let p = err_from_is_err_and c.from_residual-in_err-move_log.result c.from_residual-in_err-move_log.ensures.1 in
    rw (p.1, p.2) (λ none told.
    let stays = c.in_err-move_log.ensures.stays told (c.requires.open told).only none in (
      ap (λ (l : Log). (l.slot, l.generation)) stays.logged,
      stays_open d.seen d.images (summary c.args.core.now) c.args.self.now.log c.move_log.new.log c.args.self.now.disk c.move_log.new.disk (c.requires.open told) stays,
    ))

pub returns-in_err-move_log-clause-fit : goal.returns-in_err-move_log-clause-fit
returns-in_err-move_log-clause-fit g c told now fit =
    let d = g.D.Disk in
    let is = c.requires.open told in
    let live = ap (λ (h : History). payloads h.items) c.live-history.ensures in
    let seen_fit = now (d.seen c.args.self.now.disk)
    (seen_left d.moment d.left_since d.images g.met.D.Disk.counts_now d.tells d.seen g.met.D.Disk.honest c.args.self.now.disk told) in
    in_journal (λ j. j.disk) d.moment d.left_since _ _ HasFitRecords
    (weaker d.moment d.left_since d.images c.args.self.now.disk c.move_log.new.disk (MayBeCompacted (opposite c.args.self.now.log.slot) c.in-Some.header (payloads c.live-history.result.now.items) (d.seen c.args.self.now.disk)) HasFitRecords (c.move_log.ensures.any_moment told is.only)
    (λ image may. fit_compacted (summary c.args.core.now) (opposite c.args.self.now.log.slot) c.in-Some.header (d.seen c.args.self.now.disk) image seen_fit is.holds c.in-Some.ensures.2 c.in-Some.ensures.0 fit
    (subst (λ ps. MayBeCompacted (opposite c.args.self.now.log.slot) c.in-Some.header ps (d.seen c.args.self.now.disk) image) live may)))

pub returns-clause-fit : goal.returns-clause-fit
returns-clause-fit g c told now fit =
    let d = g.D.Disk in
    let is = c.requires.open told in
    let live = ap (λ (h : History). payloads h.items) c.live-history.ensures in
    let seen_fit = now (d.seen c.args.self.now.disk)
    (seen_left d.moment d.left_since d.images g.met.D.Disk.counts_now d.tells d.seen g.met.D.Disk.honest c.args.self.now.disk told) in
    in_journal (λ j. j.disk) d.moment d.left_since _ _ HasFitRecords
    (weaker d.moment d.left_since d.images c.args.self.now.disk c.move_log.new.disk (MayBeCompacted (opposite c.args.self.now.log.slot) c.in-Some.header (payloads c.live-history.result.now.items) (d.seen c.args.self.now.disk)) HasFitRecords (c.move_log.ensures.any_moment told is.only)
    (λ image may. fit_compacted (summary c.args.core.now) (opposite c.args.self.now.log.slot) c.in-Some.header (d.seen c.args.self.now.disk) image seen_fit is.holds c.in-Some.ensures.2 c.in-Some.ensures.0 fit
    (subst (λ ps. MayBeCompacted (opposite c.args.self.now.log.slot) c.in-Some.header ps (d.seen c.args.self.now.disk) image) live may)))

pub returns-in_default-clause-fit : goal.returns-in_default-clause-fit
returns-in_default-clause-fit g c told now fit =
    let d = g.D.Disk in
    in_journal (λ j. j.disk) d.moment d.left_since _ _ HasFitRecords
    (nothing_done d.moment d.left_since c.args.self.now.disk HasFitRecords (λ image left. now image left))

pub returns-in_err-count-clause-fit : goal.returns-in_err-count-clause-fit
returns-in_err-count-clause-fit g c told now fit =
    let d = g.D.Disk in
    in_journal (λ j. j.disk) d.moment d.left_since _ _ HasFitRecords
    (nothing_done d.moment d.left_since c.args.self.now.disk HasFitRecords (λ image left. now image left))

pub returns-in_default-2-clause-fit : goal.returns-in_default-2-clause-fit
returns-in_default-2-clause-fit g c told now fit =
    let d = g.D.Disk in
    in_journal (λ j. j.disk) d.moment d.left_since _ _ HasFitRecords
    (nothing_done d.moment d.left_since c.args.self.now.disk HasFitRecords (λ image left. now image left))
