use Rattle.std.proofs.Common.{◌+◌, length, arith}
use Rattle.std.proofs.lemmas.Result.{on_ok_weaker}
use Rattle.std.proofs.Common.{◌++◌, ◌∷◌, [], sym, subst}
use Rattle.flow_disk.proofs.Runs.{stayed}
use Rattle.txn_log.specs.Steps.{IsStaged}
use Rattle.txn_log.proofs.Staged.{Kept, stage_begun, stage_wrote, written_within, all_staged}
use Rattle.txn_log.proofs.steps.stage_all.Goals as goal

pub returns-in_err-write_at-clause-any_moment : goal.returns-in_err-write_at-clause-any_moment
returns-in_err-write_at-clause-any_moment g c told only =
    let d = g.D.Disk in
    let old = c.args.disk.now in
    let begun = stage_begun d.moment d.left_since d.images old (d.seen old) c.args.slot c.args.gate (g.met.D.Disk.only_now old) only in
    let first = stage_wrote d.moment d.left_since d.images old (d.seen old) c.args.slot c.args.gate old c.write_at.new.self (c.args.gate + 1) (length c.args.records.now) (omega arith) begun c.write_at.ensures.crash c.write_at.ensures.time in
    first.leaves

pub returns-in_err-write_at-2-clause-any_moment : goal.returns-in_err-write_at-2-clause-any_moment
returns-in_err-write_at-2-clause-any_moment g c told only =
    let d = g.D.Disk in
    let old = c.args.disk.now in
    let begun = stage_begun d.moment d.left_since d.images old (d.seen old) c.args.slot c.args.gate (g.met.D.Disk.only_now old) only in
    let first = stage_wrote d.moment d.left_since d.images old (d.seen old) c.args.slot c.args.gate old c.write_at.new.self (c.args.gate + 1) (length c.args.records.now) (omega arith) begun c.write_at.ensures.crash c.write_at.ensures.time in
    let second = stage_wrote d.moment d.left_since d.images old (d.seen old) c.args.slot c.args.gate c.write_at.new.self c.write_at-2.new.self (c.args.gate + 1 + length c.args.records.now) 1 (omega arith) first c.write_at-2.ensures.crash c.write_at-2.ensures.time in
    second.leaves

pub returns-clause-any_moment : goal.returns-clause-any_moment
returns-clause-any_moment g c told only =
    let d = g.D.Disk in
    let old = c.args.disk.now in
    let begun = stage_begun d.moment d.left_since d.images old (d.seen old) c.args.slot c.args.gate (g.met.D.Disk.only_now old) only in
    let first = stage_wrote d.moment d.left_since d.images old (d.seen old) c.args.slot c.args.gate old c.write_at.new.self (c.args.gate + 1) (length c.args.records.now) (omega arith) begun c.write_at.ensures.crash c.write_at.ensures.time in
    let second = stage_wrote d.moment d.left_since d.images old (d.seen old) c.args.slot c.args.gate c.write_at.new.self c.write_at-2.new.self (c.args.gate + 1 + length c.args.records.now) 1 (omega arith) first c.write_at-2.ensures.crash c.write_at-2.ensures.time in
    (stayed d.moment d.left_since d.images old c.write_at-2.new.self c.sync.new.self (Kept (d.seen old) c.args.slot c.args.gate) second c.sync.ensures.crash c.sync.ensures.time).leaves

pub write_at-requires-2-clause-no_gap : goal.write_at-requires-2-clause-no_gap
write_at-requires-2-clause-no_gap g c told =
    let d = g.D.Disk in
    written_within c.args.slot c.args.gate c.args.records.now (d.seen c.args.disk.now) (d.seen c.write_at.new.self) (d.seen c.write_at.new.self) (c.requires.within told) (c.in_ok-write_at.ensures.written told)

pub returns-clause-staged : goal.returns-clause-staged
returns-clause-staged g c =
    let d = g.D.Disk in
    on_ok_weaker c.sync.result
    (λ same told.
    subst (IsStaged c.args.slot c.args.gate (c.args.records.now ++ 0 ∷ []) (d.seen c.args.disk.now)) (sym same)
    (all_staged c.args.slot c.args.gate c.args.records.now (d.seen c.args.disk.now) (d.seen c.write_at.new.self) (d.seen c.write_at-2.new.self) (c.requires.within told) (c.in_ok-write_at.ensures.written told) (c.in_ok-write_at-2.ensures.written told)))
    c.sync.ensures.seen
