use Rattle.std.proofs.Common.{[], ◌∷◌, ◌++◌}
use Rattle.std.proofs.lemmas.Result.{on_ok_weaker}
use Rattle.flow_disk.proofs.Runs.{weaker, joined}
use Rattle.txn_log.specs.Steps.{GateDiffers, WithOrWithout}
use Rattle.txn_log.proofs.Batches.{opens_all}
use Rattle.txn_log.proofs.Staged.{Kept, gate_within, stage_same, gate_with_or_without, opened_with, staged_within}
use Rattle.txn_log.proofs.steps.add_all.Goals as goal

pub stage_all-requires-clause-within : goal.stage_all-requires-clause-within
stage_all-requires-clause-within g c told = gate_within c.args.slot c.args.gate c.args.batch.now (g.D.Disk.seen c.args.disk.now) (c.requires.stands told)

pub returns-in_err-stage_all-clause-any_moment : goal.returns-in_err-stage_all-clause-any_moment
returns-in_err-stage_all-clause-any_moment g c told only =
    let d = g.D.Disk in
    let old = c.args.disk.now in
    weaker d.moment d.left_since d.images old c.stage_all.new.disk (Kept (d.seen old) c.args.slot c.args.gate) (WithOrWithout c.args.slot c.args.batch.now (d.seen old)) (c.stage_all.ensures.any_moment told only)
    (stage_same c.args.slot c.args.gate c.args.batch.now (d.seen old) (c.requires.stands told))

pub open_gate-requires : goal.open_gate-requires
open_gate-requires g c = record {
  within = λ told. staged_within c.args.slot c.args.gate c.args.batch.now (c.behind_first_gate.result.now ++ 0 ∷ []) (g.D.Disk.seen c.args.disk.now) (c.requires.stands told) (opens_all c.args.slot c.args.gate c.args.batch.now c.behind_first_gate.result.now (g.D.Disk.seen c.args.disk.now) (c.requires.stands told) c.behind_first_gate.ensures.bytes c.behind_first_gate.ensures.allowed c.requires.some) (g.D.Disk.seen c.stage_all.new.disk) (c.in_ok-stage_all.ensures.staged told);
}

pub returns-clause-any_moment : goal.returns-clause-any_moment
returns-clause-any_moment g c told only =
    let d = g.D.Disk in
    let old = c.args.disk.now in
    let mid = c.stage_all.new.disk in
    let P = WithOrWithout c.args.slot c.args.batch.now (d.seen old) in
    let first = weaker d.moment d.left_since d.images old mid (Kept (d.seen old) c.args.slot c.args.gate) P (c.stage_all.ensures.any_moment told only)
    (stage_same c.args.slot c.args.gate c.args.batch.now (d.seen old) (c.requires.stands told)) in
    let second = weaker d.moment d.left_since d.images mid c.open_gate.new.disk (GateDiffers c.args.slot c.args.gate (d.seen mid)) P (c.open_gate.ensures.any_moment told c.in_ok-stage_all.ensures.durable)
    (λ i differs. gate_with_or_without c.args.slot c.args.gate c.args.batch.now (c.behind_first_gate.result.now ++ 0 ∷ []) (d.seen old) (c.requires.stands told) (opens_all c.args.slot c.args.gate c.args.batch.now c.behind_first_gate.result.now (d.seen old) (c.requires.stands told) c.behind_first_gate.ensures.bytes c.behind_first_gate.ensures.allowed c.requires.some) (d.seen mid) i (c.in_ok-stage_all.ensures.staged told) differs) in
    joined d.moment d.left_since d.images old mid c.open_gate.new.disk P first second

pub returns-clause-added : goal.returns-clause-added
returns-clause-added g c =
    let d = g.D.Disk in
    on_ok_weaker c.open_gate.result
    (λ opened told. opened_with c.args.slot c.args.gate c.args.batch.now (c.behind_first_gate.result.now ++ 0 ∷ []) (d.seen c.args.disk.now) (c.requires.stands told) (opens_all c.args.slot c.args.gate c.args.batch.now c.behind_first_gate.result.now (d.seen c.args.disk.now) (c.requires.stands told) c.behind_first_gate.ensures.bytes c.behind_first_gate.ensures.allowed c.requires.some) (d.seen c.stage_all.new.disk) (d.seen c.open_gate.new.disk) (c.in_ok-stage_all.ensures.staged told) (opened told))
    c.open_gate.ensures.opened
