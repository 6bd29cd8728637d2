use Rattle.std.proofs.Common.{inl, ⊎_elim, refl, sym, subst, ◌∙◌, ℕ, ◌<◌, arith, length}
use Rattle.flow_disk.specs.Images.{Image, bytes_in, opposite, TornIn}
use Rattle.flow_disk.proofs.Runs.{started, goes_on, stayed}
use Rattle.txn_log.specs.Stored.{slot_state}
use Rattle.txn_log.specs.Steps.{IsShut, StandsOrUnmade}
use Rattle.txn_log.proofs.Closing.{stands_zero, stands_other, shut_now, torn_shut, held_open}
use Rattle.txn_log.proofs.steps.shut_gate.Goals as goal

pub returns-in-Some-clause-shut : goal.returns-in-Some-clause-shut
returns-in-Some-clause-shut g c told =
    let seen = g.D.Disk.seen c.args.disk.now in
    let known = c.in-Some.ensures in
    let size = c.requires.size told in
    let first = c.requires.first told known.0 in
    let long : 1 < length (bytes_in (g.D.Disk.seen c.args.disk.now) c.args.slot) = omega (arith, known.0, size) in
    ⊎_elim
    (λ k. subst (λ (f : ℕ). IsShut c.args.slot f (g.D.Disk.seen c.args.disk.now)) (sym k.0) (stands_zero c.args.slot seen long (sym first ∙ k.1)))
    (λ k. subst (λ (f : ℕ). IsShut c.args.slot f (g.D.Disk.seen c.args.disk.now)) (sym k.0) (stands_other c.args.slot seen long (λ z. k.1 (first ∙ z)) (λ o. k.2 (first ∙ o)) (c.requires.ours told)))
    known.1

pub returns-clause-shut : goal.returns-clause-shut
returns-clause-shut g c told =
    subst (IsShut c.args.slot 1) (sym c.in_ok-sync.ensures.seen) (shut_now c.args.slot (g.D.Disk.seen c.args.disk.now) (g.D.Disk.seen c.write_at.new.self) (c.in_ok-write_at.ensures.written told))

pub returns-in_err-write_at-clause-any_moment : goal.returns-in_err-write_at-clause-any_moment
returns-in_err-write_at-clause-any_moment g c told only =
    let d = g.D.Disk in
    let old = c.args.disk.now in
    let P = StandsOrUnmade c.args.slot (slot_state (bytes_in (d.seen old) c.args.slot)) (bytes_in (d.seen old) (opposite c.args.slot)) in
    let held = held_open (bytes_in (d.seen old) c.args.slot) c.args.size c.args.first (c.requires.size told) (c.requires.first told) c.in_default.ensures in
    let begun = started d.moment d.left_since d.images old (d.seen old) P (g.met.D.Disk.only_now old) only (record { here = inl refl; other = refl }) in
    let wrote = goes_on d.moment d.left_since d.images old old c.write_at.new.self P begun c.write_at.ensures.time
    (λ i left. let from = c.write_at.ensures.crash i left in torn_shut c.args.slot (d.seen old) i held (c.requires.ours told) (subst (λ (e : Image). TornIn c.args.slot 0 1 e i) (only from.0 from.1) from.2)) in
    wrote.leaves

pub returns-in_err-sync-clause-any_moment : goal.returns-in_err-sync-clause-any_moment
returns-in_err-sync-clause-any_moment g c told only =
    let d = g.D.Disk in
    let old = c.args.disk.now in
    let P = StandsOrUnmade c.args.slot (slot_state (bytes_in (d.seen old) c.args.slot)) (bytes_in (d.seen old) (opposite c.args.slot)) in
    let held = held_open (bytes_in (d.seen old) c.args.slot) c.args.size c.args.first (c.requires.size told) (c.requires.first told) c.in_default.ensures in
    let begun = started d.moment d.left_since d.images old (d.seen old) P (g.met.D.Disk.only_now old) only (record { here = inl refl; other = refl }) in
    let wrote = goes_on d.moment d.left_since d.images old old c.write_at.new.self P begun c.write_at.ensures.time
    (λ i left. let from = c.write_at.ensures.crash i left in torn_shut c.args.slot (d.seen old) i held (c.requires.ours told) (subst (λ (e : Image). TornIn c.args.slot 0 1 e i) (only from.0 from.1) from.2)) in
    (stayed d.moment d.left_since d.images old c.write_at.new.self c.sync.new.self P wrote c.sync.ensures.crash c.sync.ensures.time).leaves

pub returns-clause-any_moment : goal.returns-clause-any_moment
returns-clause-any_moment g c told only =
    let d = g.D.Disk in
    let old = c.args.disk.now in
    let P = StandsOrUnmade c.args.slot (slot_state (bytes_in (d.seen old) c.args.slot)) (bytes_in (d.seen old) (opposite c.args.slot)) in
    let held = held_open (bytes_in (d.seen old) c.args.slot) c.args.size c.args.first (c.requires.size told) (c.requires.first told) c.in_default.ensures in
    let begun = started d.moment d.left_since d.images old (d.seen old) P (g.met.D.Disk.only_now old) only (record { here = inl refl; other = refl }) in
    let wrote = goes_on d.moment d.left_since d.images old old c.write_at.new.self P begun c.write_at.ensures.time
    (λ i left. let from = c.write_at.ensures.crash i left in torn_shut c.args.slot (d.seen old) i held (c.requires.ours told) (subst (λ (e : Image). TornIn c.args.slot 0 1 e i) (only from.0 from.1) from.2)) in
    (stayed d.moment d.left_since d.images old c.write_at.new.self c.sync.new.self P wrote c.sync.ensures.crash c.sync.ensures.time).leaves
