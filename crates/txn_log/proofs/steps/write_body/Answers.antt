use Rattle.std.proofs.Common.{◌≡◌, ◌⊎◌, inl, inr, ◌≤◌, arith, ℕ, [], ◌∷◌, sym, subst}
use Rattle.flow_disk.specs.Images.{bytes_in, opposite}
use Rattle.flow_disk.proofs.Runs.{started, wrote, stayed, weaker}
use Rattle.txn_log.specs.Stored.{Unmade}
use Rattle.txn_log.specs.Steps.{Begins, HasBody, Stands}
use Rattle.txn_log.proofs.Made.{closed_now, closed_unmade, closed_torn, body_after, text_cut}
use Rattle.txn_log.proofs.steps.write_body.Goals as goal

omega_from : (from : ℕ) → (from ≡ 1) ⊎ (from ≡ 8) → from ≤ 42
omega_from from (inl one) = omega arith
omega_from from (inr eight) = omega arith

pub returns-in_err-write_at-clause-any_moment : goal.returns-in_err-write_at-clause-any_moment
returns-in_err-write_at-clause-any_moment g c told only =
    let d = g.D.Disk in
    let old = c.args.disk.now in
    let shut = c.requires.shut told in
    let there = bytes_in (d.seen old) (opposite c.args.slot) in
    let Q = Begins c.args.slot (shut.gate ∷ shut.magic) there in
    let leads = closed_unmade c.args.slot c.args.from (d.seen old) shut in
    let begun = started d.moment d.left_since d.images old (d.seen old) Q (g.met.D.Disk.only_now old) only (closed_now c.args.slot c.args.from (d.seen old) shut) in
    let first = wrote d.moment d.left_since d.images old old c.write_at.new.self Q c.args.slot c.args.from _ begun c.write_at.ensures.crash c.write_at.ensures.time (λ a b begins torn. closed_torn c.args.slot c.args.from (d.seen old) shut c.args.from _ a b (omega arith) begins torn) in
    weaker d.moment d.left_since d.images old c.write_at.new.self Q (Stands c.args.slot Unmade there) first.leaves leads

pub returns-in_err-write_at-2-clause-any_moment : goal.returns-in_err-write_at-2-clause-any_moment
returns-in_err-write_at-2-clause-any_moment g c told only =
    let d = g.D.Disk in
    let old = c.args.disk.now in
    let shut = c.requires.shut told in
    let there = bytes_in (d.seen old) (opposite c.args.slot) in
    let Q = Begins c.args.slot (shut.gate ∷ shut.magic) there in
    let leads = closed_unmade c.args.slot c.args.from (d.seen old) shut in
    let begun = started d.moment d.left_since d.images old (d.seen old) Q (g.met.D.Disk.only_now old) only (closed_now c.args.slot c.args.from (d.seen old) shut) in
    let first = wrote d.moment d.left_since d.images old old c.write_at.new.self Q c.args.slot c.args.from _ begun c.write_at.ensures.crash c.write_at.ensures.time (λ a b begins torn. closed_torn c.args.slot c.args.from (d.seen old) shut c.args.from _ a b (omega arith) begins torn) in
    let second = wrote d.moment d.left_since d.images old c.write_at.new.self c.write_at-2.new.self Q c.args.slot 42 1 first c.write_at-2.ensures.crash c.write_at-2.ensures.time (λ a b begins torn. closed_torn c.args.slot c.args.from (d.seen old) shut 42 1 a b (omega_from c.args.from c.requires.from) begins torn) in
    weaker d.moment d.left_since d.images old c.write_at-2.new.self Q (Stands c.args.slot Unmade there) second.leaves leads

pub returns-in_err-sync-clause-any_moment : goal.returns-in_err-sync-clause-any_moment
returns-in_err-sync-clause-any_moment g c told only =
    let d = g.D.Disk in
    let old = c.args.disk.now in
    let shut = c.requires.shut told in
    let there = bytes_in (d.seen old) (opposite c.args.slot) in
    let Q = Begins c.args.slot (shut.gate ∷ shut.magic) there in
    let leads = closed_unmade c.args.slot c.args.from (d.seen old) shut in
    let begun = started d.moment d.left_since d.images old (d.seen old) Q (g.met.D.Disk.only_now old) only (closed_now c.args.slot c.args.from (d.seen old) shut) in
    let first = wrote d.moment d.left_since d.images old old c.write_at.new.self Q c.args.slot c.args.from _ begun c.write_at.ensures.crash c.write_at.ensures.time (λ a b begins torn. closed_torn c.args.slot c.args.from (d.seen old) shut c.args.from _ a b (omega arith) begins torn) in
    let second = wrote d.moment d.left_since d.images old c.write_at.new.self c.write_at-2.new.self Q c.args.slot 42 1 first c.write_at-2.ensures.crash c.write_at-2.ensures.time (λ a b begins torn. closed_torn c.args.slot c.args.from (d.seen old) shut 42 1 a b (omega_from c.args.from c.requires.from) begins torn) in
    let third = stayed d.moment d.left_since d.images old c.write_at-2.new.self c.sync.new.self Q second c.sync.ensures.crash c.sync.ensures.time in
    weaker d.moment d.left_since d.images old c.sync.new.self Q (Stands c.args.slot Unmade there) third.leaves leads

pub returns-clause-any_moment : goal.returns-clause-any_moment
returns-clause-any_moment g c told only =
    let d = g.D.Disk in
    let old = c.args.disk.now in
    let shut = c.requires.shut told in
    let there = bytes_in (d.seen old) (opposite c.args.slot) in
    let Q = Begins c.args.slot (shut.gate ∷ shut.magic) there in
    let leads = closed_unmade c.args.slot c.args.from (d.seen old) shut in
    let begun = started d.moment d.left_since d.images old (d.seen old) Q (g.met.D.Disk.only_now old) only (closed_now c.args.slot c.args.from (d.seen old) shut) in
    let first = wrote d.moment d.left_since d.images old old c.write_at.new.self Q c.args.slot c.args.from _ begun c.write_at.ensures.crash c.write_at.ensures.time (λ a b begins torn. closed_torn c.args.slot c.args.from (d.seen old) shut c.args.from _ a b (omega arith) begins torn) in
    let second = wrote d.moment d.left_since d.images old c.write_at.new.self c.write_at-2.new.self Q c.args.slot 42 1 first c.write_at-2.ensures.crash c.write_at-2.ensures.time (λ a b begins torn. closed_torn c.args.slot c.args.from (d.seen old) shut 42 1 a b (omega_from c.args.from c.requires.from) begins torn) in
    let third = stayed d.moment d.left_since d.images old c.write_at-2.new.self c.sync.new.self Q second c.sync.ensures.crash c.sync.ensures.time in
    weaker d.moment d.left_since d.images old c.sync.new.self Q (Stands c.args.slot Unmade there) third.leaves leads

pub returns-clause-body : goal.returns-clause-body
returns-clause-body g c told =
    let d = g.D.Disk in
    let done = body_after c.args.slot c.args.from (d.seen c.args.disk.now) (c.requires.shut told) c.args.header.now _ (d.seen c.write_at.new.self) (d.seen c.write_at-2.new.self)
    (text_cut c.args.from c.header_bytes-text.result c.args.header.now c.header_bytes-text.ensures) (c.in_ok-write_at.ensures.written told) (c.in_ok-write_at-2.ensures.written told) in
    subst (HasBody c.args.slot c.args.header.now [] 42) (sym c.in_ok-sync.ensures.seen) done
