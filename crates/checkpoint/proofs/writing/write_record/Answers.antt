use Rattle.std.proofs.Common.{◌≡◌, ℕ, ◌+◌, List, ◌∷◌, length, subst, arith, rules, refl}
use Rattle.std.specs.Int.{w32, to_be_bytes}
use Rattle.checkpoint.specs.Writing.{Adds}
use Rattle.checkpoint.proofs.Writes.{keeps_wrote, keeps_then, adds_wrote, adds_then, adds_within, head_is}
use Rattle.checkpoint.proofs.writing.write_record.Goals as goal

pub returns-in_err-write_at-clause-keeps : goal.returns-in_err-write_at-clause-keeps
returns-in_err-write_at-clause-keeps g c =
    let d = g.D.Disk in
    keeps_wrote d.moment d.left_since d.images c.args.slot c.args.at _ c.args.disk.now c.write_at.new.self (g.met.D.Disk.only_now c.args.disk.now) c.write_at.ensures.crash c.write_at.ensures.time

pub returns-in_err-write_at-2-clause-keeps : goal.returns-in_err-write_at-2-clause-keeps
returns-in_err-write_at-2-clause-keeps g c =
    let d = g.D.Disk in
    let one = keeps_wrote d.moment d.left_since d.images c.args.slot c.args.at _ c.args.disk.now c.write_at.new.self (g.met.D.Disk.only_now c.args.disk.now) c.write_at.ensures.crash c.write_at.ensures.time in
    let two = keeps_wrote d.moment d.left_since d.images c.args.slot (c.args.at + 5) _ c.write_at.new.self c.write_at-2.new.self (g.met.D.Disk.only_now c.write_at.new.self) c.write_at-2.ensures.crash c.write_at-2.ensures.time in
    keeps_then d.moment d.left_since d.images c.args.slot c.args.at (c.args.at + 5) c.args.disk.now c.write_at.new.self c.write_at-2.new.self (omega arith) one two

pub returns-clause-keeps : goal.returns-clause-keeps
returns-clause-keeps g c =
    let d = g.D.Disk in
    let one = keeps_wrote d.moment d.left_since d.images c.args.slot c.args.at _ c.args.disk.now c.write_at.new.self (g.met.D.Disk.only_now c.args.disk.now) c.write_at.ensures.crash c.write_at.ensures.time in
    let two = keeps_wrote d.moment d.left_since d.images c.args.slot (c.args.at + 5) _ c.write_at.new.self c.write_at-2.new.self (g.met.D.Disk.only_now c.write_at.new.self) c.write_at-2.ensures.crash c.write_at-2.ensures.time in
    keeps_then d.moment d.left_since d.images c.args.slot c.args.at (c.args.at + 5) c.args.disk.now c.write_at.new.self c.write_at-2.new.self (omega arith) one two

pub write_at-requires-2-clause-no_gap : goal.write_at-requires-2-clause-no_gap
write_at-requires-2-clause-no_gap g c told =
    let d = g.D.Disk in
    let four : c.to_be_bytes.result ≡ to_be_bytes w32 (length c.args.payload.now) = search rules in
    let head = head_is c.to_be_bytes.result (length c.args.payload.now) four in
    let first = subst (λ (l : List ℕ). Adds c.args.slot c.args.at l (d.seen c.args.disk.now) (d.seen c.write_at.new.self)) head (adds_wrote c.args.slot c.args.at _ (d.seen c.args.disk.now) (d.seen c.write_at.new.self) (c.in_ok-write_at.ensures.written told)) in
    let long : length (1 ∷ to_be_bytes w32 (length c.args.payload.now)) ≡ 5 = refl in
    omega (arith, long, adds_within c.args.slot c.args.at (1 ∷ to_be_bytes w32 (length c.args.payload.now)) (d.seen c.args.disk.now) (d.seen c.write_at.new.self) (c.requires.within told) first)

pub returns-clause-adds : goal.returns-clause-adds
returns-clause-adds g c told =
    let d = g.D.Disk in
    let four : c.to_be_bytes.result ≡ to_be_bytes w32 (length c.args.payload.now) = search rules in
    let head = head_is c.to_be_bytes.result (length c.args.payload.now) four in
    let first = subst (λ (l : List ℕ). Adds c.args.slot c.args.at l (d.seen c.args.disk.now) (d.seen c.write_at.new.self)) head (adds_wrote c.args.slot c.args.at _ (d.seen c.args.disk.now) (d.seen c.write_at.new.self) (c.in_ok-write_at.ensures.written told)) in
    let second = adds_wrote c.args.slot (c.args.at + 5) c.args.payload.now (d.seen c.write_at.new.self) (d.seen c.write_at-2.new.self) (c.in_ok-write_at-2.ensures.written told) in
    adds_then c.args.slot c.args.at (c.args.at + 5) (1 ∷ to_be_bytes w32 (length c.args.payload.now)) c.args.payload.now (d.seen c.args.disk.now) (d.seen c.write_at.new.self) (d.seen c.write_at-2.new.self) refl first second
