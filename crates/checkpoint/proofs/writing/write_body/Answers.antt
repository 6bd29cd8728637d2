use Rattle.std.proofs.Common.{◌≡◌, ◌⊎◌, inl, inr, ℕ, ◌≤◌, [], ◌∷◌, refl, subst, sym, ap, ◌∙◌, arith}
use Rattle.flow_disk.specs.Images.{Image, bytes_in, opposite, put_in, spliced}
use Rattle.flow_disk.proofs.Runs.{weaker}
use Rattle.txn_log.specs.Records.{reach}
use Rattle.txn_log.specs.Steps.{HasBody, Stands}
use Rattle.txn_log.specs.Stored.{Unmade}
use Rattle.checkpoint.specs.Writing.{ShutBeside}
use Rattle.checkpoint.proofs.Bodies.{body_of, body_beside, reach_is, header_within}
use Rattle.checkpoint.proofs.Writes.{keeps_wrote, keeps_stayed, keeps_then, beside_unmade}
use Rattle.checkpoint.proofs.writing.write_body.Goals as goal

from_most : (from : ℕ) → (from ≡ 1) ⊎ (from ≡ 8) → from ≤ 42
from_most from (inl one) = omega arith
from_most from (inr eight) = omega arith

pub returns-in_err-write_header-clause-any_moment : goal.returns-in_err-write_header-clause-any_moment
returns-in_err-write_header-clause-any_moment g c told only =
    let d = g.D.Disk in
    let old = c.args.disk.now in
    let there = bytes_in (d.seen c.args.disk.now) (opposite c.args.slot) in
    let start = λ (i : Image) (left : d.images c.args.disk.now i). subst (ShutBeside c.args.slot c.args.from (bytes_in (d.seen c.args.disk.now) (opposite c.args.slot))) (sym (only i left)) (record { shut = c.requires.shut told; other = refl }) in
    let k1 = c.write_header.ensures.keeps in
    weaker d.moment d.left_since d.images old c.write_header.new.disk (ShutBeside c.args.slot c.args.from there) (Stands c.args.slot Unmade there) (k1 c.args.from there (omega arith) start).leaves (beside_unmade c.args.slot c.args.from there)

pub returns-in_err-written-clause-any_moment : goal.returns-in_err-written-clause-any_moment
returns-in_err-written-clause-any_moment g c told only =
    let d = g.D.Disk in
    let old = c.args.disk.now in
    let there = bytes_in (d.seen c.args.disk.now) (opposite c.args.slot) in
    let start = λ (i : Image) (left : d.images c.args.disk.now i). subst (ShutBeside c.args.slot c.args.from (bytes_in (d.seen c.args.disk.now) (opposite c.args.slot))) (sym (only i left)) (record { shut = c.requires.shut told; other = refl }) in
    let k1 = c.write_header.ensures.keeps in
    let k2 = keeps_then d.moment d.left_since d.images c.args.slot c.args.from 42 old c.write_header.new.disk c.write_or_settle.new.disk (from_most c.args.from c.requires.from) k1 c.write_or_settle.ensures.keeps in
    weaker d.moment d.left_since d.images old c.write_or_settle.new.disk (ShutBeside c.args.slot c.args.from there) (Stands c.args.slot Unmade there) (k2 c.args.from there (omega arith) start).leaves (beside_unmade c.args.slot c.args.from there)

pub returns-in_err-write_at-clause-any_moment : goal.returns-in_err-write_at-clause-any_moment
returns-in_err-write_at-clause-any_moment g c told only =
    let d = g.D.Disk in
    let old = c.args.disk.now in
    let there = bytes_in (d.seen c.args.disk.now) (opposite c.args.slot) in
    let start = λ (i : Image) (left : d.images c.args.disk.now i). subst (ShutBeside c.args.slot c.args.from (bytes_in (d.seen c.args.disk.now) (opposite c.args.slot))) (sym (only i left)) (record { shut = c.requires.shut told; other = refl }) in
    let k1 = c.write_header.ensures.keeps in
    let k2 = keeps_then d.moment d.left_since d.images c.args.slot c.args.from 42 old c.write_header.new.disk c.write_or_settle.new.disk (from_most c.args.from c.requires.from) k1 c.write_or_settle.ensures.keeps in
    let behind : 42 ≤ c.in_ok-written.written.end = omega (arith, c.in_ok-written.ensures.written.end, reach_is 42 (g.P.Payloads.left c.args.kept.now)) in
    let k3 = keeps_then d.moment d.left_since d.images c.args.slot c.args.from c.in_ok-written.written.end old c.write_or_settle.new.disk c.write_at.new.self (omega (arith, behind, from_most c.args.from c.requires.from)) k2
    (keeps_wrote d.moment d.left_since d.images c.args.slot c.in_ok-written.written.end _ c.write_or_settle.new.disk c.write_at.new.self (g.met.D.Disk.only_now c.write_or_settle.new.disk) c.write_at.ensures.crash c.write_at.ensures.time) in
    weaker d.moment d.left_since d.images old c.write_at.new.self (ShutBeside c.args.slot c.args.from there) (Stands c.args.slot Unmade there) (k3 c.args.from there (omega arith) start).leaves (beside_unmade c.args.slot c.args.from there)

pub returns-in_err-sync-clause-any_moment : goal.returns-in_err-sync-clause-any_moment
returns-in_err-sync-clause-any_moment g c told only =
    let d = g.D.Disk in
    let old = c.args.disk.now in
    let there = bytes_in (d.seen c.args.disk.now) (opposite c.args.slot) in
    let start = λ (i : Image) (left : d.images c.args.disk.now i). subst (ShutBeside c.args.slot c.args.from (bytes_in (d.seen c.args.disk.now) (opposite c.args.slot))) (sym (only i left)) (record { shut = c.requires.shut told; other = refl }) in
    let k1 = c.write_header.ensures.keeps in
    let k2 = keeps_then d.moment d.left_since d.images c.args.slot c.args.from 42 old c.write_header.new.disk c.write_or_settle.new.disk (from_most c.args.from c.requires.from) k1 c.write_or_settle.ensures.keeps in
    let behind : 42 ≤ c.in_ok-written.written.end = omega (arith, c.in_ok-written.ensures.written.end, reach_is 42 (g.P.Payloads.left c.args.kept.now)) in
    let k3 = keeps_then d.moment d.left_since d.images c.args.slot c.args.from c.in_ok-written.written.end old c.write_or_settle.new.disk c.write_at.new.self (omega (arith, behind, from_most c.args.from c.requires.from)) k2
    (keeps_wrote d.moment d.left_since d.images c.args.slot c.in_ok-written.written.end _ c.write_or_settle.new.disk c.write_at.new.self (g.met.D.Disk.only_now c.write_or_settle.new.disk) c.write_at.ensures.crash c.write_at.ensures.time) in
    let k4 = keeps_then d.moment d.left_since d.images c.args.slot c.args.from c.args.from old c.write_at.new.self c.sync.new.self (omega arith) k3
    (keeps_stayed d.moment d.left_since d.images c.args.slot c.args.from c.write_at.new.self c.sync.new.self (g.met.D.Disk.only_now c.write_at.new.self) c.sync.ensures.crash c.sync.ensures.time) in
    weaker d.moment d.left_since d.images old c.sync.new.self (ShutBeside c.args.slot c.args.from there) (Stands c.args.slot Unmade there) (k4 c.args.from there (omega arith) start).leaves (beside_unmade c.args.slot c.args.from there)

pub returns-clause-any_moment : goal.returns-clause-any_moment
returns-clause-any_moment g c told only =
    let d = g.D.Disk in
    let old = c.args.disk.now in
    let there = bytes_in (d.seen c.args.disk.now) (opposite c.args.slot) in
    let start = λ (i : Image) (left : d.images c.args.disk.now i). subst (ShutBeside c.args.slot c.args.from (bytes_in (d.seen c.args.disk.now) (opposite c.args.slot))) (sym (only i left)) (record { shut = c.requires.shut told; other = refl }) in
    let k1 = c.write_header.ensures.keeps in
    let k2 = keeps_then d.moment d.left_since d.images c.args.slot c.args.from 42 old c.write_header.new.disk c.write_or_settle.new.disk (from_most c.args.from c.requires.from) k1 c.write_or_settle.ensures.keeps in
    let behind : 42 ≤ c.in_ok-written.written.end = omega (arith, c.in_ok-written.ensures.written.end, reach_is 42 (g.P.Payloads.left c.args.kept.now)) in
    let k3 = keeps_then d.moment d.left_since d.images c.args.slot c.args.from c.in_ok-written.written.end old c.write_or_settle.new.disk c.write_at.new.self (omega (arith, behind, from_most c.args.from c.requires.from)) k2
    (keeps_wrote d.moment d.left_since d.images c.args.slot c.in_ok-written.written.end _ c.write_or_settle.new.disk c.write_at.new.self (g.met.D.Disk.only_now c.write_or_settle.new.disk) c.write_at.ensures.crash c.write_at.ensures.time) in
    let k4 = keeps_then d.moment d.left_since d.images c.args.slot c.args.from c.args.from old c.write_at.new.self c.sync.new.self (omega arith) k3
    (keeps_stayed d.moment d.left_since d.images c.args.slot c.args.from c.write_at.new.self c.sync.new.self (g.met.D.Disk.only_now c.write_at.new.self) c.sync.ensures.crash c.sync.ensures.time) in
    weaker d.moment d.left_since d.images old c.sync.new.self (ShutBeside c.args.slot c.args.from there) (Stands c.args.slot Unmade there) (k4 c.args.from there (omega arith) start).leaves (beside_unmade c.args.slot c.args.from there)

pub write_or_settle-requires-clause-within : goal.write_or_settle-requires-clause-within
write_or_settle-requires-clause-within g c told =
    header_within c.args.slot c.args.from c.args.header.now (g.D.Disk.seen c.args.disk.now) (g.D.Disk.seen c.write_header.new.disk) (c.requires.shut told) (c.in_ok-write_header.ensures.adds told)

pub returns-clause-body : goal.returns-clause-body
returns-clause-body g c told =
    let d = g.D.Disk in
    let third = c.in_ok-write_at.ensures.written told ∙ ap (λ (e : ℕ). put_in (d.seen c.write_or_settle.new.disk) c.args.slot (spliced (bytes_in (d.seen c.write_or_settle.new.disk) c.args.slot) e (0 ∷ []))) (c.in_ok-written.ensures.written.end) in
    let listing = c.in_ok-written.ensures.adds told in
    subst (HasBody c.args.slot c.args.header.now (g.P.Payloads.left c.args.kept.now) (reach 42 (g.P.Payloads.left c.args.kept.now))) (sym c.in_ok-sync.ensures.seen)
    (body_of c.args.slot c.args.from c.args.header.now (g.P.Payloads.left c.args.kept.now) c.requires.kept (d.seen c.args.disk.now) (d.seen c.write_header.new.disk) (d.seen c.write_or_settle.new.disk) (d.seen c.write_at.new.self) (c.requires.shut told) (c.in_ok-write_header.ensures.adds told) listing third)

pub returns-clause-other : goal.returns-clause-other
returns-clause-other g c told =
    let d = g.D.Disk in
    let third = c.in_ok-write_at.ensures.written told ∙ ap (λ (e : ℕ). put_in (d.seen c.write_or_settle.new.disk) c.args.slot (spliced (bytes_in (d.seen c.write_or_settle.new.disk) c.args.slot) e (0 ∷ []))) (c.in_ok-written.ensures.written.end) in
    let listing = c.in_ok-written.ensures.adds told in
    ap (λ (i : Image). bytes_in i (opposite c.args.slot)) c.in_ok-sync.ensures.seen
    ∙ body_beside c.args.slot c.args.from c.args.header.now (g.P.Payloads.left c.args.kept.now) c.requires.kept (d.seen c.args.disk.now) (d.seen c.write_header.new.disk) (d.seen c.write_or_settle.new.disk) (d.seen c.write_at.new.self) (c.requires.shut told) (c.in_ok-write_header.ensures.adds told) listing third
