use Rattle.std.proofs.Common.{◌≡◌, ◌∙◌, ap, sym, subst, ℕ, List}
use Rattle.flow_disk.specs.Images.{bytes_in}
use Rattle.txn_log.specs.Stored.{IsGoodState, slot_state}
use Rattle.txn_log.proofs.Outlines.{never_outside, body_told}
use Rattle.txn_log.proofs.opening.body_in.Goals as goal

pub returns-then-is_same-clause-outside : goal.returns-then-is_same-clause-outside
returns-then-is_same-clause-outside g c =
    let d = g.D.Disk in
    let same : c.args.slot ≡ c.args.read = c.is_same.ensures c.if-is_same.true in
    never_outside c.body_of.result d.tells (IsGoodState (slot_state c.args.bytes.items)) c.body_of.ensures.good
    (λ told. subst (λ (l : List ℕ). IsGoodState (slot_state l))
    (ap (bytes_in (d.seen c.args.disk.now)) same ∙ sym (c.requires.bytes told)) (c.requires.good told))

pub returns-then-is_same-clause-body : goal.returns-then-is_same-clause-body
returns-then-is_same-clause-body g c =
    let d = g.D.Disk in
    let same : c.args.slot ≡ c.args.read = c.is_same.ensures c.if-is_same.true in
    body_told c.body_of.result d.tells (slot_state c.args.bytes.items) (slot_state (bytes_in (d.seen c.args.disk.now) c.args.slot))
    (λ told. ap slot_state (ap (bytes_in (d.seen c.args.disk.now)) same ∙ sym (c.requires.bytes told))) c.body_of.ensures.body

pub returns-clause-outside : goal.returns-clause-outside
returns-clause-outside g c =
    let d = g.D.Disk in
    never_outside c.body_of-2.result d.tells (IsGoodState (slot_state c.in_ok-again.again.items)) c.body_of-2.ensures.good
    (λ told. subst (λ (l : List ℕ). IsGoodState (slot_state l)) (sym (c.in_ok-again.ensures.bytes told)) (c.requires.good told))
