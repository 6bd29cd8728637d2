use Rattle.std.proofs.Common.{◌≡◌, ◌+◌, ◌∙◌, ap, arith, refl, sym}
use Rattle.txn_log.specs.Walks.{RecordWalk}
use Rattle.txn_log.proofs.Records.{behind_is}
use Rattle.txn_log.proofs.Walks.{next_read}
use Rattle.txn_log.proofs.slot_records.RecordsLeft.next.Goals as goal

pub invariant_of-self : goal.invariant_of-self
invariant_of-self c =
    let s = c.self.inside in
    let read = next_read s.place c.whole_len-len.result s.bytes.now _ _ c.self.invariant c.if-gate-self.false
    c.if-self-gate-ne1.false (behind_is (s.place + 1) s.bytes.now) c.whole_len-len.ensures.some c.whole_len-len.ensures.none refl in
    read.0.listed_from

pub returns : goal.returns
returns c =
    let s = c.self.inside in
    let read = next_read s.place c.whole_len-len.result s.bytes.now _ _ c.self.invariant c.if-gate-self.false
    c.if-self-gate-ne1.false (behind_is (s.place + 1) s.bytes.now) c.whole_len-len.ensures.some c.whole_len-len.ensures.none refl in
    let place : s.place ≡ c.args.self.now.place = ap (λ (w : RecordWalk). w.place) c.self.view_is in (
      place,
      sym (ap (λ (w : RecordWalk). w.left) c.self.view_is) ∙ read.0.first,
      omega (arith, place, read.1),
    )
