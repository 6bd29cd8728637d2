use Rattle.std.proofs.Common.{◌≡◌, ℕ, ◌+◌, ◌≤◌, List, ◌∷◌, length, take, drop, subst, sym, ap, ◌∙◌, arith}
use Rattle.txn_log.specs.Records.{reach, IsPayload}
use Rattle.txn_log.proofs.Placed.{reach-push}
use Rattle.checkpoint.specs.Writing.{Adds, record_text, spelled}
use Rattle.checkpoint.proofs.Bodies.{record_long, reach_is, spelled-push}
use Rattle.checkpoint.proofs.Coming.{next_some, next_none, comes, all_came, of_first}
use Rattle.checkpoint.proofs.Writes.{keeps_then, adds_then, adds_within}
use Rattle.checkpoint.proofs.writing.write_records.Goals as goal

pub write_record-requires-clause-payload : goal.write_record-requires-clause-payload
write_record-requires-clause-payload g c =
    let p = g.P.Payloads in
    let left : p.left c.payloads.kept ≡ c.in-Some.payload.items ∷ p.left c.next.new.self = next_some (p.left c.payloads.kept) (p.left c.next.new.self) c.in_ok-payload.field-0 c.in-Some.payload c.in_ok-payload.ensures c.in-Some.is in
    let here = of_first IsPayload (p.left c.args.kept.now) c.payloads.records c.in-Some.payload.items (p.left c.next.new.self) c.requires.kept (sym c.payloads.invariant.left ∙ left) in
    subst IsPayload (sym c.deref.ensures.value) here

pub returns-in_err-write_record-clause-keeps : goal.returns-in_err-write_record-clause-keeps
returns-in_err-write_record-clause-keeps g c =
    let d = g.D.Disk in
    let i = c.payloads.invariant in
    let behind : 42 ≤ c.payloads.end = omega (arith, i.place, reach_is 42 (take c.payloads.records (g.P.Payloads.left c.args.kept.now))) in
    keeps_then d.moment d.left_since d.images c.args.slot 42 c.payloads.end c.args.disk.now c.payloads.disk c.write_record.new.disk behind i.keeps c.write_record.ensures.keeps

pub payloads-preserved : goal.payloads-preserved
payloads-preserved g c =
    let d = g.D.Disk in
    let i = c.payloads.invariant in
    let ps = g.P.Payloads.left c.args.kept.now in
    let n = c.payloads.records in
    let one = c.in-Some.payload.items in
    let front = take c.payloads.records (g.P.Payloads.left c.args.kept.now) in
    let left = next_some (g.P.Payloads.left c.payloads.kept) (g.P.Payloads.left c.next.new.self) c.in_ok-payload.field-0 c.in-Some.payload c.in_ok-payload.ensures c.in-Some.is in
    let is : drop c.payloads.records (g.P.Payloads.left c.args.kept.now) ≡ c.in-Some.payload.items ∷ g.P.Payloads.left c.next.new.self = sym i.left ∙ left in
    let first = comes (g.P.Payloads.left c.args.kept.now) c.payloads.records c.in-Some.payload.items (g.P.Payloads.left c.next.new.self) is in
    let small : length c.in-Some.payload.items ≤ 2097152 = (of_first IsPayload ps n one (g.P.Payloads.left c.next.new.self) c.requires.kept is).1 in
    let text : c.deref.result.now ≡ c.in-Some.payload.items = c.deref.ensures.value in
    let size : c.len.result ≡ length c.in-Some.payload.items = c.len.ensures ∙ c.in-Some.payload.ok.0 in
    let more = first.2 in
    let behind : c.payloads.end ≡ 42 + length (spelled (take c.payloads.records (g.P.Payloads.left c.args.kept.now))) = i.place ∙ reach_is 42 front in
    let adds = λ (told : g.D.Disk.tells). subst (λ (q : List ℕ). Adds c.args.slot c.payloads.end (record_text q) (d.seen c.payloads.disk) (d.seen c.write_record.new.disk)) text (c.in_ok-write_record.ensures.adds told) in
    record {
      left = first.1;
      few = omega (arith, first.0);
      place = omega (arith, i.place, size, ap (reach 42) more, reach-push 42 (take c.payloads.records (g.P.Payloads.left c.args.kept.now)) c.in-Some.payload.items);
      bounded = omega (arith, i.bounded, size, small);
      within = λ told. omega (arith, size, record_long c.in-Some.payload.items, adds_within c.args.slot c.payloads.end (record_text c.in-Some.payload.items) (d.seen c.payloads.disk) (d.seen c.write_record.new.disk) (i.within told) (adds told));
      adds = λ told. subst (λ (l : List ℕ). Adds c.args.slot 42 l (d.seen c.args.disk.now) (d.seen c.write_record.new.disk)) (sym (ap spelled more ∙ spelled-push front one))
          (adds_then c.args.slot 42 c.payloads.end (spelled front) (record_text one) (d.seen c.args.disk.now) (d.seen c.payloads.disk) (d.seen c.write_record.new.disk) behind (i.adds told) (adds told));
      keeps = keeps_then d.moment d.left_since d.images c.args.slot 42 c.payloads.end c.args.disk.now c.payloads.disk c.write_record.new.disk (omega (arith, behind)) i.keeps c.write_record.ensures.keeps;
      faults = c.in_ok-write_record.ensures.cause.ok ∙ i.faults;
    }

pub returns-clause-written : goal.returns-clause-written
returns-clause-written g c =
    let i = c.payloads.invariant in
    let ps = g.P.Payloads.left c.args.kept.now in
    let none = next_none (g.P.Payloads.left c.payloads.kept) (g.P.Payloads.left c.next.new.self) c.in_ok-payload.field-0 c.in_ok-payload.ensures c.in_default.not-Some in
    let all = all_came ps c.payloads.records i.few (sym i.left ∙ none) in
    record { records = all.0; end = i.place ∙ ap (reach 42) all.1; small = i.bounded }

pub returns-clause-adds : goal.returns-clause-adds
returns-clause-adds g c told =
    let d = g.D.Disk in
    let i = c.payloads.invariant in
    let ps = g.P.Payloads.left c.args.kept.now in
    let none = next_none (g.P.Payloads.left c.payloads.kept) (g.P.Payloads.left c.next.new.self) c.in_ok-payload.field-0 c.in_ok-payload.ensures c.in_default.not-Some in
    let all = all_came ps c.payloads.records i.few (sym i.left ∙ none) in
    subst (λ (l : List (List ℕ)). Adds c.args.slot 42 (spelled l) (d.seen c.args.disk.now) (d.seen c.payloads.disk)) all.1 (i.adds told)
