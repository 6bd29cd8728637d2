-- At the exit of a `?` the error is the callee's.
use Rattle.std.proofs.Common.{◌≡◌, ◌∙◌, ap, sym, ℕ, List}
use Rattle.std.proofs.lemmas.Result.{err_from_is_err_and}
use Rattle.flow_disk.specs.declared.disk.Slot.{Slot}
use Rattle.flow_disk.specs.Images.{Image, bytes_in}
use Rattle.txn_log.specs.declared.chosen.Chosen.{Chosen}
use Rattle.txn_log.specs.Opening.{slot_in}
use Rattle.txn_log.specs.Outlines.{outline_of}
use Rattle.txn_log.specs.Stored.{slot_state}
use Rattle.txn_log.specs.Stores.{store_of}
use Rattle.txn_log.proofs.Openings.{outside_refused}
use Rattle.txn_log.proofs.Outlines.{counts_body, counts_is_good, inside_cause, verdict_refused}
use Rattle.txn_log.proofs.opening.chosen.Goals as goal

pub returns-in_err-slot-clause-cause : goal.returns-in_err-slot-clause-cause
returns-in_err-slot-clause-cause g c =
    let d = g.D.Disk in
    let same : d.faults c.read_slot.new.disk ≡ d.faults c.args.disk.now = c.in_ok-bytes.ensures.cause ∙ (c.in_ok-beside.ensures.cause ∙ c.in_ok-last.ensures.cause.ok) in
    let p = err_from_is_err_and c.from_residual-in_err-slot.result c.from_residual-in_err-slot.ensures.1 in
    rw (p.1, p.2) (inside_cause Chosen (d.faults c.args.disk.now) (d.faults c.read_slot.new.disk) _ c.in_err-slot.ensures.inside same)

pub returns-in_err-slot-clause-refused : goal.returns-in_err-slot-clause-refused
returns-in_err-slot-clause-refused g c =
    let d = g.D.Disk in
    let old = d.seen c.args.disk.now in
    let here = λ (told : g.D.Disk.tells). c.outline.ensures ∙ ap (λ (l : List ℕ). outline_of (slot_state l)) (c.deref.ensures.value ∙ (c.in_ok-bytes.ensures.bytes told ∙ ap (λ (i : Image). bytes_in i c.in_ok-last.last) (c.outline_slot.ensures.seen ∙ c.likely.ensures.seen))) in
    let beside = λ (told : g.D.Disk.tells). c.in_ok-beside.ensures.outline told ∙ (ap (λ (i : Image). outline_of (slot_state (bytes_in i c.other_slot.result))) c.likely.ensures.seen ∙ ap (λ (s : Slot). outline_of (slot_state (bytes_in (d.seen c.args.disk.now) s))) c.other_slot.ensures) in
    let p = err_from_is_err_and c.from_residual-in_err-slot.result c.from_residual-in_err-slot.ensures.1 in
    rw (p.1, p.2) (λ told. verdict_refused _ _ (c.in_err-slot.ensures.choice (d.seen c.args.disk.now) (here told) (beside told)))

pub body_in-requires-clause-good : goal.body_in-requires-clause-good
body_in-requires-clause-good g c told =
    let d = g.D.Disk in
    let here = c.outline.ensures ∙ ap (λ (l : List ℕ). outline_of (slot_state l)) (c.deref.ensures.value ∙ (c.in_ok-bytes.ensures.bytes told ∙ ap (λ (i : Image). bytes_in i c.in_ok-last.last) (c.outline_slot.ensures.seen ∙ c.likely.ensures.seen))) in
    let beside = c.in_ok-beside.ensures.outline told ∙ (ap (λ (i : Image). outline_of (slot_state (bytes_in i c.other_slot.result))) c.likely.ensures.seen ∙ ap (λ (s : Slot). outline_of (slot_state (bytes_in (d.seen c.args.disk.now) s))) c.other_slot.ensures) in
    counts_is_good c.in_ok-slot.slot (d.seen c.read_slot.new.disk)
    (ap (λ (i : Image). slot_in (store_of i)) (c.read_slot.ensures.seen ∙ (c.outline_slot.ensures.seen ∙ c.likely.ensures.seen)) ∙ c.in_ok-slot.ensures.choice (d.seen c.args.disk.now) here beside)

pub returns-clause-chosen : goal.returns-clause-chosen
returns-clause-chosen g c told =
    let d = g.D.Disk in
    let here = c.outline.ensures ∙ ap (λ (l : List ℕ). outline_of (slot_state l)) (c.deref.ensures.value ∙ (c.in_ok-bytes.ensures.bytes told ∙ ap (λ (i : Image). bytes_in i c.in_ok-last.last) (c.outline_slot.ensures.seen ∙ c.likely.ensures.seen))) in
    let beside = c.in_ok-beside.ensures.outline told ∙ (ap (λ (i : Image). outline_of (slot_state (bytes_in i c.other_slot.result))) c.likely.ensures.seen ∙ ap (λ (s : Slot). outline_of (slot_state (bytes_in (d.seen c.args.disk.now) s))) c.other_slot.ensures) in
    counts_body c.in_ok-slot.slot (d.seen c.args.disk.now) c.in_ok-body.body.header c.in_ok-body.body.records c.in_ok-body.body.end (c.in_ok-slot.ensures.choice (d.seen c.args.disk.now) here beside)
    (ap (λ (i : Image). slot_state (bytes_in i c.in_ok-slot.slot)) (sym (c.read_slot.ensures.seen ∙ (c.outline_slot.ensures.seen ∙ c.likely.ensures.seen))) ∙ c.in_ok-body.ensures.body told)

pub returns-in_err-body-clause-refused : goal.returns-in_err-body-clause-refused
returns-in_err-body-clause-refused g c = let p = err_from_is_err_and c.from_residual-in_err-body.result c.from_residual-in_err-body.ensures.1 in rw (p.1, p.2) (λ told. outside_refused _ _ (c.in_err-body.ensures.outside told))
