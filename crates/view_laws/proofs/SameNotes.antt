-- Messages are one where the test says so.
use Rattle.fate_laws.proofs.Extends.{and_true}
use Rattle.fate_laws.proofs.Items.{eqb_itself, eqb_one, parts_itself, parts_one}
use Rattle.flow_model.specs.Rows.{same_parts}
use Rattle.std.proofs.Common.{◌≡◌, ◌==◌, Bool, true, false, ◌&&◌, refl, ap}
use Rattle.view_laws.specs.Messages.{same_truth, Note, BeginNote, SignalNote, EndNote, same_note}

pub truth_itself : (v : Bool) → same_truth v v ≡ true
truth_itself true = refl
truth_itself false = refl

pub truth_one : (v w : Bool) → same_truth v w ≡ true → v ≡ w
truth_one true true h = refl
truth_one true false h = cc
truth_one false true h = cc
truth_one false false h = refl

pub itself : (m : Note) → same_note m m ≡ true
itself (BeginNote p) = parts_itself p
itself (SignalNote p a b v) = rw (parts_itself p, eqb_itself a, eqb_itself b, truth_itself v) refl
itself (EndNote p) = parts_itself p

pub one : (m n : Note) → same_note m n ≡ true → m ≡ n
one (BeginNote p) (BeginNote q) h = ap BeginNote (parts_one p q h)
one (BeginNote p) (SignalNote q a b v) h = cc
one (BeginNote p) (EndNote q) h = cc
one (SignalNote p a b v) (BeginNote q) h = cc
one (SignalNote p a b v) (SignalNote q c d w) h =
    let x = and_true (same_parts p q && (a == c) && (b == d)) _ h in
    let y = and_true (same_parts p q && (a == c)) _ x.0 in
    let z = and_true (same_parts p q) _ y.0 in
    rw (parts_one p q z.0, eqb_one a c z.1, eqb_one b d y.1, truth_one v w x.1) refl
one (SignalNote p a b v) (EndNote q) h = cc
one (EndNote p) (BeginNote q) h = cc
one (EndNote p) (SignalNote q a b v) h = cc
one (EndNote p) (EndNote q) h = ap EndNote (parts_one p q h)
