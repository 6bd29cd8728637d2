-- How a stream grows behind what a sink held.
use Rattle.std.proofs.Common.{◌≡◌, ◌∙◌, ◌++◌, ◌∷◌, ◌+◌, Result, Ok, Err, IfErr, OnOk, [], ℕ, List, Option, take, drop, refl, ap, sym, subst, append_assoc, append-nil, take-append-drop}
use Rattle.std.proofs.KnownBytes.{Appends-nil, Appends-trans}
use Rattle.std.specs.Io.KnownBytes.{Appends}
use Rattle.std.specs.List.{flat_map}
use Rattle.txn_log.specs.declared.opening.Opened.{Opened}
use Rattle.standby.specs.declared.stops.ShipStop.{ShipStop}
use Rattle.standby.specs.declared.stops.ShipStop.TheVariants.{Store, Gone, Ahead, WriteFault, NoMemory}
use Rattle.standby.specs.Endings.{PutEnd, ShipEnd}
use Rattle.standby.specs.Shipped.{HasFrom, Ships, shipped}
use Rattle.standby.specs.Streams.{frame_bytes, end_bytes, frames_bytes, PutsPart, IsUnderWay}

-- nothing is put
pub unput : (old : Option (List ℕ)) (text : List ℕ) → PutsPart old old text
unput old text = record { put = []; rest = text; cut = refl; appended = Appends-nil old }

-- the first bytes of a text are put
pub first_put : (old new : Option (List ℕ)) (text : List ℕ) (n : ℕ) → Appends old new (take n text) → PutsPart old new text
first_put old new text n appended = record { put = take n text; rest = drop n text; cut = take-append-drop n text; appended = appended }

-- a part of a text, under its other name
pub part_as : (old new : Option (List ℕ)) (text text' : List ℕ) → text ≡ text' → PutsPart old new text → PutsPart old new text'
part_as old new text text' e part = subst (PutsPart old new) e part

-- a piece that isn't put yet
pub begun : (old : Option (List ℕ)) (piece left text : List ℕ) → piece ++ left ≡ text → IsUnderWay old old piece left text
begun old piece left text whole = record { put = []; whole = whole; appended = Appends-nil old }

-- a piece that is put whole
pub all_put : (old new : Option (List ℕ)) (piece left text : List ℕ) → Appends old new piece → piece ++ left ≡ text → IsUnderWay old new [] left text
all_put old new piece left text appended whole = record { put = piece; whole = ap (λ (xs : List ℕ). xs ++ left) (append-nil piece) ∙ whole; appended = appended }

-- what is put behind a stream under way, and a piece with what is left behind that
behind : (first second piece frame left : List ℕ) → second ≡ piece ++ frame ++ left → first ++ second ≡ first ++ piece ++ (frame ++ left)
behind first second piece frame left e = ap (λ (xs : List ℕ). first ++ xs) (e ∙ append_assoc piece frame left) ∙ sym (append_assoc first piece (frame ++ left))

-- a frame more
pub further : (old mid new : Option (List ℕ)) (piece piece' frame left text : List ℕ) → IsUnderWay old mid piece (frame ++ left) text → IsUnderWay mid new piece' left (piece ++ frame ++ left) → IsUnderWay old new piece' left text
further old mid new piece piece' frame left text a b = record {
  put = a.put ++ b.put;
  whole = ap (λ (xs : List ℕ). xs ++ left) (append_assoc a.put b.put piece') ∙ append_assoc a.put (b.put ++ piece') left
      ∙ behind a.put (b.put ++ piece' ++ left) piece frame left b.whole ∙ a.whole;
  appended = Appends-trans old mid new a.put b.put a.appended b.appended;
}

-- a frame more of which only a part is put
pub broken : (old mid new : Option (List ℕ)) (piece frame left text : List ℕ) → IsUnderWay old mid piece (frame ++ left) text → PutsPart mid new (piece ++ frame) → PutsPart old new text
broken old mid new piece frame left text a b = record {
  put = a.put ++ b.put;
  rest = b.rest ++ left;
  cut = append_assoc a.put b.put (b.rest ++ left)
      ∙ behind a.put (b.put ++ (b.rest ++ left)) piece frame left (sym (append_assoc b.put b.rest left) ∙ ap (λ (xs : List ℕ). xs ++ left) b.cut) ∙ a.whole;
  appended = Appends-trans old mid new a.put b.put a.appended b.appended;
}

-- all that was left
pub ended : (old mid new : Option (List ℕ)) (piece left text : List ℕ) → IsUnderWay old mid piece left text → Appends mid new (piece ++ left) → Appends old new text
ended old mid new piece left text a b =
    subst (Appends old new) (sym (append_assoc a.put piece left) ∙ a.whole) (Appends-trans old mid new a.put (piece ++ left) a.appended b)

-- a part of all that was left
pub cut_off : (old mid new : Option (List ℕ)) (piece left text : List ℕ) → IsUnderWay old mid piece left text → PutsPart mid new (piece ++ left) → PutsPart old new text
cut_off old mid new piece left text a b = record {
  put = a.put ++ b.put;
  rest = b.rest;
  cut = append_assoc a.put b.put b.rest ∙ ap (λ (xs : List ℕ). a.put ++ xs) b.cut ∙ sym (append_assoc a.put piece left) ∙ a.whole;
  appended = Appends-trans old mid new a.put b.put a.appended b.appended;
}

-- the frames of the payloads that are left: the first, and those behind it
pub next_frame : (payload : List ℕ) (before behind : List (List ℕ)) → before ≡ payload ∷ behind
    → frames_bytes before ≡ frame_bytes payload ++ frames_bytes behind
next_frame payload before behind is =
    ap frames_bytes is ∙ append_assoc (frame_bytes payload) (flat_map frame_bytes behind) end_bytes

-- all that was left, where it went well
pub ended_so : {T E : Type 0} (r : Result T E) (old mid new : Option (List ℕ)) (piece left text : List ℕ) → IsUnderWay old mid piece left text → OnOk r (Appends mid new (piece ++ left)) → OnOk r (Appends old new text)
ended_so (Ok x) old mid new piece left text a b = ended old mid new piece left text a b
ended_so (Err e) old mid new piece left text a b = b

-- a part of all that was left, where it didn't
pub cut_off_so : {T E : Type 0} (r : Result T E) (old mid new : Option (List ℕ)) (piece left text : List ℕ) → IsUnderWay old mid piece left text → IfErr r (λ _. PutsPart mid new (piece ++ left)) → IfErr r (λ _. PutsPart old new text)
cut_off_so (Ok x) old mid new piece left text a b = b
cut_off_so (Err e) old mid new piece left text a b = cut_off old mid new piece left text a b

-- what stops putting a stream stops shipping
pub put_end_is : (from before now : ℕ) (stop : ShipStop) → PutEnd before now stop → ShipEnd from before now stop
put_end_is from before now (Store stop) end = absurd end
put_end_is from before now (Gone kept) end = absurd end
put_end_is from before now (Ahead number) end = absurd end
put_end_is from before now WriteFault end = end
put_end_is from before now NoMemory end = end

-- a stream that breaks off
pub breaks_off : (opened : Opened) (number from before now : ℕ) (old new : Option (List ℕ)) (stop : ShipStop) → HasFrom opened number from → PutEnd before now stop → PutsPart old new (shipped opened number from) → Ships opened number from old new (Err stop)
breaks_off opened number from before now old new (Store stop) has end part = absurd end
breaks_off opened number from before now old new (Gone kept) has end part = absurd end
breaks_off opened number from before now old new (Ahead number') has end part = absurd end
breaks_off opened number from before now old new WriteFault has end part = (has, part)
breaks_off opened number from before now old new NoMemory has end part = (has, part)
