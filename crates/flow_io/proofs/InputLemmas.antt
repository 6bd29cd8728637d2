-- The inputs of a script, one after another.
use Rattle.std.proofs.Common.{◌≡◌, ℕ, ◌+◌, ◌<◌, ◌≤◌, suc, Bool, true, false, leb, List, [], ◌∷◌, ◌++◌, length, take, Option, Some, None, Result, Ok, Err, arith, sym, ap, ◌∙◌, refl, append_assoc, append-nil, length-append, ⊎_elim}
use Rattle.std.proofs.lemmas.Bool.{ne_eqb, le-leb, lt-leb}
use Rattle.std.proofs.lemmas.List.{take_all, get_or_append_left}
use Rattle.std.proofs.Math.Seq.{take-append-add}
use Rattle.std.proofs.lemmas.Bool.Decides.{nat_tests}
use Rattle.flow_io.proofs.Progress.{no_feed_in_front}
use Rattle.std.specs.Io.KnownBytes.{Consumes, IsAtEnd}
use Rattle.flow_io.specs.Inputs.{NoFeedBelow, Input, Served, PassedOver, AtEnd, inputs, inputs_from, input_of}
use Rattle.flow_io.specs.Reading.{Reading}
use Rattle.flow_io.specs.Told.{Hands, Tells, Shrinks}
use Rattle.flow_io.specs.Serving.{ServesInputs}
use Rattle.flow_io.specs.declared.lines.Line.{Line}
use Rattle.flow_io.specs.declared.lines.Line.TheVariants.{Text, TooLong, Ended}
use Rattle.flow_io.specs.declared.lines.IoStop.{IoStop}
use Rattle.flow_io.specs.declared.lines.IoStop.TheVariants.{ReadFault, ScriptTooLong, NoMemory}

-- bytes up to a feed
pub inputs_from-feed : (whole : Bool) (line pre rest : List ℕ) → NoFeedBelow (length pre) pre → inputs_from whole line (pre ++ 10 ∷ rest) ≡ input_of (line ++ pre) ∷ inputs_from whole [] rest
inputs_from-feed whole line [] rest none = ap (λ (l : List ℕ). input_of l ∷ inputs_from whole [] rest) (sym (append-nil line))
inputs_from-feed whole line (b ∷ bs) rest none =
    rw (ne_eqb b 10 (none 0 (omega arith)))
    (inputs_from-feed whole (line ++ b ∷ []) bs rest (λ k h. none (suc k) (omega arith)) ∙ ap (λ (l : List ℕ). input_of l ∷ inputs_from whole [] rest) (append_assoc line (b ∷ []) bs))

-- bytes without a feed
pub inputs_from-none : (whole : Bool) (line pre : List ℕ) → NoFeedBelow (length pre) pre → inputs_from whole line pre ≡ inputs_from whole (line ++ pre) []
inputs_from-none whole line [] none = ap (λ (l : List ℕ). inputs_from whole l []) (sym (append-nil line))
inputs_from-none whole line (b ∷ bs) none =
    rw (ne_eqb b 10 (none 0 (omega arith)))
    (inputs_from-none whole (line ++ b ∷ []) bs (λ k h. none (suc k) (omega arith)) ∙ ap (λ (l : List ℕ). inputs_from whole l []) (append_assoc line (b ∷ []) bs))

-- the tests of the limit on both sides of a line agree
same_test : (a b c d : ℕ) → a + d ≡ b + c → leb a b ≡ leb c d
same_test a b c d e = grind (arith, nat_tests)

-- a line with its feed
pub inputs-feed : (line rest : List ℕ) (room room' : ℕ) → NoFeedBelow (length line) line → room ≡ length line + 1 + room' → inputs (line ++ 10 ∷ rest) room ≡ input_of line ∷ inputs rest room'
inputs-feed line rest room room' none e =
    let cut : take room (line ++ 10 ∷ rest) ≡ line ++ 10 ∷ take room' rest =
    ap (λ (n : ℕ). take n (line ++ 10 ∷ rest)) (e ∙ omega arith) ∙ take-append-add line (10 ∷ rest) (suc room') in
    let test : leb (length (line ++ 10 ∷ rest)) room ≡ leb (length rest) room' =
    same_test (length (line ++ 10 ∷ rest)) room (length rest) room' (simp length-append (omega arith)) in
    rw (cut, test) (inputs_from-feed (leb (length rest) room') [] line (take room' rest) none)

-- a last line
pub inputs-last : (line : List ℕ) (room room' : ℕ) → NoFeedBelow (length line) line → 0 < length line → room ≡ length line + room' → inputs line room ≡ input_of line ∷ AtEnd ∷ []
inputs-last [] room room' none some e = absurd (omega arith)
inputs-last (b ∷ bs) room room' none some e =
    let whole : leb (length (b ∷ bs)) room ≡ true = le-leb _ _ (omega arith) in
    let all : take room (b ∷ bs) ≡ b ∷ bs = take_all room (b ∷ bs) (omega arith) in
    rw (whole, all) (inputs_from-none true [] (b ∷ bs) none)

-- more bytes than count, and no end among those that count
pub inputs-beyond : (bytes : List ℕ) (room : ℕ) → room < length bytes → NoFeedBelow room bytes → inputs bytes room ≡ []
inputs-beyond bytes room more none =
    let part : leb (length bytes) room ≡ false = lt-leb _ _ more in
    rw part (inputs_from-none false [] (take room bytes) (no_feed_in_front bytes room (omega arith) none))

-- what a line is told as
short_input : (line : List ℕ) → length line ≤ 65536 → input_of line ≡ Served line
short_input line h = rw (le-leb _ _ h) refl

long_input : (line : List ℕ) → 65536 < length line → input_of line ≡ PassedOver
long_input line h = rw (lt-leb _ _ h) refl

inputs-nil : (room : ℕ) → inputs [] room ≡ AtEnd ∷ []
inputs-nil room =
    let none : take room [] ≡ [] = take_all {A = ℕ} room [] (omega arith) in
    rw (le-leb 0 room (omega arith), none) refl

-- the bytes held, given and left are one list
joined : (held given left left' : List ℕ) → left ≡ given ++ left' → held ++ left ≡ (held ++ given) ++ left'
joined held given left left' e = ap (λ (l : List ℕ). held ++ l) e ∙ sym (append_assoc held given left')

inputs_cut : (held given rest line : List ℕ) (room room' : ℕ) (left left' : List ℕ) → left ≡ given ++ left' → NoFeedBelow (length line) line → (held ++ given ≡ line ++ 10 ∷ rest) × (room ≡ length line + 1 + room') → inputs (held ++ left) room ≡ input_of line ∷ inputs (rest ++ left') room'
inputs_cut held given rest line room room' left left' e none c =
    ap (λ (l : List ℕ). inputs l room) (joined held given left left' e ∙ (ap (λ (l : List ℕ). l ++ left') c.0 ∙ append_assoc line (10 ∷ rest) left')) ∙ inputs-feed line (rest ++ left') room room' none c.1

inputs_end : (held given rest line : List ℕ) (room room' : ℕ) (left left' : List ℕ) → left ≡ given ++ left' → NoFeedBelow (length line) line → (held ++ given ≡ line) × (rest ≡ []) × (0 < length line) × (room ≡ length line + room') × (left' ≡ []) → inputs (held ++ left) room ≡ input_of line ∷ inputs (rest ++ left') room'
inputs_end held given rest line room room' left left' e none c =
    ap (λ (l : List ℕ). inputs l room) (joined held given left left' e ∙ (ap (λ (l : List ℕ). (held ++ given) ++ l) c.4 ∙ (append-nil (held ++ given) ∙ c.0)))
    ∙ (inputs-last line room room' none c.2 c.3 ∙ ap (λ (l : List Input). input_of line ∷ l) (sym (rw (c.1, c.4) (inputs-nil room'))))

-- a line that is handed out is the first input
hands_input : (held given rest line : List ℕ) (room room' : ℕ) (left left' : List ℕ) → left ≡ given ++ left' → Hands (held ++ given) room (Some left') line rest room' → inputs (held ++ left) room ≡ input_of line ∷ inputs (rest ++ left') room'
hands_input held given rest line room room' left left' e h =
    ⊎_elim (inputs_cut held given rest line room room' left left' e h.no_feed) (inputs_end held given rest line room room' left left' e h.no_feed) h.cut

-- what a call tells are the inputs
pub told_inputs : (old new : Reading) (before after : Option (List ℕ)) (result : Result Line IoStop) (given : List ℕ) → Consumes before after given → Tells (old.held ++ given) old.room after result new → ServesInputs old before new after result
told_inputs old new None after result given taken told = tt
told_inputs old new (Some left) None result given taken told = absurd taken
told_inputs old new (Some left) (Some left') (Ok Text) given taken told =
    hands_input old.held given new.held new.text old.room new.room left left' taken told.0 ∙ ap (λ (i : Input). i ∷ inputs (new.held ++ left') new.room) (short_input new.text told.1)
told_inputs old new (Some left) (Some left') (Ok TooLong) given taken told =
    hands_input old.held given new.held told.0 old.room new.room left left' taken told.1 ∙ ap (λ (i : Input). i ∷ inputs (new.held ++ left') new.room) (long_input told.0 told.2)
told_inputs old new (Some left) (Some left') (Ok Ended) given taken told =
    ap (λ (l : List ℕ). inputs l old.room) (joined old.held given left left' taken ∙ (ap (λ (l : List ℕ). l ++ left') told.0 ∙ told.3)) ∙ inputs-nil old.room
told_inputs old new (Some left) (Some left') (Err ScriptTooLong) given taken told =
    ap (λ (l : List ℕ). inputs l old.room) (joined old.held given left left' taken)
    ∙ inputs-beyond ((old.held ++ given) ++ left') old.room (rw (length-append (old.held ++ given) left') (omega (arith, told.0)))
    (λ k h is. told.1 k h (sym (get_or_append_left (old.held ++ given) left' 0 k (omega (arith, told.0))) ∙ is))
told_inputs old new (Some left) (Some left') (Err ReadFault) given taken told = tt
told_inputs old new (Some left) (Some left') (Err NoMemory) given taken told = tt

-- a line that is handed out takes room
hands_room : (bytes line rest : List ℕ) (room room' : ℕ) (left : Option (List ℕ)) → Hands bytes room left line rest room' → room' < room
hands_room bytes line rest room room' left h =
    ⊎_elim (λ (c : (bytes ≡ line ++ 10 ∷ rest) × (room ≡ length line + 1 + room')). omega (arith, c.1))
    (λ (c : (bytes ≡ line) × (rest ≡ []) × (0 < length line) × (room ≡ length line + room') × IsAtEnd left). omega (arith, c.2, c.3)) h.cut

-- what a call tells shrinks the room
pub told_shrinks : (bytes : List ℕ) (room : ℕ) (left : Option (List ℕ)) (result : Result Line IoStop) (new : Reading) → Tells bytes room left result new → Shrinks room new.room result
told_shrinks bytes room left (Ok Text) new told = hands_room bytes new.text new.held room new.room left told.0
told_shrinks bytes room left (Ok TooLong) new told = hands_room bytes told.0 new.held room new.room left told.1
told_shrinks bytes room left (Ok Ended) new told = told.2
told_shrinks bytes room left (Err ReadFault) new told = tt
told_shrinks bytes room left (Err ScriptTooLong) new told = tt
told_shrinks bytes room left (Err NoMemory) new told = tt
