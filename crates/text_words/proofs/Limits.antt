-- A source has too many bytes exactly where its inputs have no end.
use Rattle.std.proofs.Common.{◌≡◌, ◌≢◌, ℕ, Bool, true, false, ◌==◌, if◌then◌else◌, Option, Some, None, Ok, Err, List, [], ◌∷◌, ◌++◌, length, take, refl, sym, ap, ◌∙◌}
use Rattle.std.specs.List.{list_any}
use Rattle.std.specs.Prelude.{nat_le, ◌||◌}
use Rattle.std.proofs.lemmas.Bool.{leb-true, leb-false}
use Rattle.flow_io.specs.Inputs.{Input as LineInput, Served, PassedOver, AtEnd, inputs, inputs_from, last_inputs, input_of}
use Rattle.flow_io.specs.declared.lines.IoStop.{IoStop}
use Rattle.flow_io.specs.declared.lines.IoStop.TheVariants as io_stop
use Rattle.flow_io.specs.declared.lines.Line.{Line}
use Rattle.flow_io.specs.declared.lines.Line.TheVariants.{Text, TooLong, Ended}
use Rattle.flow_io.specs.Reading.{Reading}
use Rattle.flow_io.specs.Serving.{unserved, ServesInputs}
use Rattle.text_words.specs.Limits.{IsWithinLimit, StopsBeyond}

-- what comes is the end
abbrev is_last : LineInput → Bool
is_last (Served line) = false
is_last PassedOver = false
is_last AtEnd = true

-- the end is among the inputs
abbrev has_last : List LineInput → Bool
has_last all = list_any is_last all

-- a line isn't the end
line_goes_on : (line : List ℕ) (b : Bool) → is_last (if b then Served line else PassedOver) ≡ false
line_goes_on line true = refl
line_goes_on line false = refl

behind_line : (line : List ℕ) (rest : List LineInput) → has_last (input_of line ∷ rest) ≡ has_last rest
behind_line line rest = ap (λ (b : Bool). b || has_last rest) (line_goes_on line (nat_le (length line) 65536))

last_of : (whole : Bool) (line : List ℕ) → has_last (if whole then last_inputs line else []) ≡ whole
last_of true [] = refl
last_of true (b ∷ bs) = behind_line (b ∷ bs) (AtEnd ∷ [])
last_of false line = refl

-- the inputs of some bytes have an end exactly where nothing stands behind them
last_from : (whole : Bool) (line bytes : List ℕ) → has_last (inputs_from whole line bytes) ≡ whole
last_from whole line [] = last_of whole line
last_from whole line (b ∷ bs) = go (b == 10) (last_from whole [] bs) (last_from whole (line ++ b ∷ []) bs)
  where
    go : (c : Bool) → has_last (inputs_from whole [] bs) ≡ whole → has_last (inputs_from whole (line ++ b ∷ []) bs) ≡ whole
        → has_last (if c then input_of line ∷ inputs_from whole [] bs else inputs_from whole (line ++ b ∷ []) bs) ≡ whole
    go true behind longer = behind_line line (inputs_from whole [] bs) ∙ behind
    go false behind longer = longer

last_in : (bytes : List ℕ) → has_last (inputs bytes 268435456) ≡ nat_le (length bytes) 268435456
last_in bytes = last_from (nat_le (length bytes) 268435456) [] (take 268435456 bytes)

-- the end stands still before a reader, or stood before it from the first on nowhere
abbrev pub EndsAhead : Option (List ℕ) → Option (List ℕ) → Reading → Type 0
EndsAhead (Some bytes) (Some left) lines = has_last (unserved lines left) ≡ has_last (inputs bytes 268435456)
EndsAhead None left lines = Unit {0}
EndsAhead (Some bytes) None lines = ⊥

-- no line was read
pub ends_ahead : (bytes : Option (List ℕ)) → EndsAhead bytes bytes (record { held = []; room = 268435456; text = [] })
ends_ahead None = tt
ends_ahead (Some bytes) = refl

-- a line was read
pub ends_behind : (bytes before after : Option (List ℕ)) (old new : Reading) (found : Line) → EndsAhead bytes before old
    → ServesInputs old before new after (Ok found) → found ≢ Ended → EndsAhead bytes after new
ends_behind None before after old new found ahead serves not_ended = tt
ends_behind (Some bytes) None after old new found ahead serves not_ended = absurd ahead
ends_behind (Some bytes) (Some left) None old new found ahead serves not_ended = absurd serves
ends_behind (Some bytes) (Some left) (Some left') old new Text ahead serves not_ended = sym (ap has_last serves) ∙ ahead
ends_behind (Some bytes) (Some left) (Some left') old new TooLong ahead serves not_ended = sym (ap has_last serves) ∙ ahead
ends_behind (Some bytes) (Some left) (Some left') old new Ended ahead serves not_ended = absurd (not_ended refl)

-- a source that was read to its end has few enough
pub within : (bytes before after : Option (List ℕ)) (old new : Reading) (found : Line) → EndsAhead bytes before old
    → ServesInputs old before new after (Ok found) → found ≡ Ended → IsWithinLimit bytes
within None before after old new found ahead serves ended = tt
within (Some bytes) None after old new found ahead serves ended = absurd ahead
within (Some bytes) (Some left) None old new found ahead serves ended = absurd serves
within (Some bytes) (Some left) (Some left') old new Text ahead serves ended = absurd (let f : Text ≡ Ended = ended in cc)
within (Some bytes) (Some left) (Some left') old new TooLong ahead serves ended = absurd (let f : TooLong ≡ Ended = ended in cc)
within (Some bytes) (Some left) (Some left') old new Ended ahead serves ended =
    leb-true (length bytes) 268435456 (sym (last_in bytes) ∙ sym ahead ∙ ap has_last serves)

-- one that stops the reader as too long has too many
pub beyond : (bytes before after : Option (List ℕ)) (old new : Reading) (stop : IoStop) → EndsAhead bytes before old
    → ServesInputs old before new after (Err stop) → StopsBeyond bytes stop
beyond bytes before after old new io_stop.ReadFault ahead serves = tt
beyond bytes before after old new io_stop.NoMemory ahead serves = tt
beyond None before after old new io_stop.ScriptTooLong ahead serves = tt
beyond (Some bytes) None after old new io_stop.ScriptTooLong ahead serves = absurd ahead
beyond (Some bytes) (Some left) None old new io_stop.ScriptTooLong ahead serves = absurd serves
beyond (Some bytes) (Some left) (Some left') old new io_stop.ScriptTooLong ahead serves =
    leb-false (length bytes) 268435456 (sym (last_in bytes) ∙ sym ahead ∙ ap has_last serves)
