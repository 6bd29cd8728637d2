-- How what is gathered line by line is what is gathered of all lines.
use Rattle.std.proofs.Common.{◌≡◌, ◌≢◌, ℕ, ◌+◌, Bool, List, [], ◌∷◌, ◌++◌, map, Option, Some, None, Ok, refl, sym, ap, ◌∙◌, append_assoc}
use Rattle.std.specs.Global.{Vec}
use Rattle.flow_io.specs.Inputs.{Input as LineInput, inputs}
use Rattle.flow_io.specs.declared.lines.Line.{Line}
use Rattle.flow_io.specs.declared.lines.Line.TheVariants.{Text, TooLong, Ended}
use Rattle.flow_io.specs.Reading.{Reading}
use Rattle.flow_io.specs.Serving.{unserved, ServesInputs}
use Rattle.text_words.specs.Gathered.{Gathered, gathered, gathered_from, nothing, as_input, found_input}

-- what was gathered of the lines so far, and then of those that are left, is what is gathered of all
abbrev pub Gathers : Bool → Option (List ℕ) → Option (List ℕ) → Reading → ℕ → Gathered → Type 0
Gathers has_end (Some bytes) (Some left) lines number g = gathered_from has_end (number + 1) g (unserved lines left) ≡ gathered has_end bytes
Gathers has_end None left lines number g = Unit {0}
Gathers has_end (Some bytes) None lines number g = ⊥

-- no line was read
pub gathers_none : (has_end : Bool) (bytes : Option (List ℕ)) → Gathers has_end bytes bytes (record { held = []; room = 268435456; text = [] }) 0 nothing
gathers_none has_end None = tt
gathers_none has_end (Some bytes) = refl

-- the lines that are kept so far, and then those that are left, are all lines
abbrev pub KeepsLines : Option (List ℕ) → Option (List ℕ) → Reading → List (Vec ℕ × Bool) → Type 0
KeepsLines (Some bytes) (Some left) lines kept = map as_input kept ++ unserved lines left ≡ inputs bytes 268435456
KeepsLines None left lines kept = Unit {0}
KeepsLines (Some bytes) None lines kept = ⊥

-- none is kept yet
pub keeps_none : (bytes : Option (List ℕ)) (kept : List (Vec ℕ × Bool)) → kept ≡ [] → KeepsLines bytes bytes (record { held = []; room = 268435456; text = [] }) kept
keeps_none None kept none = tt
keeps_none (Some bytes) kept none = rw none refl

-- one line more is kept
one_more : (all : List LineInput) (kept kept' : List (Vec ℕ × Bool)) (i : LineInput) (before after : List LineInput) → map as_input kept' ≡ map as_input kept ++ i ∷ [] → before ≡ i ∷ after → map as_input kept ++ before ≡ all → map as_input kept' ++ after ≡ all
one_more all kept kept' i before after more served so_far =
    ap (λ xs. xs ++ after) more ∙ append_assoc (map as_input kept) (i ∷ []) after ∙ ap (λ xs. map as_input kept ++ xs) (sym served) ∙ so_far

-- what is kept when a call has found a line
pub keeps_more : (bytes before after : Option (List ℕ)) (old new : Reading) (found : Line) (kept kept' : List (Vec ℕ × Bool)) → KeepsLines bytes before old kept → ServesInputs old before new after (Ok found) → found ≢ Ended
    → (found ≢ Ended → map as_input kept' ≡ map as_input kept ++ found_input found new.text ∷ []) → KeepsLines bytes after new kept'
keeps_more None before after old new found kept kept' so_far serves not_ended more = tt
keeps_more (Some bytes) None after old new found kept kept' so_far serves not_ended more = absurd so_far
keeps_more (Some bytes) (Some left) None old new found kept kept' so_far serves not_ended more = absurd serves
keeps_more (Some bytes) (Some left) (Some left') old new Text kept kept' so_far serves not_ended more = one_more _ kept kept' _ _ _ (more not_ended) serves so_far
keeps_more (Some bytes) (Some left) (Some left') old new TooLong kept kept' so_far serves not_ended more = one_more _ kept kept' _ _ _ (more not_ended) serves so_far
keeps_more (Some bytes) (Some left) (Some left') old new Ended kept kept' so_far serves not_ended more = absurd (not_ended refl)
