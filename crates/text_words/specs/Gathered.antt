-- What is gathered of the lines of an input.
use Rattle.std.specs.Prelude.{◌≡◌, ℕ, ◌+◌, nat_le, Bool, true, false, ◌&&◌, ◌||◌, if◌then◌else◌, Option, Some, None}
use Rattle.std.specs.Prelude.{IfSome, List, [], ◌∷◌, ◌++◌, codes, length, map, bytes_eq}
use Rattle.std.specs.Global.{Vec}
use Rattle.flow_io.specs.Inputs.{Input as LineInput, Served, PassedOver, AtEnd, inputs}
use Rattle.flow_io.specs.declared.lines.Line.{Line}
use Rattle.flow_io.specs.declared.lines.Line.TheVariants.{Text, TooLong, Ended}
use Rattle.text_words.specs.declared.input.Input.{Input}
use Rattle.text_words.specs.declared.input.Numbered.{Numbered}

-- a text, whether its end came, the lines behind that with their numbers, and the number of the first line that is too
-- long
pub record Gathered : Type 0 where
  pub text : List ℕ
  pub is_ended : Bool
  pub behind : List (ℕ × List ℕ)
  pub too_long : Option ℕ

-- nothing was gathered
abbrev pub nothing : Gathered
nothing = record { text = []; is_ended = false; behind = []; too_long = None }

-- a line that ends a text: `.`, or `.` and a carriage return
abbrev pub is_end : List ℕ → Bool
is_end line = bytes_eq line (codes ".") || bytes_eq line (46 ∷ 13 ∷ [])

-- a text with one more line, as far as it is judged
abbrev pub with_text : List ℕ → List ℕ → List ℕ
with_text text line = if nat_le (length text) 1048576 then text ++ line ++ 10 ∷ [] else text

-- a line of this number stands behind the end, or is the end, or is of the text
abbrev pub with_line : Bool → ℕ → Gathered → List ℕ → Gathered
with_line has_end number g line =
    if g.is_ended then record g { behind = g.behind ++ (number, line) ∷ [] } else
    if has_end && is_end line then record g { is_ended = true } else record g { text = with_text g.text line }

-- the first of the lines that are too long
abbrev pub first_long : Option ℕ → ℕ → Option ℕ
first_long None number = Some number
first_long (Some first) number = Some first

-- what comes as the line of this number
abbrev pub with_input : Bool → ℕ → Gathered → LineInput → Gathered
with_input has_end number g (Served line) = with_line has_end number g line
with_input has_end number g PassedOver = record g { too_long = first_long g.too_long number }
with_input has_end number g AtEnd = g

-- what is gathered of these, of which the first is the line of this number
abbrev pub gathered_from : Bool → ℕ → Gathered → List LineInput → Gathered
gathered_from has_end number g [] = g
gathered_from has_end number g (i ∷ rest) = gathered_from has_end (number + 1) (with_input has_end number g i) rest

-- what is gathered of the lines of these bytes
abbrev pub gathered : Bool → List ℕ → Gathered
gathered has_end bytes = gathered_from has_end 1 nothing (inputs bytes 268435456)

-- what a call of `next` found, with the text that stands in the reader
abbrev pub found_input : Line → List ℕ → LineInput
found_input Text line = Served line
found_input TooLong line = PassedOver
found_input Ended line = AtEnd

-- the number and the bytes of a line
abbrev pub numbered : Numbered → ℕ × List ℕ
numbered line = (line.number, line.line.items)

-- what an input keeps
abbrev pub kept : Input → Gathered
kept input = record {
  text = input.text.items;
  is_ended = input.is_ended;
  behind =
      map numbered input.behind.items;
  too_long = input.too_long;
}

-- the input keeps what is gathered of the bytes of a source that tells them
abbrev pub IsGathered : Bool → Option (List ℕ) → Input → Type 0
IsGathered has_end left input = IfSome left (λ bytes. kept input ≡ gathered has_end bytes)

-- a line that is kept with whether it is too long, as what came
abbrev pub as_input : Vec ℕ × Bool → LineInput
as_input (line, is_long) = if is_long then PassedOver else Served line.items

-- these are all the lines of a source that tells its bytes
abbrev pub AreLines : Option (List ℕ) → List (Vec ℕ × Bool) → Type 0
AreLines left lines = IfSome left (λ bytes. map as_input lines ++ AtEnd ∷ [] ≡ inputs bytes 268435456)
