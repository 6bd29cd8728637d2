-- The tokens of a text: what each one's bytes are, and how they stand one after another.
use Rattle.std.specs.Prelude.{◌≡◌, ◌≢◌, ℕ, ◌-◌, ◌^◌, ◌<◌, ◌≤◌, ◌==◌, min, true, false, List, [], ◌∷◌, length, take}
use Rattle.std.specs.Prelude.{drop, slice_index, slice_range, Option, Some, None, codes, if◌then◌else◌}
use Rattle.std.specs.Str.Parse.{digits_value}
use Rattle.std.specs.List.{prefix_len, AllPass}
use Rattle.std.specs.Char.{is_ascii_digit, is_ascii_alphabetic}
use Rattle.flow_model.specs.Words.{is_name, is_text}
use Rattle.flow_table.specs.Spelling.{keyword_spelling}
use Rattle.fdl_lexer.specs.Bytes.{is_run_byte, is_allowed, is_item, single_quoted, double_quoted}
use Rattle.fdl_lexer.specs.Gaps.{IsGap, NoGap}
use Rattle.fdl_lexer.specs.declared.kinds.Mark.{Mark}
use Rattle.fdl_lexer.specs.declared.kinds.Mark.TheVariants as mark
use Rattle.fdl_lexer.specs.declared.kinds.What.{What}
use Rattle.fdl_lexer.specs.declared.kinds.What.TheVariants as what
use Rattle.fdl_lexer.specs.declared.kinds.Token.{Token as Placed}
use Rattle.fdl_lexer.specs.declared.kinds.LexFault.{LexFault}
use Rattle.fdl_lexer.specs.declared.kinds.LexFault.TheVariants.{Byte, Token, NoMemory}

-- the mark that two bytes begin with, and its length: the longer one where two would do
abbrev pub mark_of : ℕ → ℕ → Option (Mark × ℕ)
mark_of a b =
    if a == 40 then Some (mark.Open, 1)
    else (if a == 41 then Some (mark.Close, 1)
    else (if a == 44 then Some (mark.Comma, 1)
    else (if a == 59 then Some (mark.Semicolon, 1)
    else (if a == 58 then Some (mark.Colon, 1)
    else (if a == 46 then Some (mark.Dot, 1)
    else (if a == 91 then Some (mark.OpenBracket, 1)
    else (if a == 93 then Some (mark.CloseBracket, 1)
    else (if a == 61 then Some (mark.Equal, 1)
    else (if a == 60 then
    (if b == 62 then Some (mark.NotEqual, 2) else (if b == 61 then Some (mark.AtMost, 2) else Some (mark.Less, 1)))
    else (if a == 62 then (if b == 61 then Some (mark.AtLeast, 2) else Some (mark.Greater, 1))
    else (if a == 43 then Some (mark.Plus, 1)
    else (if a == 45 then Some (mark.Minus, 1)
    else None))))))))))))

-- the first n bytes are these
abbrev pub AreFirst : List ℕ → ℕ → List ℕ → Type 0
AreFirst spelling n bytes = (take n bytes ≡ spelling) × (n ≡ length spelling)

-- the first n bytes spell this token, and no more of the bytes belong to it
abbrev pub Spells : What → ℕ → List ℕ → Type 0
Spells (what.Word keyword) n bytes =
    (is_ascii_alphabetic (slice_index bytes 0) ≡ true) × (n ≡ prefix_len is_run_byte bytes)
    × (take n bytes ≡ keyword_spelling keyword)
Spells what.Name n bytes = (name : List ℕ) × (is_name name ≡ true) × AreFirst (single_quoted name) n bytes
Spells what.Rc n bytes = AreFirst (codes "'_RC'") n bytes
Spells what.Item n bytes = (item : List ℕ) × (is_item item ≡ true) × AreFirst (single_quoted item) n bytes
Spells (what.Number value) n bytes =
    (is_ascii_digit (slice_index bytes 0) ≡ true) × (n ≡ prefix_len is_ascii_digit bytes)
    × (n ≡ prefix_len is_run_byte bytes)
    × ((slice_index bytes 0 ≡ 48) → n ≡ 1) × (value ≡ min (digits_value 10 (take n bytes)) (2 ^ 64 - 1))
Spells what.Text n bytes =
    (value : List ℕ) × (is_text value ≡ true) × AreFirst (double_quoted value) n bytes × (slice_index bytes n ≢ 34)
Spells (what.Mark sign) n bytes = mark_of (slice_index bytes 0) (slice_index bytes 1) ≡ Some (sign, n)

-- no token begins these bytes
abbrev pub NoTokenBegins : List ℕ → Type 0
NoTokenBegins bytes = (what : What) (n : ℕ) → Spells what n bytes → ⊥

-- the token that begins these bytes and its length, or that there is none
abbrev pub FindsToken : List ℕ → Option (What × ℕ) → Type 0
FindsToken bytes (Some found) = Spells found.0 found.1 bytes × (0 < found.1) × (found.1 ≤ length bytes)
FindsToken bytes None = NoTokenBegins bytes

-- this token stands next, at or behind `at`
pub record IsNext (text : List ℕ) (at : ℕ) (t : Placed) : Type 0 where
  pub behind : at ≤ t.from
  pub some : t.from < t.to
  pub within : t.to ≤ length text
  pub gap : IsGap (slice_range text at t.from)
  pub spelled : Spells t.what (t.to - t.from) (drop t.from text)

-- these tokens stand one after another, from `at` to `end`
abbrev pub Scans : List ℕ → ℕ → List Placed → ℕ → Type 0
Scans text at [] end = end ≡ at
Scans text at (t ∷ ts) end = IsNext text at t × Scans text t.to ts end

-- this token stands in the text
pub record IsPlaced (text : List ℕ) (t : Placed) : Type 0 where
  pub some : t.from < t.to
  pub within : t.to ≤ length text
  pub spelled : Spells t.what (t.to - t.from) (drop t.from text)

-- each byte may stand in a text
abbrev pub AreAllowed : List ℕ → Type 0
AreAllowed text = AllPass is_allowed text

-- these are the tokens of the text
pub record AreTokens (text : List ℕ) (tokens : List Placed) : Type 0 where
  pub allowed : AreAllowed text
  pub end : ℕ
  pub scanned : Scans text 0 tokens end
  pub within : end ≤ length text
  pub rest : IsGap (slice_range text end (length text))

-- the first byte that may not stand in a text
pub record IsFirstBad (text : List ℕ) (place : ℕ) : Type 0 where
  pub within : place < length text
  pub here : is_allowed (slice_index text place) ≡ false
  pub before : (k : ℕ) → k < place → is_allowed (slice_index text k) ≡ true

-- behind some tokens and a gap, neither a token nor a gap begins here
pub record IsStuckAt (text : List ℕ) (place : ℕ) : Type 0 where
  pub allowed : AreAllowed text
  pub tokens : List Placed
  pub end : ℕ
  pub scanned : Scans text 0 tokens end
  pub behind : end ≤ place
  pub within : place < length text
  pub gap : IsGap (slice_range text end place)
  pub no_gap : NoGap (drop place text)
  pub no_token : NoTokenBegins (drop place text)

-- why a text has no tokens
abbrev pub Faults : List ℕ → LexFault → Type 0
Faults text (Byte place) = IsFirstBad text place
Faults text (Token place) = IsStuckAt text place
Faults text NoMemory = Unit {0}
