-- Kinds of bytes, and what stands in quotes.
use Rattle.std.specs.Prelude.{ℕ, ◌==◌, nat_le, Bool, false, ◌||◌, ◌&&◌, List, [], ◌∷◌, ◌++◌, length, if◌then◌else◌}
use Rattle.std.specs.List.{list_all}
use Rattle.std.specs.Char.{is_ascii_digit, is_ascii_alphanumeric}
use Rattle.flow_model.specs.Words.{is_name_byte, is_text_byte}

-- a byte that stands between tokens
abbrev pub is_blank : ℕ → Bool
is_blank b = b == 9 || b == 10 || b == 13 || b == 32

-- a byte that may stand in a text
abbrev pub is_allowed : ℕ → Bool
is_allowed b = b == 9 || b == 10 || b == 13 || nat_le 32 b && nat_le b 126

-- a letter, a digit or a low line
abbrev pub is_run_byte : ℕ → Bool
is_run_byte b = is_ascii_alphanumeric b || b == 95

-- a byte of a name, a slash or a number sign
abbrev pub is_item_byte : ℕ → Bool
is_item_byte b = is_name_byte b || b == 47 || b == 35

-- an item: a digit and at most 1,023 more bytes
abbrev pub is_item : List ℕ → Bool
is_item [] = false
is_item (b ∷ bs) = is_ascii_digit b && nat_le (length bs) 1023 && list_all is_item_byte bs

-- bytes between single quotes
abbrev pub single_quoted : List ℕ → List ℕ
single_quoted bs = 39 ∷ bs ++ 39 ∷ []

-- each double quote written twice
abbrev pub doubled : List ℕ → List ℕ
doubled [] = []
doubled (b ∷ bs) = if b == 34 then 34 ∷ 34 ∷ doubled bs else b ∷ doubled bs

-- how many bytes write a byte of a text
abbrev pub written_len : ℕ → ℕ
written_len b = if b == 34 then 2 else 1

-- how many bytes write a text's next byte, by the first two of them: none where the text ends
abbrev pub next_len : ℕ → ℕ → ℕ
next_len b c = if b == 34 then (if c == 34 then 2 else 0) else (if is_text_byte b then 1 else 0)

-- bytes between double quotes
abbrev pub double_quoted : List ℕ → List ℕ
double_quoted bs = 34 ∷ doubled bs ++ 34 ∷ []
