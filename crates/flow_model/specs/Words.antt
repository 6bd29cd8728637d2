-- Which bytes make a name and a text.
use Rattle.std.specs.Prelude.{ℕ, ◌==◌, nat_le, Bool, false, ◌||◌, ◌&&◌, List, [], ◌∷◌, length}
use Rattle.std.specs.List.{list_all}
use Rattle.std.specs.Char.{is_ascii_alphabetic, is_ascii_alphanumeric}

-- a letter, a digit, a space, an underline or a dash
abbrev pub is_name_byte : ℕ → Bool
is_name_byte b = is_ascii_alphanumeric b || (b == 32) || (b == 95) || (b == 45)

-- a name: a letter and at most 31 more bytes
abbrev pub is_name : List ℕ → Bool
is_name [] = false
is_name (b ∷ bs) = is_ascii_alphabetic b && nat_le (length bs) 31 && list_all is_name_byte bs

-- a byte that may stand in a text
abbrev pub is_text_byte : ℕ → Bool
is_text_byte b = nat_le 32 b && nat_le b 126

-- a text: at most 255 printable bytes
abbrev pub is_text : List ℕ → Bool
is_text bs = nat_le (length bs) 255 && list_all is_text_byte bs
