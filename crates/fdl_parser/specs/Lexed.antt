-- What the lexer promises of the bytes of names and texts.
use Rattle.std.specs.Prelude.{◌≡◌, ℕ, true, List, [], ◌∷◌}
use Rattle.flow_model.specs.Words.{is_name, is_text}
use Rattle.fdl_lexer.specs.Bytes.{single_quoted, double_quoted}
use Rattle.fdl_lexer.specs.declared.kinds.What.{What}
use Rattle.fdl_lexer.specs.declared.kinds.What.TheVariants.{Name, Text}
use Rattle.fdl_parser.specs.Tokens.{Tokens}

-- the bytes of a name are a name in quotes, and those of a text a text
abbrev pub IsQuoted : What → List ℕ → Type 0
IsQuoted Name bytes = (value : List ℕ) × (bytes ≡ single_quoted value) × (is_name value ≡ true)
IsQuoted Text bytes = (value : List ℕ) × (bytes ≡ double_quoted value) × (is_text value ≡ true)
IsQuoted _ bytes = Unit {0}

-- so are those of each name and text of the row
abbrev pub AreQuoted : Tokens → Type 0
AreQuoted [] = Unit {0}
AreQuoted (t ∷ ts) = IsQuoted t.kind t.bytes × AreQuoted ts
