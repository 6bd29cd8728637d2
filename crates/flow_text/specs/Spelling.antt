-- How names and texts are spelled.
use Rattle.std.specs.Prelude.{ℕ, List, [], ◌∷◌, ◌++◌, ◌==◌, if◌then◌else◌}
use Rattle.std.specs.List.{flat_map}

-- a byte of a text: a quote stands twice
abbrev pub doubled_byte : ℕ → List ℕ
doubled_byte byte = if byte == 34 then 34 ∷ 34 ∷ [] else byte ∷ []

-- a text, each quote doubled
abbrev pub doubled : List ℕ → List ℕ
doubled text = flat_map doubled_byte text

-- a name in single quotes
abbrev pub name_in_quotes : List ℕ → List ℕ
name_in_quotes name = 39 ∷ [] ++ name ++ 39 ∷ []

-- a text in double quotes, each quote within it doubled
abbrev pub text_in_quotes : List ℕ → List ℕ
text_in_quotes text = 34 ∷ [] ++ doubled text ++ 34 ∷ []
