-- No two keywords are spelled alike: a search for how a keyword is spelled finds that keyword.
use Rattle.std.proofs.Common.{◌≡◌, ℕ, List, [], ◌∷◌, Option, Some, None, if◌then◌else◌, slice_index, refl, sym, ap, ◌∙◌}
use Rattle.std.specs.Str.{bytes_eq}
use Rattle.flow_table.specs.Spelling.{keyword_spelling, with_letter}
use Rattle.flow_table.specs.declared.keyword.Keyword.{Keyword}
use Rattle.flow_table.specs.declared.keyword.Keyword.TheVariants as word

-- the first of these that is spelled so
abbrev pub first_spelled : List ℕ → List Keyword → Option Keyword
first_spelled text [] = None
first_spelled text (keyword ∷ later) = if bytes_eq (keyword_spelling keyword) text then Some keyword else first_spelled text later

-- the first of those with its letter that is spelled so
abbrev pub found : List ℕ → Option Keyword
found text = first_spelled text (with_letter (slice_index text 0))

pub found_spelled : (keyword : Keyword) → found (keyword_spelling keyword) ≡ Some keyword
found_spelled word.Structure = refl
found_spelled _ = refl

pub spelling_one : (keyword twin : Keyword) → keyword_spelling keyword ≡ keyword_spelling twin → keyword ≡ twin
spelling_one keyword twin e =
    let both : Some keyword ≡ Some twin = sym (found_spelled keyword) ∙ ap found e ∙ found_spelled twin in
    cc
