-- What stands between tokens: blanks and ended comments.
use Rattle.std.specs.Prelude.{◌≡◌, ℕ, ◌+◌, ◌-◌, ◌<◌, ◌≤◌, true, false, List, [], ◌∷◌, ◌++◌, length, take, drop}
use Rattle.std.specs.Prelude.{slice_index}
use Rattle.fdl_lexer.specs.Bytes.{is_blank}

-- `*/` stands at k
abbrev pub EndsAt : List ℕ → ℕ → Type 0
EndsAt bytes k = (slice_index bytes k ≡ 42) × (slice_index bytes (k + 1) ≡ 47)

-- these bytes begin with `/*`, and the first `*/` behind it stands at k
pub record HasComment (bytes : List ℕ) (k : ℕ) : Type 0 where
  pub slash : slice_index bytes 0 ≡ 47
  pub star : slice_index bytes 1 ≡ 42
  pub behind : 2 ≤ k
  pub ends : EndsAt bytes k
  pub first : (j : ℕ) → 2 ≤ j → j < k → EndsAt bytes j → ⊥

-- blanks and ended comments
pub data IsGap : List ℕ → Type 0 where
  Nothing : IsGap []
  Blank : (b : ℕ) (bs : List ℕ) → is_blank b ≡ true → IsGap bs → IsGap (b ∷ bs)
  Comment : (k : ℕ) (c bs : List ℕ) → HasComment c k → length c ≡ k + 2 → IsGap bs → IsGap (c ++ bs)

-- neither a blank nor an ended comment begins these bytes
abbrev pub NoGap : List ℕ → Type 0
NoGap bytes = (is_blank (slice_index bytes 0) ≡ false) × ((k : ℕ) → HasComment bytes k → ⊥)

-- so many bytes at the front are an ended comment
pub record IsCommentLen (bytes : List ℕ) (len : ℕ) : Type 0 where
  pub some : 2 ≤ len
  pub within : len ≤ length bytes
  pub comment : HasComment bytes (len - 2)

-- so many bytes at the front are blanks and ended comments, and no more
pub record IsGapLen (bytes : List ℕ) (len : ℕ) : Type 0 where
  pub within : len ≤ length bytes
  pub gap : IsGap (take len bytes)
  pub ends : len < length bytes → NoGap (drop len bytes)
