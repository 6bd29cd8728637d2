-- Which lines of a certificate are justified: each by those before it.
use Rattle.std.specs.Prelude.{◌≡◌, ℕ, ◌<◌, Bool, true, false, Some, None, is_some, unwrap_or, List, take, slice_get}
use Rattle.std.specs.Prelude.{fold}
use Rattle.certificates.specs.declared.accepting.AcceptFault.{AcceptFault}
use Rattle.certificates.specs.declared.accepting.AcceptFault.TheVariants.{Line, NoMemory}
use Rattle.certificates.specs.declared.lines.CertLine.{CertLine}
use Rattle.certificates.specs.Told.{Basis, Told, taken}

-- what lines tell, from the first on; a line that isn't justified tells nothing
abbrev pub told : Basis → List CertLine → Told
told b lines = fold (λ t line. unwrap_or (taken b t line) t) (λ p. None) lines

-- a line tells of the root, and follows from what those before it tell
abbrev pub is_justified : Basis → List CertLine → CertLine → Bool
is_justified b before line = is_some (taken b (told b before) line)

-- each of the first n lines is justified by those before it
abbrev pub AreJustified : Basis → List CertLine → ℕ → Type 0
AreJustified b lines n = (i : ℕ) (line : CertLine) → i < n → slice_get lines i ≡ Some line
    → is_justified b (take i lines) line ≡ true

-- the line at this place is the first that isn't justified
pub record IsFirstUnjustified (b : Basis) (lines : List CertLine) (place : ℕ) : Type 0 where
  pub line : CertLine
  pub there : slice_get lines place ≡ Some line
  pub before : AreJustified b lines place
  pub unjustified : is_justified b (take place lines) line ≡ false

-- why lines aren't accepted
abbrev pub StopsAt : Basis → List CertLine → AcceptFault → Type 0
StopsAt b lines (Line place) = IsFirstUnjustified b lines place
StopsAt b lines NoMemory = Unit {0}

-- the line that isn't justified is one of this many
abbrev pub IsWithin : ℕ → AcceptFault → Type 0
IsWithin count (Line place) = place < count
IsWithin count NoMemory = Unit {0}
