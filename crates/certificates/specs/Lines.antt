-- How a line of a certificate is written: `SCOPE '1'`, `DEAD '1/B'`, `FINISHED '1/A' 1`, `ENDED '1/Loop#1'`.
use Rattle.std.specs.Prelude.{◌≡◌, ◌<◌, ◌^◌, ℕ, true, List, [], ◌∷◌, ◌++◌, codes, decimal}
use Rattle.flow_model.specs.Paths.{spelling, IsPath}
use Rattle.flow_model.specs.Words.{is_name}
use Rattle.flow_model.specs.declared.instances.Path.{Path}
use Rattle.certificates.specs.Naming.{activity_spelling}
use Rattle.certificates.specs.declared.lines.CertLine.{CertLine}
use Rattle.certificates.specs.declared.lines.CertLine.TheVariants.{Scope, Dead, Finished, Ended}

-- bytes in single quotes
abbrev pub in_quotes : List ℕ → List ℕ
in_quotes bytes = 39 ∷ [] ++ bytes ++ 39 ∷ []

-- a scope in single quotes
abbrev pub scope_in_quotes : Path → List ℕ
scope_in_quotes p = in_quotes (spelling p)

-- an activity in single quotes
abbrev pub activity_in_quotes : Path → List ℕ → List ℕ
activity_in_quotes p name = in_quotes (activity_spelling p name)

-- the text of a line, without its line feed
abbrev pub line_text : CertLine → List ℕ
line_text (Scope p) = codes "SCOPE " ++ scope_in_quotes p
line_text (Dead p name) = codes "DEAD " ++ activity_in_quotes p name
line_text (Finished p name attempt) = codes "FINISHED " ++ activity_in_quotes p name ++ 32 ∷ [] ++ decimal attempt
line_text (Ended p) = codes "ENDED " ++ scope_in_quotes p

-- a line that can be written: its scope and its name can be, and its attempt has 64 bits
abbrev pub IsSpellable : CertLine → Type 0
IsSpellable (Scope p) = IsPath p
IsSpellable (Dead p name) = IsPath p × (is_name name ≡ true)
IsSpellable (Finished p name attempt) = IsPath p × (is_name name ≡ true) × (attempt < 2 ^ 64)
IsSpellable (Ended p) = IsPath p

-- the bytes are the text of this line
pub record Writes (bytes : List ℕ) (line : CertLine) : Type 0 where
  pub writable : IsSpellable line
  pub text : line_text line ≡ bytes

-- and of no other
abbrev pub WritesNoOther : List ℕ → CertLine → Type 0
WritesNoOther bytes line = (other : CertLine) → Writes bytes other → other ≡ line

-- they are the text of no line
abbrev pub WritesNoLine : List ℕ → Type 0
WritesNoLine bytes = (line : CertLine) → Writes bytes line → ⊥
