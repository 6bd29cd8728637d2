-- What is known of a certificate that was made, and of what is printed, whatever the process is.
use Rattle.std.specs.Prelude.{◌≡◌, ◌≤◌, ◌+◌, ◌==◌, if◌then◌else◌, ℕ, Bool, true, false, List, [], ◌∷◌, ◌++◌, length}
use Rattle.std.specs.Prelude.{codes, decimal}
use Rattle.std.specs.List.{flat_map}
use Rattle.flow_model.specs.declared.instances.Fate.{Fate}
use Rattle.flow_model.specs.declared.instances.Fate.TheVariants.{Waiting, Ready, Running, Finished as FinishedFate}
use Rattle.flow_model.specs.declared.instances.Fate.TheVariants.{Dead as DeadFate}
use Rattle.flow_model.specs.declared.instances.Path.{Path}
use Rattle.certificates.specs.Lines.{line_text}
use Rattle.certificates.specs.declared.lines.CertLine.{CertLine}
use Rattle.certificates.specs.declared.lines.CertLine.TheVariants.{Scope, Dead, Finished, Ended}

-- the line tells that this activity has ended with this fate
abbrev pub Settles : Path → List ℕ → Fate → CertLine → Type 0
Settles p name fate (Scope q) = ⊥
Settles p name fate (Dead q other) = (q ≡ p) × (other ≡ name) × (fate ≡ DeadFate)
Settles p name fate (Finished q other attempt) = (q ≡ p) × (other ≡ name) × (fate ≡ FinishedFate attempt)
Settles p name fate (Ended q) = ⊥

-- an activity of this fate is neither dead nor finished
abbrev pub IsUnsettled : Fate → Type 0
IsUnsettled Waiting = Unit {0}
IsUnsettled (Ready attempt) = Unit {0}
IsUnsettled (Running attempt) = Unit {0}
IsUnsettled (FinishedFate attempt) = ⊥
IsUnsettled DeadFate = ⊥

-- a line with its line feed
abbrev pub line_printed : CertLine → List ℕ
line_printed line = line_text line ++ 10 ∷ []

-- what is printed of a certificate
abbrev pub certificate_printed : List CertLine → List ℕ
certificate_printed lines = codes "ok EXPLAIN " ++ decimal (length lines) ++ 10 ∷ [] ++ flat_map line_printed lines

-- what is printed where this many of the lines, from the first on, are justified
abbrev pub verdict_printed : ℕ → ℕ → List ℕ
verdict_printed good total = if good == total then codes "ok VERIFY " ++ decimal good ++ 10 ∷ [] else codes "no STEP "
    ++ decimal (good + 1) ++ 10 ∷ []

-- a verdict on this many lines, of which this many are justified from the first on: its text, and whether it is a
-- refusal
pub record IsVerdict (good total : ℕ) (text : List ℕ) (refused : Bool) : Type 0 where
  pub within : good ≤ total
  pub printed : text ≡ verdict_printed good total
  pub judged : refused ≡ (if good == total then false else true)
