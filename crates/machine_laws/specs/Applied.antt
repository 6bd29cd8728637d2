-- What `apply` and `adopt` owe of a transaction, and that this is a step of the machine.
use Rattle.std.specs.Prelude.{◌≡◌, ℕ, List}
use Rattle.core_laws.specs.RightStates.{IsRightState}
use Rattle.flow_core.specs.Admitting.{IsAdmitted, IsPlace}
use Rattle.flow_core.specs.Allowing.{IsAllowed}
use Rattle.flow_core.specs.Driving.{Drives, LibraryAfter, clock_after, IsNewestVersion}
use Rattle.flow_core.specs.Judgements.{IsVerdict}
use Rattle.flow_core.specs.Keys.{KeysAfter}
use Rattle.flow_core.specs.Shelving.{IsExact}
use Rattle.flow_core.specs.Summaries.{summary, next, taken_up, last_kept, last_number}
use Rattle.flow_core.specs.declared.judging.Verdict.TheVariants.{Do}
use Rattle.flow_core.specs.declared.state.Core.{Core}
use Rattle.flow_model.specs.declared.commands.Command.{Command}
use Rattle.flow_model.specs.declared.transactions.Transaction.{Transaction}
use Rattle.flow_model.specs.declared.transactions.Transaction.TheVariants.{Import, Start}
use Rattle.machine.specs.Steps.{Steps}
use Rattle.template_check.specs.Judged.{IsFaultless}
use Rattle.view_laws.specs.Runs.{Event}
use Rattle.machine_laws.specs.Right.{HoldsOpen}
use Rattle.machine.specs.Scripts.{StepsAs}
use Rattle.machine_laws.specs.Viewed.{view}

-- the clauses of `apply` that fix the next state
pub record Applied (c : Core) (t : Transaction) (c' : Core) : Type 0 where
  pub drives : Drives c t c'
  pub came : summary c' ≡ next t (summary c)
  pub clock : c'.clock ≡ clock_after t c.clock
  pub store : LibraryAfter t c.store c'.store
  pub keys : KeysAfter c t c'
  pub exact : IsExact c t c'

-- the clauses of `adopt` that fix the next state, where the record has this number
pub record Adopted (c : Core) (number : ℕ) (t : Transaction) (c' : Core) : Type 0 where
  pub drives : Drives c t c'
  pub taken : summary c' ≡ taken_up c.kept (record { number = number; transaction = t }) (summary c)
  pub kept_number : c'.kept_number ≡ last_number c.kept number c.kept_number
  pub kept_root : c'.kept_root ≡ last_kept c.kept (record { number = number; transaction = t }) c.kept_root
  pub clock : c'.clock ≡ clock_after t c.clock
  pub store : LibraryAfter t c.store c'.store
  pub keys : KeysAfter c t c'
  pub exact : IsExact c t c'

-- what `judge` and `adopt` have tested: the text of an Import breaks no rule, a Start has the newest version
abbrev pub IsGood : Core → Transaction → Type 0
IsGood c (Import text) = IsFaultless c.store text
IsGood c (Start root process version starter key settings) =
    (place : ℕ) × IsNewestVersion c.store process version place
IsGood c t = Unit {0}

-- in a right state, what `apply` does with a transaction that may come is a step of the machine
abbrev pub AppliedAreSteps : Type 0
AppliedAreSteps =
    (c c' : Core) (t : Transaction) (runs : ℕ → List Event) → IsRightState c runs → IsAllowed c t → HoldsOpen c t
    → IsGood c t → Applied c t c' → Steps (view c) t (view c')

-- in a state in order, the transaction to which a command is judged has been tested so
abbrev pub VerdictsAreGood : Type 0
VerdictsAreGood =
    (c : Core) (command : Command) (t : Transaction) → IsVerdict c command (Do t) → IsGood c t

-- so has the transaction of a record that is admitted
abbrev pub AdmittedAreGood : Type 0
AdmittedAreGood = (c : Core) (number : ℕ) (t : Transaction) → IsAdmitted c number t → IsGood c t

-- in a right state, what `adopt` does with a transaction that may come is a step under the number of the record, where
-- the record may stand there
abbrev pub AdoptedAreSteps : Type 0
AdoptedAreSteps =
    (c c' : Core) (number : ℕ) (t : Transaction) (runs : ℕ → List Event) → IsRightState c runs → IsAllowed c t
    → HoldsOpen c t → IsGood c t → IsPlace c number t → Adopted c number t c'
    → StepsAs number (view c) t (view c')
