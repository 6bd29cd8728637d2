-- Which live root has a key: the engine's table of keys says what the live transactions say, and goes on to say it.
use Rattle.std.specs.Prelude.{◌≡◌, ℕ, Option, Some, None, List, All}
use Rattle.core_laws.specs.RightStates.{IsRightState}
use Rattle.flow_core.specs.Admitting.{root_with, IsAdmitted}
use Rattle.flow_core.specs.Allowing.{IsAllowed, IsBlank}
use Rattle.flow_core.specs.Judgements.{IsVerdict}
use Rattle.flow_core.specs.Keys.{holder, key_of}
use Rattle.flow_core.specs.declared.judging.Verdict.TheVariants.{Do}
use Rattle.flow_core.specs.declared.state.Core.{Core}
use Rattle.flow_model.specs.declared.commands.Command.{Command}
use Rattle.flow_model.specs.declared.names.Name.{Name}
use Rattle.flow_model.specs.declared.transactions.Transaction.{Transaction}
use Rattle.flow_model.specs.declared.transactions.Transaction.TheVariants.{Start}
use Rattle.machine.specs.States.{root_with_key}
use Rattle.view_laws.specs.Runs.{Event}
use Rattle.machine_laws.specs.Applied.{Applied, Adopted, IsGood}

-- the root of a START has the key that the START names
abbrev pub HasItsKey : (ℕ → Option Name) → Transaction → Type 0
HasItsKey key_of_root (Start root process version starter key settings) = key_of_root root ≡ key
HasItsKey key_of_root t = Unit {0}

-- the keys are the machine's: the table leads from each key to the root of the last live START with it, the root of
-- each live START has the key of that, and the table leads from the key of a live root to that root
pub record AreKeyed (c : Core) : Type 0 where
  pub holders : (key : Name) → holder c key ≡ root_with_key key c.live.items
  pub starts : All (λ n. HasItsKey (key_of c) n.transaction) c.live.items
  pub held : (root : ℕ) (key : Name) → key_of c root ≡ Some key → holder c key ≡ Some root

-- a START names no key that a live root has
abbrev pub HasFreeKey : Core → Transaction → Type 0
HasFreeKey c (Start root process version starter key settings) = root_with c key ≡ None
HasFreeKey c t = Unit {0}

-- before any transaction the keys are the machine's
abbrev pub BlanksAreKeyed : Type 0
BlanksAreKeyed = (c : Core) → IsBlank c → AreKeyed c

-- in a right state they stay so with what `apply` does with a transaction that may come
abbrev pub KeysStay : Type 0
KeysStay =
    (c c' : Core) (t : Transaction) (runs : ℕ → List Event) → IsRightState c runs → IsAllowed c t → IsGood c t
    → HasFreeKey c t → AreKeyed c → Applied c t c' → AreKeyed c'

-- they stay so with what `adopt` does with a record that may come
abbrev pub KeysStayAdopted : Type 0
KeysStayAdopted =
    (c c' : Core) (number : ℕ) (t : Transaction) (runs : ℕ → List Event) → IsRightState c runs → IsAllowed c t
    → IsGood c t → HasFreeKey c t → AreKeyed c → Adopted c number t c' → AreKeyed c'

-- the transaction to which a command is judged names no key that a live root has
abbrev pub VerdictsHaveFreeKeys : Type 0
VerdictsHaveFreeKeys = (c : Core) (command : Command) (t : Transaction) → IsVerdict c command (Do t) → HasFreeKey c t

-- nor does the transaction of a record that is admitted
abbrev pub AdmittedHaveFreeKeys : Type 0
AdmittedHaveFreeKeys = (c : Core) (number : ℕ) (t : Transaction) → IsAdmitted c number t → HasFreeKey c t
