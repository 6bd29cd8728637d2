-- What a transaction asks of items and roots.
use Rattle.std.specs.Prelude.{◌≡◌, ◌⊎◌, ℕ, Some}
use Rattle.flow_core.specs.Allowing.{mode_in, IsOpen}
use Rattle.flow_core.specs.Answers.{instance_of}
use Rattle.flow_core.specs.declared.state.Core.{Core}
use Rattle.flow_model.specs.declared.instances.Mode.TheVariants as mode
use Rattle.flow_model.specs.declared.transactions.Transaction.{Transaction}
use Rattle.flow_model.specs.declared.transactions.Transaction.TheVariants.{Claim, Release, Transfer, Take, Restart}
use Rattle.flow_model.specs.declared.transactions.Transaction.TheVariants.{Delete}
use Rattle.navigator.specs.declared.instance.Instance.{Instance}

-- a root, where it is live, is done or terminated
abbrev pub IsOver : Core → ℕ → Type 0
IsOver c root = (i : Instance) → instance_of c root ≡ Some i → (mode_in i ≡ mode.Done) ⊎ (mode_in i ≡ mode.Terminated)

-- a change of a hold is of an open item, and a Delete of a root that is over
abbrev pub AsksOpen : Core → Transaction → Type 0
AsksOpen c (Claim item who) = IsOpen c item
AsksOpen c (Release item who) = IsOpen c item
AsksOpen c (Transfer item who to) = IsOpen c item
AsksOpen c (Take item take) = IsOpen c item
AsksOpen c (Restart item) = IsOpen c item
AsksOpen c (Delete root) = IsOver c root
AsksOpen c t = Unit {0}
