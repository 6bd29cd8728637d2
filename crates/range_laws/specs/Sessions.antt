-- The transactions that a session makes: commands with words in range make them, and so they are in range.
use Rattle.std.specs.Prelude.{ℕ, List}
use Rattle.flow_core.specs.Summaries.{Summary, summary}
use Rattle.flow_core.specs.declared.state.Core.{Core}
use Rattle.flow_disk.specs.Images.{Image}
use Rattle.flow_disk.specs.declared.disk.Slot.{Slot}
use Rattle.flow_model.specs.declared.transactions.Transaction.{Transaction}
use Rattle.flow_session.specs.Asking.{AsksOf}
use Rattle.flow_session.specs.Histories.{AreInRangeBehind}
use Rattle.flow_session.specs.Inputs.{Given}
use Rattle.flow_session.specs.Leading.{LeadsBy}
use Rattle.flow_session.specs.Scripts.{ServesAll}
use Rattle.flow_session.specs.Serving.{Makes}
use Rattle.flow_session.specs.declared.serving.Session.{Session}
use Rattle.machine_laws.specs.Viewed.{view}
use Rattle.machine_laws.specs.WholeStates.{IsWhole}
use Rattle.range_laws.specs.Standing.{HasNoZero, StaysInBounds}
use Rattle.range_laws.specs.Words.{MadeByWords}

-- Where an input of a session asks for transactions, and they lead from its state to another one, commands with words in
-- range make them: in a whole state whose roots are counted from 1.
abbrev pub AskedAreWorded : Type 0
AskedAreWorded =
    (s : Session) (input : Given) (ts : List Transaction) (c : Core) → AsksOf s input ts → LeadsBy s.core ts c
    → IsWhole s.core → HasNoZero (view s.core) → MadeByWords (view s.core) ts (view c)

-- Whether they lead to a state or not, each of them is in range under its number: so also what a call makes that fails.
abbrev pub AskedAreInRange : Type 0
AskedAreInRange =
    (s : Session) (input : Given) (ts : List Transaction) → AsksOf s input ts → IsWhole s.core
    → StaysInBounds (view s.core) → AreInRangeBehind s.core.number ts

-- Commands with words in range make transactions that lead from a state of the engine to another one: each is in range
-- under its number, and the last state is within its bounds.
pub record MakesInRange (c : Core) (ts : List Transaction) (c' : Core) : Type 0 where
  pub leads : LeadsBy c ts c'
  pub made : MadeByWords (view c) ts (view c')
  pub in_range : AreInRangeBehind c.number ts
  pub bounded : StaysInBounds (view c')

-- The transactions that a script makes, of which a crash at any moment leaves a front part, are so, in a session whose
-- state is whole and within its bounds.
abbrev pub ScriptsMakeInRange : {J : Type 0} → Type 0 → (J → Summary → Type 0) → (J → ℕ) → (J → ℕ → Image → Type 0)
    → (J → Slot × ℕ) → (J → J → Summary → Type 0) → Type 0
ScriptsMakeInRange {J} tells holds moment left_since place moved =
    (s : Session) (j : J) (inputs : List Given) (replies : List (List ℕ)) (s' : Session) (j' : J)
    → (tells → holds j (summary s.core))
    → ServesAll tells holds moment left_since place moved s j inputs replies s' j' → IsWhole s.core
    → StaysInBounds (view s.core)
    → Makes tells moment left_since j j' (summary s.core) (λ ts. MakesInRange s.core ts s'.core)
