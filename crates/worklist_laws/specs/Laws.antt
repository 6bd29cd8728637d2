-- Laws of the worklists of a state: they hold exactly its open manual items, whatever transactions come.
use Rattle.std.specs.Prelude.{◌≡◌, ℕ, suc, ◌<◌, ◌≤◌, Some, List}
use Rattle.core_laws.specs.RightStates.{IsRightState, Makes}
use Rattle.flow_core.specs.Admitting.{IsAdmitted}
use Rattle.flow_core.specs.Allowing.{IsBlank}
use Rattle.flow_core.specs.Judgements.{IsVerdict}
use Rattle.flow_core.specs.Queries.{IsAnswer}
use Rattle.flow_core.specs.Shelving.{rank_on, Shelves}
use Rattle.flow_core.specs.declared.judging.Verdict.TheVariants.{Do}
use Rattle.flow_core.specs.declared.state.Core.{Core}
use Rattle.flow_model.specs.declared.commands.Command.{Command}
use Rattle.flow_model.specs.declared.commands.Query.TheVariants as ask
use Rattle.flow_model.specs.declared.graphs.Graph.{Graph}
use Rattle.flow_model.specs.declared.graphs.PersonDef.{PersonDef}
use Rattle.flow_model.specs.declared.graphs.Template.{Template}
use Rattle.flow_model.specs.declared.instances.Part.{Part}
use Rattle.flow_model.specs.declared.instances.WorkLine.{WorkLine}
use Rattle.flow_model.specs.declared.transactions.Transaction.{Transaction}
use Rattle.navigator.specs.Items.{Entry, stand, entry_at}
use Rattle.navigator.specs.declared.scopes.ScopeState.{ScopeState}
use Rattle.process_rules.specs.Imports.{latest_person}
use Rattle.staff_worklists.specs.Listing.{IsWorklist}
use Rattle.view_laws.specs.Runs.{Event}
use Rattle.worklist_laws.specs.Asking.{AsksOpen}
use Rattle.worklist_laws.specs.Exact.{IsExact, ListsExactly}
use Rattle.worklist_laws.specs.Shelved.{IsRightAndListed, IsShelved}

-- two items of a root that are there at the same rank are one
abbrev pub RanksDiffer : Type 0
RanksDiffer =
    (ts : List Template) (g : Graph) (s s' : ScopeState) (item item' : List Part) (e e' : Entry)
    → entry_at ts item (stand g s) ≡ Some e → entry_at ts item' (stand g s') ≡ Some e'
    → rank_on ts item g ≡ rank_on ts item' g → item ≡ item'

-- the worklists of a blank state hold exactly its open manual items: none
abbrev pub BlankIsShelved : Type 0
BlankIsShelved = (c : Core) → IsBlank c → IsShelved c

-- so they go on doing with each transaction that may be, where it does to the shelves what is said of it
abbrev pub StaysShelved : Type 0
StaysShelved =
    (c c' : Core) (t : Transaction) (runs : ℕ → List Event) → IsRightState c runs → IsShelved c → Makes c t c'
    → Shelves c t c' → AsksOpen c t
    → IsShelved c'

-- a command that gives a transaction has asked that its item is open
abbrev pub VerdictsAskOpen : Type 0
VerdictsAskOpen = (c : Core) (command : Command) (t : Transaction) → IsVerdict c command (Do t)
    → AsksOpen c t

-- and so has a record that is admitted
abbrev pub AdmittedAskOpen : Type 0
AdmittedAskOpen = (c : Core) (number : ℕ) (t : Transaction) → IsAdmitted c number t → AsksOpen c t

-- a transaction of a history: it may be, does so to the shelves, and asked what it has to
pub record Lists (c : Core) (t : Transaction) (c' : Core) : Type 0 where
  pub makes : Makes c t c'
  pub shelves : Shelves c t c'
  pub asks : AsksOpen c t

-- the worklists hold exactly the open manual items along a history, after each of its transactions
abbrev pub HistoriesStayShelved : Type 0
HistoriesStayShelved =
    (states : ℕ → Core) (made : ℕ → Transaction) (runs : ℕ → List Event) (count : ℕ) → IsRightState (states 0) runs
    → IsShelved (states 0)
    → ((n : ℕ) → n < count → Lists (states n) (made n) (states (suc n)))
    → (n : ℕ) → n ≤ count → IsShelved (states n)

-- then the worklist of a person is exact
abbrev pub WorklistsAreExact : Type 0
WorklistsAreExact = (c : Core) (person : PersonDef) (lines : List WorkLine) → IsShelved c
    → IsWorklist c.worklists.shelves person lines → IsExact c person lines

-- and what WORKLIST replies is exact, in each state that is right and listed
abbrev pub RepliesAreExact : Type 0
RepliesAreExact = (c : Core) (name text : List ℕ) → IsRightAndListed c → IsAnswer c (ask.Worklist name) text
    → ListsExactly c name (latest_person c.store name) text
