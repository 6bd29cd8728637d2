-- In a right state, a transaction that is allowed is the step of the machine.
use Rattle.std.specs.Prelude.{◌≡◌, ℕ, Option, Some, None, List}
use Rattle.containers.specs.Settings.{filled}
use Rattle.core_laws.specs.RightStates.{IsRightState}
use Rattle.flow_core.specs.Allowing.{IsAllowed, IsOpen}
use Rattle.flow_core.specs.Answers.{instance_of}
use Rattle.flow_core.specs.Driving.{templates, item_of, IsNewestVersion, RunsAt}
use Rattle.flow_core.specs.Shelving.{performer_named}
use Rattle.flow_core.specs.declared.state.Core.{Core}
use Rattle.flow_model.specs.Containers.{fresh}
use Rattle.flow_model.specs.declared.instances.Message.{Message}
use Rattle.flow_model.specs.declared.instances.Path.{Path}
use Rattle.flow_model.specs.declared.names.Name.{Name}
use Rattle.flow_model.specs.declared.transactions.Setting.{Setting}
use Rattle.flow_model.specs.declared.transactions.Transaction.{Transaction}
use Rattle.flow_model.specs.declared.transactions.Transaction.TheVariants.{Import, Start, Turn, Claim, Release}
use Rattle.flow_model.specs.declared.transactions.Transaction.TheVariants.{Transfer, Take, Done, Force, Restart}
use Rattle.machine.specs.Imports.{Added, nothing_added}
use Rattle.machine.specs.Steps.{after}
use Rattle.navigator.specs.Items.{Entry}
use Rattle.recover_queue.specs.Queues.{root_of as root_of_message}
use Rattle.view_laws.specs.Runs.{Event}
use Rattle.machine_laws.specs.Viewed.{view, Does, TakesExactly, CompletesExactly, WhereLive}

-- the newest template of the name of a Start has its version, and the root that it starts runs that template
pub record IsPlaced (c : Core) (root : ℕ) (process : Name) (version : ℕ) (c' : Core) : Type 0 where
  pub place : ℕ
  pub newest : IsNewestVersion c.store process version place
  pub runs : RunsAt place (instance_of c' root)

-- an item that is there is completed so, and these messages follow
abbrev pub CompletesIfThere : Core → Path → Option Name → List Setting → List Message → Core → Type 0
CompletesIfThere c item performer settings given c' =
    (e : Entry) → item_of c item ≡ Some e
    → WhereLive (CompletesExactly (templates c) c.clock item
    (record { output = filled settings (fresh e.activity.output); performer = performer }) given)
    (instance_of c item.root) (instance_of c' item.root)

-- the transactions of which more has to be said: a Start, a Turn and the two completions
abbrev pub IsExact : Core → Transaction → List Message → Core → Type 0
IsExact c (Start root process version starter key settings) given c' = IsPlaced c root process version c'
IsExact c (Turn queue message) given c' =
    WhereLive (TakesExactly (templates c) c.clock message given) (instance_of c (root_of_message message))
    (instance_of c' (root_of_message message))
IsExact c (Done item who settings) given c' = CompletesIfThere c item (performer_named who) settings given c'
IsExact c (Force item settings) given c' = CompletesIfThere c item None settings given c'
IsExact c t given c' = Unit {0}

-- a change of a hold is of an open item
abbrev pub HoldsOpen : Core → Transaction → Type 0
HoldsOpen c (Claim item who) = IsOpen c item
HoldsOpen c (Release item who) = IsOpen c item
HoldsOpen c (Transfer item who to) = IsOpen c item
HoldsOpen c (Take item take) = IsOpen c item
HoldsOpen c (Restart item) = IsOpen c item
HoldsOpen c t = Unit {0}

-- no transaction but an Import adds anything
abbrev pub AddsOnly : Transaction → Added → Type 0
AddsOnly (Import text) added = Unit {0}
AddsOnly t added = added ≡ nothing_added

-- in a right state, a transaction that is allowed does the step of the machine
abbrev pub AllowedAreSteps : Type 0
AllowedAreSteps =
    (c c' : Core) (t : Transaction) (added : Added) (runs : ℕ → List Event) → IsRightState c runs → IsAllowed c t
    → HoldsOpen c t → AddsOnly t added → (does : Does c t added c') → IsExact c t does.drives.given c'
    → view c' ≡ after added t (view c)
