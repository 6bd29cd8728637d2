-- Each transaction by itself is the step of the machine, where the state has what the transaction needs.
use Rattle.std.specs.Prelude.{◌≡◌, ℕ, false, Option, Some, None, option_map, List}
use Rattle.containers.specs.Settings.{filled}
use Rattle.flow_core.specs.Answers.{instance_of}
use Rattle.flow_core.specs.Driving.{templates, item_of, IsNewestVersion, RunsAt}
use Rattle.flow_core.specs.Shelving.{performer_named}
use Rattle.flow_model.specs.declared.instances.Who.{Who}
use Rattle.machine.specs.States as m
use Rattle.navigator.specs.Items.{Entry}
use Rattle.flow_core.specs.declared.state.Core.{Core}
use Rattle.flow_model.specs.Containers.{fresh}
use Rattle.flow_model.specs.declared.instances.Message.{Message}
use Rattle.flow_model.specs.declared.instances.Path.{Path}
use Rattle.flow_model.specs.declared.names.Name.{Name}
use Rattle.flow_model.specs.declared.transactions.Setting.{Setting}
use Rattle.flow_model.specs.declared.transactions.Transaction.{Transaction}
use Rattle.flow_model.specs.declared.transactions.Transaction.TheVariants.{Import, Start, Turn, Claim, Release}
use Rattle.flow_model.specs.declared.transactions.Transaction.TheVariants.{Transfer, Take, Done, Force, Restart}
use Rattle.flow_model.specs.declared.transactions.Transaction.TheVariants.{Suspend, Resume, Terminate, Delete, Clock}
use Rattle.machine.specs.Imports.{Added, nothing_added}
use Rattle.machine.specs.Steps.{after}
use Rattle.machine_scopes.specs.Turns.{MeetsMessage, MeetsItem, MeetsHold}
use Rattle.recover_queue.specs.Queues.{root_of as root_of_message}
use Rattle.machine_laws.specs.Viewed.{view, entry_of, Does, TakesExactly, CompletesExactly, WhereLive, HasGraph}
use Rattle.machine_laws.specs.Viewed.{IfThere}

-- a transaction that adds nothing to the library is the step of the machine
abbrev pub IsStep : Core → Transaction → Core → Type 0
IsStep c t c' = view c' ≡ after nothing_added t (view c)

-- a Clock
abbrev pub ClocksAreSteps : Type 0
ClocksAreSteps = (c c' : Core) (minutes : ℕ) → Does c (Clock minutes) nothing_added c' → IsStep c (Clock minutes) c'

-- a Suspend
abbrev pub SuspendsAreSteps : Type 0
SuspendsAreSteps = (c c' : Core) (root : ℕ) → Does c (Suspend root) nothing_added c' → IsStep c (Suspend root) c'

-- a Resume
abbrev pub ResumesAreSteps : Type 0
ResumesAreSteps = (c c' : Core) (root : ℕ) → Does c (Resume root) nothing_added c' → IsStep c (Resume root) c'

-- a Terminate
abbrev pub TerminatesAreSteps : Type 0
TerminatesAreSteps = (c c' : Core) (root : ℕ) → Does c (Terminate root) nothing_added c' → IsStep c (Terminate root) c'

-- a Delete
abbrev pub DeletesAreSteps : Type 0
DeletesAreSteps = (c c' : Core) (root : ℕ) → Does c (Delete root) nothing_added c' → IsStep c (Delete root) c'

-- an Import, whatever it adds
abbrev pub ImportsAreSteps : Type 0
ImportsAreSteps =
    (c c' : Core) (text : List ℕ) (added : Added) → Does c (Import text) added c'
    → view c' ≡ after added (Import text) (view c)

-- a Claim, where the scope of its item is there
abbrev pub ClaimsAreSteps : Type 0
ClaimsAreSteps =
    (c c' : Core) (item : Path) (who : Name)
    → IfThere (λ i. HasGraph (templates c) (λ g. MeetsHold (templates c) item.parts g i.scope) i)
    (instance_of c item.root)
    → Does c (Claim item who) nothing_added c' → IsStep c (Claim item who) c'

-- a Turn, where the scope of its message has what the message needs, and what is put on the queues is what follows
abbrev pub TurnsAreSteps : Type 0
TurnsAreSteps =
    (c c' : Core) (queue : ℕ) (message : Message) (does : Does c (Turn queue message) nothing_added c')
    → WhereLive (TakesExactly (templates c) c.clock message does.drives.given)
    (instance_of c (root_of_message message)) (instance_of c' (root_of_message message))
    → IfThere (λ i. i.terminated ≡ false → HasGraph (templates c) (λ g. MeetsMessage
    (templates c) message g i.scope) i) (instance_of c (root_of_message message))
    → IsStep c (Turn queue message) c'

-- a completion of an item that is there, where its scope has what the completion needs, and what is put on the queues
-- is
-- what follows
abbrev pub CompletesStep : Core → Transaction → Path → Option Name → List Setting → Core → Type 0
CompletesStep c t item performer settings c' =
    (does : Does c t nothing_added c') (e : Entry) → item_of c item ≡ Some e
    → m.item_of (view c) item ≡ Some (entry_of e)
    → WhereLive (CompletesExactly (templates c) c.clock item
    (record { output = filled settings (fresh e.activity.output); performer = performer }) does.drives.given)
    (instance_of c item.root) (instance_of c' item.root)
    → IfThere (λ i. HasGraph (templates c) (λ g. MeetsItem (templates c)
    (record { output = filled settings (fresh e.activity.output); performer = performer }) item g i.scope) i)
    (instance_of c item.root)
    → IsStep c t c'

-- a Done
abbrev pub DonesAreSteps : Type 0
DonesAreSteps =
    (c c' : Core) (item : Path) (who : Who) (settings : List Setting)
    → CompletesStep c (Done item who settings) item (performer_named who) settings c'

-- a Force
abbrev pub ForcesAreSteps : Type 0
ForcesAreSteps =
    (c c' : Core) (item : Path) (settings : List Setting) → CompletesStep c (Force item settings) item None settings c'

-- a Start of the newest version, which its root runs, under a number that no live root has
abbrev pub StartsAreSteps : Type 0
StartsAreSteps =
    (c c' : Core) (root : ℕ) (process : Name) (version : ℕ) (starter : Name) (key : Option Name)
    (settings : List Setting) → Does c (Start root process version starter key settings) nothing_added c'
    → instance_of c root ≡ None → (place : ℕ) → IsNewestVersion c.store process version place
    → RunsAt place (instance_of c' root) → IsStep c (Start root process version starter key settings) c'

-- the scope of the item is there
abbrev pub HasScope : Core → Path → Type 0
HasScope c item =
    IfThere (λ i. HasGraph (templates c) (λ g. MeetsHold (templates c) item.parts g i.scope) i)
    (instance_of c item.root)

-- a Release, where the scope of its item is there
abbrev pub ReleasesAreSteps : Type 0
ReleasesAreSteps =
    (c c' : Core) (item : Path) (who : Name) → HasScope c item → Does c (Release item who) nothing_added c'
    → IsStep c (Release item who) c'

-- a Transfer, where the scope of its item is there
abbrev pub TransfersAreSteps : Type 0
TransfersAreSteps =
    (c c' : Core) (item : Path) (who to : Name) → HasScope c item → Does c (Transfer item who to) nothing_added c'
    → IsStep c (Transfer item who to) c'

-- a Take, where the scope of its item is there
abbrev pub AgentTakesAreSteps : Type 0
AgentTakesAreSteps =
    (c c' : Core) (item : Path) (take : ℕ) → HasScope c item → Does c (Take item take) nothing_added c'
    → IsStep c (Take item take) c'

-- a Restart, where the scope of its item is there
abbrev pub RestartsAreSteps : Type 0
RestartsAreSteps =
    (c c' : Core) (item : Path) → HasScope c item → Does c (Restart item) nothing_added c' → IsStep c (Restart item) c'

-- the machine finds the item of a path where the engine finds it, and sees the same of it
abbrev pub ItemsAreSeen : Type 0
ItemsAreSeen = (c : Core) (item : Path) → m.item_of (view c) item ≡ option_map entry_of (item_of c item)
