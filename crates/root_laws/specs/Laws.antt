-- Laws of one root: it is right once it has started, and goes on being right whatever becomes of it.
use Rattle.std.specs.Prelude.{◌≡◌, ℕ, Bool, true, false, Some, List, [], ◌∷◌, slice_get, IsTrue}
use Rattle.activity_states.specs.States.{fate_of}
use Rattle.blocks_subprocs.specs.Ends.{ends_of}
use Rattle.flow_model.specs.Fates.{is_settled}
use Rattle.flow_model.specs.ScopeContainers.{graph_of}
use Rattle.flow_model.specs.Scopes.{tree_ends}
use Rattle.flow_model.specs.declared.graphs.Container.{Container}
use Rattle.flow_model.specs.declared.graphs.Graph.{Graph}
use Rattle.flow_model.specs.declared.graphs.Template.{Template}
use Rattle.flow_model.specs.declared.instances.Message.{Message}
use Rattle.flow_model.specs.declared.instances.Message.TheVariants.{Begin}
use Rattle.flow_model.specs.declared.instances.Path.{Path}
use Rattle.flow_model.specs.declared.instances.Phase.TheVariants.{Ended}
use Rattle.flow_model.specs.declared.names.Name.{Name}
use Rattle.library_laws.specs.Larger.{Agrees}
use Rattle.navigator.specs.Driven.{IsServedRoot}
use Rattle.navigator.specs.Giving.{root_named, AreOf}
use Rattle.navigator.specs.Instances.{IsStarted}
use Rattle.navigator.specs.Items.{Entry, stand, entry_at, phase_of}
use Rattle.navigator.specs.Showing.{note_in}
use Rattle.navigator.specs.declared.instance.HoldChange.{HoldChange}
use Rattle.navigator.specs.declared.instance.Instance.{Instance}
use Rattle.navigator.specs.declared.scopes.ScopeState.{out-ScopeState}
use Rattle.root_laws.specs.Becoming.{TakesIn, CompletesIn, HoldsIn}
use Rattle.root_laws.specs.RightRoots.{Queued, none_queued, after_put, after_taken, AgreesOn, root_in, IsRight}
use Rattle.view_laws.specs.LegalRuns.{Awaits}
use Rattle.view_laws.specs.Messages.{Note, BeginNote}
use Rattle.view_laws.specs.Runs.{Event, Started, Turned, Completed, Held, Stopped, running, seen, fated}

-- ---- it starts, and goes on

-- a root that was started is right once the BEGIN of its scope is put
abbrev pub StartsRight : Type 0
StartsRight =
    (ts : List Template) (q : Note → ℕ) (queue_of : Message → ℕ) (t number depth : ℕ) (g : Graph) (name : Name)
    (input : Container) (i : Instance)
    → graph_of ts t ≡ Some g → IsServedRoot (root_in ts depth g input) → IsStarted ts t number name input i
    → queue_of (Begin (record { root = number; parts = [] })) ≡ q (BeginNote [])
    → IsRight ts q (Started ∷ []) (after_put queue_of (Begin (record { root = number; parts = [] }) ∷ []) none_queued)
    input i

-- it stays right when an item of it is held or given back
abbrev pub HoldsRight : Type 0
HoldsRight =
    (ts : List Template) (q : Note → ℕ) (h : List Event) (queued : Queued) (input : Container) (i i' : Instance)
    (item : Path) (change : HoldChange) (held : Bool)
    → IsRight ts q h queued input i → HoldsIn ts item change i i'
    → IsRight ts q (Held item.parts held ∷ h) queued input i'

-- when it is terminated
abbrev pub StopsRight : Type 0
StopsRight =
    (ts : List Template) (q : Note → ℕ) (h : List Event) (queued : Queued) (input : Container) (i i' : Instance)
    → IsRight ts q h queued input i → i' ≡ record i { terminated = true } → IsRight ts q (Stopped ∷ h) queued input i'

-- and when it is suspended or resumed
abbrev pub ModeRight : Type 0
ModeRight =
    (ts : List Template) (q : Note → ℕ) (h : List Event) (queued : Queued) (input : Container) (i i' : Instance)
    (suspended : Bool)
    → IsRight ts q h queued input i → i' ≡ record i { suspended = suspended } → IsRight ts q h queued input i'

-- it stays right when the front of a queue is taken, and what that gives is put
abbrev pub TurnsRight : Type 0
TurnsRight =
    (ts : List Template) (q : Note → ℕ) (queue_of : Message → ℕ) (h : List Event) (queued : Queued) (input : Container)
    (i i' : Instance) (n : ℕ) (message : Message) (given : List Message)
    → (right : IsRight ts q h queued input i) → slice_get (queued n) 0 ≡ Some message → TakesIn ts message given i i'
    → AgreesOn ts right.graph queue_of q given
    → (note : Note) × (note_in ts right.graph message ≡ Some note)
    × IsRight ts q (Turned note ∷ h) (after_put queue_of given (after_taken n queued)) input i'

-- and when an item of it that is awaited is completed, and what that gives is put
abbrev pub CompletesRight : Type 0
CompletesRight =
    (ts : List Template) (q : Note → ℕ) (queue_of : Message → ℕ) (h : List Event) (queued : Queued) (input : Container)
    (i i' : Instance) (item : Path) (out : Container) (given : List Message)
    → (right : IsRight ts q h queued input i) → i.terminated ≡ false
    → Awaits ts right.depth (seen h) right.graph input item.parts → CompletesIn ts item out given i i'
    → AgreesOn ts right.graph queue_of q given
    → IsRight ts q (Completed (record { item = item; output = out }) ∷ h) (after_put queue_of given queued) input i'

-- what it gives then names its root, as that of its message or item
abbrev pub TurnsNamed : Type 0
TurnsNamed =
    (ts : List Template) (q : Note → ℕ) (h : List Event) (queued : Queued) (input : Container) (i i' : Instance) (n : ℕ)
    (message : Message) (given : List Message)
    → IsRight ts q h queued input i → slice_get (queued n) 0 ≡ Some message → TakesIn ts message given i i'
    → AreOf (root_named message) given

abbrev pub CompletesNamed : Type 0
CompletesNamed =
    (ts : List Template) (q : Note → ℕ) (h : List Event) (queued : Queued) (input : Container) (i i' : Instance)
    (item : Path) (out : Container) (given : List Message)
    → (right : IsRight ts q h queued input i) → i.terminated ≡ false
    → Awaits ts right.depth (seen h) right.graph input item.parts
    → CompletesIn ts item out given i i' → AreOf item.root given

-- it stays right in a larger library
abbrev pub ImportsRight : Type 0
ImportsRight =
    (ts ts' : List Template) (q : Note → ℕ) (h : List Event) (queued : Queued) (input : Container) (i : Instance)
    → Agrees ts ts' → IsRight ts q h queued input i → IsRight ts' q h queued input i

-- ---- what is said of a root that is right

-- whatever its state says of how an activity of its scope has ended is so by the completions alone
abbrev pub RightRootsAreSound : Type 0
RightRootsAreSound =
    (ts : List Template) (q : Note → ℕ) (h : List Event) (queued : Queued) (input : Container) (i : Instance) (a : ℕ)
    → (right : IsRight ts q h queued input i)
    → IsTrue (is_settled (ends_of (out-ScopeState i.scope).ends.items a))
    → ends_of (out-ScopeState i.scope).ends.items a ≡ tree_ends ts right.depth (fated (running h)) right.graph input a

-- where it isn't terminated and no message of it is queued, it says all that the completions tell
abbrev pub QuietRootsAreWhole : Type 0
QuietRootsAreWhole =
    (ts : List Template) (q : Note → ℕ) (h : List Event) (queued : Queued) (input : Container) (i : Instance) (a : ℕ)
    → (right : IsRight ts q h queued input i)
    → i.terminated ≡ false → ((n : ℕ) → queued n ≡ [])
    → ends_of (out-ScopeState i.scope).ends.items a ≡ tree_ends ts right.depth (fated h) right.graph input a

-- an item of it that is ready or running, where it isn't terminated, is awaited
abbrev pub OpenItemsAreAwaited : Type 0
OpenItemsAreAwaited =
    (ts : List Template) (q : Note → ℕ) (h : List Event) (queued : Queued) (input : Container) (i : Instance)
    (item : Path) (e : Entry) → (right : IsRight ts q h queued input i)
    → i.terminated ≡ false → entry_at ts item.parts (stand right.graph i.scope) ≡ Some e
    → (phase_of (fate_of e.state) e.attempt ≡ Ended → ⊥)
    → Awaits ts right.depth (seen h) right.graph input item.parts
