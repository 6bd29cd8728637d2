-- The scope of a root along a run of its events: each does to it what its calls do.
use Rattle.std.specs.Prelude.{◌≡◌, ℕ, false, Some, List, [], ◌∷◌, ◌++◌, IsTrue}
use Rattle.activity_states.specs.declared.states.Completed.{Completed as Outcome}
use Rattle.blocks_subprocs.specs.Ends.{ends_of}
use Rattle.fate_laws.specs.WellFormed.{Well}
use Rattle.flow_model.specs.Fates.{is_settled}
use Rattle.flow_model.specs.Scopes.{tree_ends}
use Rattle.flow_model.specs.declared.instances.Fact.{Fact}
use Rattle.flow_model.specs.declared.instances.Message.{Message}
use Rattle.flow_model.specs.declared.instances.Part.{Part}
use Rattle.flow_model.specs.declared.instances.Path.{Path}
use Rattle.navigator.specs.Events.{Completes, Happens, Takes}
use Rattle.navigator.specs.Fresh.{IsFresh}
use Rattle.navigator.specs.Giving.{GivesPut}
use Rattle.navigator.specs.Serving.{Served}
use Rattle.navigator.specs.Showing.{note_in, StaysShown}
use Rattle.navigator.specs.Views.{Shows}
use Rattle.navigator.specs.declared.scopes.ScopeState.{ScopeState, out-ScopeState}
use Rattle.view_laws.specs.Laws.{IsQuiet}
use Rattle.view_laws.specs.LegalRuns.{IsLegal}
use Rattle.view_laws.specs.Messages.{Note}
use Rattle.view_laws.specs.NextEvents.{Aimed}
use Rattle.view_laws.specs.Runs.{Root, Event, Started, Turned, Completed, Held, Stopped, is_stopped, has_started, seen}
use Rattle.view_laws.specs.Runs.{fated}

-- ---- what events do

-- a message that is taken, and what the turn gives
abbrev pub DoesTurn : Root → Note → ScopeState → ScopeState → List Message → Type 0
DoesTurn r m s s' given =
    (clock : ℕ) × (message : Message) × (items : List Path) × (note_in r.templates r.graph message ≡ Some m)
    × Takes r.templates clock message r.graph s s' given items

-- a completion of an item, and what it gives
abbrev pub DoesComplete : Root → Fact → ScopeState → ScopeState → List Message → Type 0
DoesComplete r f s s' given =
    (clock : ℕ) × (c : Outcome) × (items : List Path) × (c.output ≡ f.output)
    × ((around : List Part) (q : Part) → f.item.parts ≡ around ++ q ∷ []
    → Happens r.templates (record { root = f.item.root; parts = around }) clock
    (Completes q.name c) r.graph s s' given items)

abbrev pub Does : Root → Event → ScopeState → ScopeState → Type 0
Does r Started s s' = s' ≡ s
Does r (Turned m) s s' = (given : List Message) × DoesTurn r m s s' given
Does r (Completed f) s s' = (given : List Message) × DoesComplete r f s s' given
Does r (Held p b) s s' = StaysShown r.templates r.graph s s'
Does r Stopped s s' = s' ≡ s

-- the scope of a root after a run, the newest event first
abbrev pub Driven : Root → List Event → ScopeState → Type 0
Driven r [] s = IsFresh r.graph r.input s
Driven r (e ∷ h) s' = (s : ScopeState) × Driven r h s × Does r e s s'

-- ---- what holds of it

-- a root of a process that is well, and served
pub record IsServedRoot (r : Root) : Type 0 where
  pub well : Well r.templates r.depth r.graph
  pub served : Served r.templates r.depth r.graph
  pub aimed : Aimed r.templates r.depth r.graph

-- a run that may be, and where it leaves the scope of its root
pub record IsDriven (r : Root) (q : Note → ℕ) (h : List Event) (s : ScopeState) : Type 0 where
  pub root : IsServedRoot r
  pub legal : IsLegal r q h
  pub runs : is_stopped h ≡ false
  pub driven : Driven r h s

-- the state shows the view of the run
abbrev pub RunsShow : Type 0
RunsShow = (r : Root) (q : Note → ℕ) (h : List Event) (s : ScopeState) → IsDriven r q h s
    → Shows r.templates r.depth (seen h) r.graph r.input s

-- a turn gives what it puts
abbrev pub TurnsGive : Type 0
TurnsGive =
    (r : Root) (q : Note → ℕ) (h : List Event) (s s' : ScopeState) (m : Note) (given : List Message) → IsDriven r q h s
    → IsTrue (has_started h)
    → IsLegal r q (Turned m ∷ h)
    → DoesTurn r m s s' given → GivesPut r h (Turned m) given

-- and so does a completion
abbrev pub CompletionsGive : Type 0
CompletionsGive =
    (r : Root) (q : Note → ℕ) (h : List Event) (s s' : ScopeState) (f : Fact) (given : List Message) → IsDriven r q h s
    → IsTrue (has_started h)
    → IsLegal r q (Completed f ∷ h)
    → DoesComplete r f s s' given → GivesPut r h (Completed f) given

-- whatever the state says of how an activity has ended is so by the completions alone
abbrev pub RunsAreRight : Type 0
RunsAreRight =
    (r : Root) (q : Note → ℕ) (h : List Event) (s : ScopeState) (a : ℕ) → IsDriven r q h s
    → IsTrue (is_settled (ends_of (out-ScopeState s).ends.items a))
    → ends_of (out-ScopeState s).ends.items a ≡ tree_ends r.templates r.depth (fated h) r.graph r.input a

-- with no message queued it says all that the completions tell
abbrev pub QuietRunsAreWhole : Type 0
QuietRunsAreWhole =
    (r : Root) (q : Note → ℕ) (h : List Event) (s : ScopeState) (a : ℕ) → IsDriven r q h s → IsQuiet r q h
    → ends_of (out-ScopeState s).ends.items a ≡ tree_ends r.templates r.depth (fated h) r.graph r.input a
