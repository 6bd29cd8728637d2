-- What the state of a root shows after an event that may come.
use Rattle.std.specs.Prelude.{◌≡◌, ℕ, ◌≤◌, Bool, Option, Some, None, List, [], ◌∷◌, length, slice_get, option_and_then}
use Rattle.std.specs.List.{Contains}
use Rattle.activity_states.specs.States.{State, fate_of, held, completions}
use Rattle.fate_laws.specs.WellFormed.{Well}
use Rattle.flow_model.specs.ScopeContainers.{graph_in}
use Rattle.flow_model.specs.Scopes.{Known, Start}
use Rattle.flow_model.specs.declared.graphs.Container.{Container}
use Rattle.flow_model.specs.declared.graphs.Graph.{Graph, out-Graph}
use Rattle.flow_model.specs.declared.graphs.Template.{Template}
use Rattle.flow_model.specs.declared.graphs.Work.{Work}
use Rattle.flow_model.specs.declared.instances.Fate.{Fate}
use Rattle.flow_model.specs.declared.instances.Hold.TheVariants.{Nobody}
use Rattle.flow_model.specs.declared.instances.Message.{Message}
use Rattle.flow_model.specs.declared.instances.Message.TheVariants.{Begin, Signal, End}
use Rattle.flow_model.specs.declared.instances.Part.{Part}
use Rattle.flow_model.specs.declared.names.Name.{Name}
use Rattle.navigator.specs.Reading.{place_of}
use Rattle.navigator.specs.Serving.{Served}
use Rattle.navigator.specs.Views.{ShowsNested, ShowsWork, shows_attempt, ShowsWithin, Shows}
use Rattle.navigator.specs.declared.scopes.ActivityState.{ActivityState}
use Rattle.navigator.specs.declared.scopes.NestedState.{NestedState}
use Rattle.navigator.specs.declared.scopes.ScopeState.{ScopeState}
use Rattle.view_laws.specs.Coming.{IsByMessages, Comes, ComesOutput}
use Rattle.view_laws.specs.Messages.{Note, BeginNote, SignalNote, EndNote}

-- ---- messages by the places of activities

abbrev pub graph_under : List Template → Graph → Option ℕ → Option Graph
graph_under ts g None = None
graph_under ts g (Some a) = option_and_then (λ activity. graph_in ts activity.work)
    (slice_get (out-Graph g).activities a)

-- the graph of the scope at the end of a path
abbrev pub graph_along : List Template → List Part → Graph → Option Graph
graph_along ts [] g = Some g
graph_along ts (q ∷ p) g = option_and_then (graph_along ts p) (graph_under ts g (place_of g q.name))

abbrev pub signal_between : List Part → Bool → Option ℕ → Option ℕ → Option Note
signal_between p v None b = None
signal_between p v (Some a) None = None
signal_between p v (Some a) (Some b) = Some (SignalNote p a b v)

abbrev pub signal_in : List Part → Name → Name → Bool → Option Graph → Option Note
signal_in p from to v None = None
signal_in p from to v (Some h) = signal_between p v (place_of h from) (place_of h to)

-- the message, where its activities are there
abbrev pub note_in : List Template → Graph → Message → Option Note
note_in ts g (Begin path) = Some (BeginNote path.parts)
note_in ts g (Signal path from to v) = signal_in path.parts from to v (graph_along ts path.parts g)
note_in ts g (End path) = Some (EndNote path.parts)

-- ---- what is shown after an event

-- what is known is by messages, and as many attempts are looked at as there are items with an output
pub record IsCounted (k : Known) : Type 0 where
  pub messages : IsByMessages k
  pub items : List (List Part)
  pub covers : (p : List Part) (out : Container) → k.given p ≡ Some out → Contains items p
  pub enough : length items ≤ k.most

-- from a state to the next, whatever is known: where the first shows it, the second shows what is known after the event
abbrev pub GoesOnShowing : (ℕ → Known → Container → Known → Type 0) → List Template → Graph → ScopeState → ScopeState
    → Type 0
GoesOnShowing comes ts g s s' =
    (depth : ℕ) (k k' : Known) (input : Container) → Well ts depth g → Served ts depth g → IsCounted k
    → comes depth k input k'
    → Shows ts depth k g input s → Shows ts depth k' g input s'

-- a message that may come is taken
abbrev pub ShowsTaken : List Template → Graph → Message → ScopeState → ScopeState → Type 0
ShowsTaken ts g message s s' =
    (note : Note) → note_in ts g message ≡ Some note
    → GoesOnShowing (λ depth k input k'. Comes ts depth k g input note k') ts g s s'

-- an item that may be completed is
abbrev pub ShowsCompleted : List Template → Graph → List Part → Container → ScopeState → ScopeState → Type 0
ShowsCompleted ts g item out s s' = GoesOnShowing
    (λ depth k input k'. ComesOutput ts depth k g input item out k') ts g s s'

-- ---- what is shown after a change of a hold

-- two states of a program activity differ at most in who holds the open attempt
pub record DiffersInHold (p p' : State) : Type 0 where
  pub fate : fate_of (held p' Nobody) ≡ fate_of (held p Nobody)
  pub outputs : completions p' ≡ completions p

-- whatever the first state shows, the second shows
abbrev pub StaysShown : List Template → Graph → ScopeState → ScopeState → Type 0
StaysShown ts g s s' = (depth : ℕ) (k : Known) (input : Container) → Shows ts depth k g input s
    → Shows ts depth k g input s'

-- so it is of an activity, whatever it runs
abbrev pub StaysShownItem : ActivityState → ActivityState → Type 0
StaysShownItem state state' =
    (ts : List Template) (w : Work) (depth : ℕ) (k : Known) (name : Name) (h : Option Graph) (fate : Fate)
    (outs : List Container) (starts : List Start)
    → ShowsWork w fate outs starts (shows_attempt (ShowsWithin ts depth) k name h) state
    → ShowsWork w fate outs starts (shows_attempt (ShowsWithin ts depth) k name h) state'

-- of a block or process activity of this graph
abbrev pub StaysShownNested : List Template → Graph → NestedState → NestedState → Type 0
StaysShownNested ts h n n' =
    (depth : ℕ) (k : Known) (name : Name) (fate : Fate) (starts : List Start)
    → ShowsNested fate starts (shows_attempt (ShowsWithin ts depth) k name (Some h)) n
    → ShowsNested fate starts (shows_attempt (ShowsWithin ts depth) k name (Some h)) n'

-- and of an activity that runs this graph
abbrev pub StaysShownWork : List Template → Graph → ActivityState → ActivityState → Type 0
StaysShownWork ts h state state' =
    (w : Work) (depth : ℕ) (k : Known) (name : Name) (fate : Fate) (outs : List Container) (starts : List Start)
    → graph_in ts w ≡ Some h
    → ShowsWork w fate outs starts (shows_attempt (ShowsWithin ts depth) k name (Some h)) state
    → ShowsWork w fate outs starts (shows_attempt (ShowsWithin ts depth) k name (Some h)) state'
