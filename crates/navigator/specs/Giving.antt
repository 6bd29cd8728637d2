-- What an event gives: the messages that became due by it.
use Rattle.std.specs.Prelude.{◌≡◌, ℕ, not, Some, List, map, slice_get}
use Rattle.std.specs.List.{filter}
use Rattle.fate_laws.specs.WellFormed.{Well}
use Rattle.flow_model.specs.Scopes.{Known}
use Rattle.flow_model.specs.declared.graphs.Container.{Container}
use Rattle.flow_model.specs.declared.graphs.Graph.{Graph}
use Rattle.flow_model.specs.declared.graphs.Template.{Template}
use Rattle.flow_model.specs.declared.instances.Message.{Message}
use Rattle.flow_model.specs.declared.instances.Message.TheVariants.{Begin, Signal, End}
use Rattle.flow_model.specs.declared.instances.Path.{Path}
use Rattle.navigator.specs.Serving.{Served}
use Rattle.navigator.specs.Showing.{note_in, IsCounted}
use Rattle.navigator.specs.Views.{Shows}
use Rattle.navigator.specs.declared.scopes.ScopeState.{ScopeState}
use Rattle.view_laws.specs.Coming.{Comes, ComesOutput}
use Rattle.view_laws.specs.Messages.{Note, due_in}
use Rattle.view_laws.specs.Queues.{Engine, has, by_kind, put}
use Rattle.view_laws.specs.NextEvents.{Aimed}
use Rattle.view_laws.specs.Runs.{Root, Event, engine}

-- ---- what became due

-- the messages of a root, in queues by any rule
abbrev pub root_engine : List Template → ℕ → Graph → Container → (Note → ℕ) → Engine Note Event
root_engine ts depth g input queue_of = engine
    (record { templates = ts; depth = depth; graph = g; input = input }) queue_of

-- what is due by what is known then, and wasn't by what was known before
abbrev pub came_due : Engine Note Event → List Template → ℕ → Graph → Container → Known → Known → List Note
came_due x ts depth g input k k' = filter (λ m. not (has x (due_in ts depth k g input) m)) (due_in ts depth k' g input)

-- the messages are, by the places of their activities, those that became due: SIGNALs, then BEGINs, then ENDs
abbrev pub GivesDue : List Template → ℕ → Graph → Container → Known → Known → List Message → Type 0
GivesDue ts depth g input k k' given =
    (queue_of : Note → ℕ)
    → map (note_in ts g) given
    ≡ map Some (by_kind (root_engine ts depth g input queue_of)
    (came_due (root_engine ts depth g input queue_of) ts depth g input k k'))

-- the root that a message names
abbrev pub root_named : Message → ℕ
root_named (Begin scope) = scope.root
root_named (Signal scope from to v) = scope.root
root_named (End scope) = scope.root

-- all of these messages name this root
abbrev pub AreOf : ℕ → List Message → Type 0
AreOf root given = (i : ℕ) (m : Message) → slice_get given i ≡ Some m → root_named m ≡ root

-- the messages became due, and name this root
pub record Gives (root : ℕ) (ts : List Template) (depth : ℕ) (g : Graph) (input : Container) (k k' : Known)
    (given : List Message) : Type 0 where
  pub due : GivesDue ts depth g input k k' given
  pub named : AreOf root given

-- ---- what an event gives

-- whatever is known: where the state shows it, what is given became due by the event, and names this root
abbrev pub GivesWhatCame : (ℕ → Known → Container → Known → Type 0) → ℕ → List Template → Graph → ScopeState
    → List Message → Type 0
GivesWhatCame comes root ts g s given =
    (depth : ℕ) (k k' : Known) (input : Container) → Well ts depth g → Served ts depth g → Aimed ts depth g
    → IsCounted k → comes depth k input k'
    → Shows ts depth k g input s → Gives root ts depth g input k k' given

-- a message that may come is taken
abbrev pub GivesTaken : List Template → Graph → Message → ScopeState → List Message → Type 0
GivesTaken ts g message s given =
    (note : Note) → note_in ts g message ≡ Some note
    → GivesWhatCame (λ depth k input k'. Comes ts depth k g input note k') (root_named message) ts g s given

-- an item that may be completed is
abbrev pub GivesCompleted : List Template → Graph → Path → Container → ScopeState → List Message → Type 0
GivesCompleted ts g item out s given = GivesWhatCame
    (λ depth k input k'. ComesOutput ts depth k g input item.parts out k') item.root ts g s given

-- ---- in a run

-- what the next event of the run of a root gives is what it puts
abbrev pub GivesPut : Root → List Event → Event → List Message → Type 0
GivesPut r h e given = (queue_of : Note → ℕ) → map (note_in r.templates r.graph) given
    ≡ map Some (put (engine r queue_of) e h)
