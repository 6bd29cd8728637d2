-- Who performed what an open item asks for: the activities before it are settled, and what has become of a settled
-- activity stays.
use Rattle.std.specs.Prelude.{◌≡◌, ℕ, suc, Some, List, [], ◌∷◌, ◌++◌, IsTrue}
use Rattle.activity_states.specs.States.{fate_of}
use Rattle.activity_states.specs.declared.states.Completed.{Completed}
use Rattle.blocks_subprocs.specs.Ends.{ends_of}
use Rattle.fate_laws.specs.Walks.{Walk}
use Rattle.fate_laws.specs.WellFormed.{Well}
use Rattle.flow_model.specs.Fates.{is_settled}
use Rattle.flow_model.specs.Scopes.{Known}
use Rattle.flow_model.specs.declared.graphs.Container.{Container}
use Rattle.flow_model.specs.declared.graphs.Graph.{Graph, out-Graph}
use Rattle.flow_model.specs.declared.graphs.Template.{Template}
use Rattle.flow_model.specs.declared.instances.Message.{Message}
use Rattle.flow_model.specs.declared.instances.Part.{Part}
use Rattle.flow_model.specs.declared.instances.Path.{Path}
use Rattle.item_laws.specs.OpenItems.{is_open_phase}
use Rattle.navigator.specs.Events.{Completes, Happens, Takes}
use Rattle.navigator.specs.Holding.{HoldsChanged}
use Rattle.navigator.specs.Items.{Entry, stand, entry_at, phase_of, performer_at}
use Rattle.navigator.specs.Serving.{Served}
use Rattle.navigator.specs.Showing.{note_in, IsCounted}
use Rattle.navigator.specs.Views.{Shows}
use Rattle.navigator.specs.declared.instance.HoldChange.{HoldChange}
use Rattle.navigator.specs.declared.scopes.ScopeState.{ScopeState, out-ScopeState}
use Rattle.view_laws.specs.Coming.{Comes, ComesOutput}
use Rattle.view_laws.specs.Messages.{Note}
use Rattle.view_laws.specs.Queues.{TakesFronts}
use Rattle.view_laws.specs.Runs.{Root, Event, running, seen, engine}

-- ---- what comes before an item

-- a walk of connectors leads from the activity at this place to that of the item, in the item's scope
abbrev pub ComesBefore : ℕ → Entry → Type 0
ComesBefore b e = (n : ℕ) × Walk (out-Graph e.graph).controls (suc n) b e.number

-- the activity at this place of the item's scope is settled
abbrev pub IsSettledBy : Entry → ℕ → Type 0
IsSettledBy e b = IsTrue (is_settled (ends_of (out-ScopeState e.scope).ends.items b))

-- after every run whose messages were taken from the fronts of queues, whatever comes before an open item is settled
abbrev pub SourcesAreSettled : Type 0
SourcesAreSettled =
    (r : Root) (q : Note → ℕ) (h : List Event) (s : ScopeState) (item : List Part) (e : Entry) (b : ℕ)
    → Well r.templates r.depth r.graph → TakesFronts (engine r q) h
    → Shows r.templates r.depth (seen (running h)) r.graph r.input s
    → entry_at r.templates item (stand r.graph s) ≡ Some e
    → IsTrue (is_open_phase (phase_of (fate_of e.state) e.attempt)) → ComesBefore b e → IsSettledBy e b

-- ---- what stays

-- an item is of the same activity as before, and who performed what was settled in its scope is the same
pub record PerformersStay (e e' : Entry) : Type 0 where
  pub graph : e'.graph ≡ e.graph
  pub number : e'.number ≡ e.number
  pub activity : e'.activity ≡ e.activity
  pub attempt : e'.attempt ≡ e.attempt
  pub performers : (b : ℕ) → IsSettledBy e b → performer_at e'.scope b ≡ performer_at e.scope b

-- so it is of each item that is there before and after
abbrev pub KeepsPerformers : List Template → Graph → ScopeState → ScopeState → Type 0
KeepsPerformers ts g s s' =
    (item : List Part) (e e' : Entry) → entry_at ts item (stand g s) ≡ Some e → entry_at ts item (stand g s') ≡ Some e'
    → PerformersStay e e'

-- whatever is known: where the state shows it and the event may come
abbrev pub KeepsWhereShown : (ℕ → Known → Container → Known → Type 0) → List Template → Graph → ScopeState → ScopeState
    → Type 0
KeepsWhereShown comes ts g s s' =
    (depth : ℕ) (k k' : Known) (input : Container) → Well ts depth g → Served ts depth g → IsCounted k
    → comes depth k input k' → Shows ts depth k g input s → KeepsPerformers ts g s s'

-- a message that may come is taken
abbrev pub MessagesKeepPerformers : Type 0
MessagesKeepPerformers =
    (ts : List Template) (clock : ℕ) (message : Message) (note : Note) (g : Graph) (s s' : ScopeState)
    (given : List Message) (items : List Path)
    → Takes ts clock message g s s' given items → note_in ts g message ≡ Some note
    → KeepsWhereShown (λ depth k input k'. Comes ts depth k g input note k') ts g s s'

-- an item that may be completed is
abbrev pub CompletionsKeepPerformers : Type 0
CompletionsKeepPerformers =
    (ts : List Template) (clock : ℕ) (item : Path) (c : Completed) (g : Graph) (s s' : ScopeState)
    (given : List Message) (items : List Path)
    → ((around : List Part) (q : Part) → item.parts ≡ around ++ q ∷ []
    → Happens ts (record { root = item.root; parts = around }) clock (Completes q.name c) g s s' given items)
    → KeepsWhereShown (λ depth k input k'. ComesOutput ts depth k g input item.parts c.output k') ts g s s'

-- the hold of an item that is there is changed
abbrev pub HoldsKeepPerformers : Type 0
HoldsKeepPerformers =
    (ts : List Template) (item : List Part) (change : HoldChange) (g : Graph) (s s' : ScopeState) (take : ℕ) (e : Entry)
    → entry_at ts item (stand g s) ≡ Some e → HoldsChanged ts item change g s s' take → KeepsPerformers ts g s s'

-- ---- both together

-- after every such run, who performed what comes before an open item stays the same where an event keeps the performers
abbrev pub OpenItemsKeepPerformers : Type 0
OpenItemsKeepPerformers =
    (r : Root) (q : Note → ℕ) (h : List Event) (s s' : ScopeState) (item : List Part) (e e' : Entry) (b : ℕ)
    → Well r.templates r.depth r.graph → TakesFronts (engine r q) h
    → Shows r.templates r.depth (seen (running h)) r.graph r.input s → KeepsPerformers r.templates r.graph s s'
    → entry_at r.templates item (stand r.graph s) ≡ Some e
    → entry_at r.templates item (stand r.graph s') ≡ Some e'
    → IsTrue (is_open_phase (phase_of (fate_of e.state) e.attempt)) → ComesBefore b e
    → performer_at e'.scope b ≡ performer_at e.scope b
