-- A turn, a completion and a change of a hold: the navigator does to the scopes of a root what the machine does.
use Rattle.std.specs.Prelude.{◌≡◌, ℕ, Some, List, [], ◌∷◌, ◌++◌}
use Rattle.activity_states.specs.declared.states.Completed.{Completed}
use Rattle.flow_model.specs.declared.graphs.Graph.{Graph}
use Rattle.flow_model.specs.declared.graphs.Template.{Template}
use Rattle.flow_model.specs.declared.instances.Message.{Message}
use Rattle.flow_model.specs.declared.instances.Message.TheVariants.{Begin, Signal, End}
use Rattle.flow_model.specs.declared.instances.Part.{Part}
use Rattle.flow_model.specs.declared.instances.Path.{Path}
use Rattle.machine.specs.Moves as m
use Rattle.navigator.specs.Events.{Happening, Begins, Signals, Ends, Completes, Happens, Takes}
use Rattle.navigator.specs.Holding.{HoldsChanged}
use Rattle.navigator.specs.declared.instance.HoldChange.{HoldChange}
use Rattle.navigator.specs.declared.instance.HoldChange.TheVariants.{Person, Agent, Nobody}
use Rattle.navigator.specs.declared.scopes.ScopeState.{ScopeState}
use Rattle.machine_scopes.specs.Events.{Meets, IsAsMoved}
use Rattle.machine_scopes.specs.Seen.{scopes_of, Along}

-- the last part of a path names what happens, and the others lead to a scope that meets it
pub record MeetsLast (ts : List Template) (event : Part → Happening) (parts : List Part) (g : Graph)
    (s : ScopeState) : Type 0 where
  pub last : Part
  pub is : m.last_part parts ≡ Some last
  pub along : Along ts (Meets ts (event last)) (m.front_parts parts) g s

-- the scope that receives a message has what the message needs
abbrev pub MeetsMessage : List Template → Message → Graph → ScopeState → Type 0
MeetsMessage ts (Begin path) g s = Along ts (Meets ts Begins) path.parts g s
MeetsMessage ts (Signal path from to v) g s = Along ts (Meets ts (Signals to v)) path.parts g s
MeetsMessage ts (End path) g s = MeetsLast ts (λ q. Ends q.name q.attempt) path.parts g s

-- the scope of an item has what its completion needs
abbrev pub MeetsItem : List Template → Completed → Path → Graph → ScopeState → Type 0
MeetsItem ts c item g s = MeetsLast ts (λ q. Completes q.name c) item.parts g s

-- a change of a hold, as the machine names it
abbrev pub as_holding : HoldChange → m.Holding
as_holding (Person who) = m.ByPerson who
as_holding Agent = m.ByAgent
as_holding Nobody = m.ByNobody

-- a turn does to the scopes what the machine's does
abbrev pub TurnsAreMoves : Type 0
TurnsAreMoves =
    (ts : List Template) (clock : ℕ) (message : Message) (g : Graph) (s s' : ScopeState) (given : List Message)
    (items : List Path)
    → MeetsMessage ts message g s → Takes ts clock message g s s' given items
    → IsAsMoved s' given items (m.takes ts clock message g (scopes_of s))

-- and so does a completion
abbrev pub CompletionsAreMoves : Type 0
CompletionsAreMoves =
    (ts : List Template) (clock : ℕ) (item : Path) (c : Completed) (g : Graph) (s s' : ScopeState)
    (given : List Message) (items : List Path)
    → MeetsItem ts c item g s
    → ((parts : List Part) (q : Part) → item.parts ≡ parts ++ q ∷ []
    → Happens ts (record { root = item.root; parts = parts }) clock (Completes q.name c) g s s' given items)
    → IsAsMoved s' given items (m.completes_item ts clock item c g (scopes_of s))

-- the scope to which the parts before the last one lead is there
pub record MeetsHold (ts : List Template) (item : List Part) (g : Graph) (s : ScopeState) : Type 0 where
  pub last : Part
  pub is : m.last_part item ≡ Some last
  pub along : Along ts (λ h t. Unit {0}) (m.front_parts item) g s

-- and a change of a hold
abbrev pub HoldsAreMoves : Type 0
HoldsAreMoves =
    (ts : List Template) (item : List Part) (change : HoldChange) (g : Graph) (s s' : ScopeState) (take : ℕ)
    → MeetsHold ts item g s → HoldsChanged ts item change g s s' take
    → m.holds_item ts item (as_holding change) g (scopes_of s) ≡ scopes_of s'
