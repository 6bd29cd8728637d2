-- What is built of a text: graphs that are well formed and laid out to be passed through.
use Rattle.std.specs.Prelude.{◌≡◌, ℕ, zero, suc, ◌<◌, ◌≤◌, Option, Some, List, [], length, map, slice_get}
use Rattle.std.specs.List.{All}
use Rattle.std.specs.Option.{option_map}
use Rattle.fate_laws.specs.Layout.{IsLaid, Laid, OfInside}
use Rattle.fate_laws.specs.Walks.{IsWired, Walk}
use Rattle.fate_laws.specs.WellFormed.{AreSimple, Well}
use Rattle.flow_model.specs.ScopeContainers.{graph_in}
use Rattle.flow_model.specs.declared.graphs.Activity.{Activity}
use Rattle.flow_model.specs.declared.graphs.DataLine.{DataLine}
use Rattle.flow_model.specs.declared.graphs.DoneBy.TheVariants as by
use Rattle.flow_model.specs.declared.graphs.Graph.{Graph, out-Graph}
use Rattle.flow_model.specs.declared.graphs.MapEnd.{MapEnd}
use Rattle.flow_model.specs.declared.graphs.MapEnd.TheVariants.{Border, Activity as At}
use Rattle.flow_model.specs.declared.graphs.Program.{Program as ProgramOf}
use Rattle.flow_model.specs.declared.graphs.Template.{Template}
use Rattle.flow_model.specs.declared.graphs.Work.{Work, Program}
use Rattle.flow_model.specs.declared.trees.ActivityTree.{ActivityTree}
use Rattle.flow_model.specs.declared.trees.ElementTree.{ElementTree}
use Rattle.flow_model.specs.declared.trees.EndTree.{EndTree}
use Rattle.flow_model.specs.declared.trees.EndTree.TheVariants as tree
use Rattle.flow_model.specs.declared.trees.ProcessTree.{ProcessTree}
use Rattle.graph_check.specs.Walks.{Reaches}
use Rattle.text_graphs.specs.Blocks.{IsBlockOf, JudgedTo}
use Rattle.process_rules.specs.Calling.{AreOrdered}
use Rattle.text_graphs.specs.Texts.{activities_in, number_in, edges_in, AllDiffer, IsLimited}
use Rattle.template_check.specs.Wires.{IsEndBelow}
use Rattle.text_graphs.specs.declared.scopes.Scope.{Scope}
use Rattle.view_laws.specs.NextEvents.{Aimed}

-- the end of a line, where its name is known
abbrev pub end_in : List ElementTree → EndTree → Option MapEnd
end_in elements tree.Border = Some Border
end_in elements (tree.Activity name) = option_map At (number_in elements name.name)

-- a data line leads to an activity of the graph or to its output, and between activities along the connectors
pub record IsDrawn (elements : List ElementTree) (line : DataLine) : Type 0 where
  pub below : IsEndBelow (length (activities_in elements)) line.to
  pub along : (a b : ℕ) → line.from ≡ At a → line.to ≡ At b → Reaches (edges_in elements) a b

-- a graph is laid out right, and what the rules ask of its text holds of it
pub record IsSoundGraph (g : Graph) : Type 0 where
  pub laid : IsLaid g
  pub wired : IsWired g
  pub peopled : 0 < length (out-Graph g).activities
  pub simple : AreSimple (out-Graph g).controls
  pub named : AllDiffer (map (λ a. a.name) (out-Graph g).activities)
  pub aimed : All (λ c. c.to < length (out-Graph g).activities) (out-Graph g).controls
  pub few : length (out-Graph g).controls ≤ 4096
  pub small : length (out-Graph g).activities ≤ 1024

-- a sound graph, whose blocks and subprocesses have this property
pub record IsSoundWith (ts : List Template) (g : Graph) (P : Graph → Type 0) : Type 0 where
  pub here : IsSoundGraph g
  pub inside : (a : ℕ) → OfInside ts P (slice_get (out-Graph g).activities a)

-- a graph is sound, and so are those inside, to this depth
abbrev pub SoundTo : List Template → ℕ → Graph → Type 0
SoundTo ts zero g = IsSoundWith ts g (λ h. Unit {0})
SoundTo ts (suc depth) g = IsSoundWith ts g (SoundTo ts depth)

-- a graph and the blocks inside it are sound
abbrev pub IsSoundAlone : Graph → Type 0
IsSoundAlone g = (depth : ℕ) → SoundTo [] depth g

-- the graph of a block is sound
abbrev pub IsSoundWork : Work → Type 0
IsSoundWork work = (g : Graph) → graph_in [] work ≡ Some g → IsSoundAlone g

-- ---- performers

-- where the program of an activity is done by the performer of another one, a walk of connectors leads from that one to
-- it
abbrev pub PerformersComeBefore : Graph → Type 0
PerformersComeBefore g =
    (a b : ℕ) (activity : Activity) (p : ProgramOf) → slice_get (out-Graph g).activities a ≡ Some activity
    → activity.work ≡ Program p → p.by ≡ by.PerformerOf b
    → (n : ℕ) × Walk (out-Graph g).controls (suc n) b a

-- so it is in a graph, and what its activities run has this property
pub record ComeBeforeWith (ts : List Template) (g : Graph) (P : Graph → Type 0) : Type 0 where
  pub here : PerformersComeBefore g
  pub inside : (a : ℕ) (activity : Activity) (h : Graph) → slice_get (out-Graph g).activities a ≡ Some activity
      → graph_in ts activity.work ≡ Some h → P h

-- so it is in a graph, and in those inside it, to this depth
abbrev pub ComeBeforeTo : List Template → ℕ → Graph → Type 0
ComeBeforeTo ts zero g = ComeBeforeWith ts g (λ h. Unit {0})
ComeBeforeTo ts (suc depth) g = ComeBeforeWith ts g (ComeBeforeTo ts depth)

-- in a graph and the blocks inside it
abbrev pub ComeBeforeAlone : Graph → Type 0
ComeBeforeAlone g = (depth : ℕ) → ComeBeforeTo [] depth g

-- ---- libraries

-- templates are sound behind this many others: each but for the processes that it runs, and those stand before it
pub record AreSoundBehind (before : ℕ) (ts : List Template) : Type 0 where
  pub alone : All (λ t. IsSoundAlone t.graph) ts
  pub ordered : AreOrdered before ts
  pub performed : All (λ t. ComeBeforeAlone t.graph) ts

-- the templates of a library are sound
abbrev pub AreSound : List Template → Type 0
AreSound ts = AreSoundBehind 0 ts

-- a graph of a text and those inside it are sound
abbrev pub IsSound : List ElementTree → Type 0
IsSound elements = (depth : ℕ) → JudgedTo depth elements

-- if an activity is a block, its graph is sound, and so are those inside
abbrev pub IsSoundInside : ActivityTree → Type 0
IsSoundInside a = (inner : List ElementTree) → IsBlockOf a inner → IsSound inner

-- the processes of a text are sound where its graphs are not too large
abbrev pub AreSoundWithin : List Scope → List ProcessTree → Type 0
AreSoundWithin scopes processes = All (λ s. IsLimited s.elements.now) scopes → All (λ p. IsSound p.elements) processes

-- ---- where each template is sound but for the processes that it runs, each is so with those, to every depth

-- it is laid
abbrev pub LaidTogether : Type 0
LaidTogether = (ts : List Template) → AreSound ts → (depth : ℕ) → All (λ t. Laid ts depth t.graph) ts

-- it is well formed
abbrev pub WellTogether : Type 0
WellTogether = (ts : List Template) → AreSound ts → (depth : ℕ) → All (λ t. Well ts depth t.graph) ts

-- its connectors lead to its activities
abbrev pub AimedTogether : Type 0
AimedTogether = (ts : List Template) → AreSound ts → (depth : ℕ) → All (λ t. Aimed ts depth t.graph) ts

-- performers come before
abbrev pub PerformedTogether : Type 0
PerformedTogether = (ts : List Template) → AreSound ts → (depth : ℕ) → All (λ t. ComeBeforeTo ts depth t.graph) ts
