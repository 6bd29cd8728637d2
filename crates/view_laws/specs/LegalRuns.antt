-- Legal runs: messages are taken from the fronts of queues, and the completions accepted are of items that were
-- awaited.
use Rattle.std.specs.Prelude.{◌≡◌, ℕ, zero, suc, false, Some, List, [], ◌∷◌, slice_get}
use Rattle.flow_model.specs.declared.graphs.Activity.{Activity}
use Rattle.flow_model.specs.declared.graphs.Container.{Container}
use Rattle.flow_model.specs.declared.graphs.Graph.{Graph, out-Graph}
use Rattle.flow_model.specs.declared.graphs.Program.{Program}
use Rattle.flow_model.specs.declared.graphs.Template.{Template}
use Rattle.flow_model.specs.declared.graphs.Work.{Program as RunsProgram}
use Rattle.flow_model.specs.declared.instances.Fate.TheVariants.{Ready}
use Rattle.flow_model.specs.declared.instances.Part.{Part}
use Rattle.flow_model.specs.ScopeContainers.{graph_in}
use Rattle.flow_model.specs.Scopes.{Known, at, part, Start, tree_fate}
use Rattle.view_laws.specs.Coming.{started_in}
use Rattle.view_laws.specs.Messages.{Note}
use Rattle.view_laws.specs.Queues.{TakesFronts}
use Rattle.view_laws.specs.Runs.{Root, Event, Started, Turned, Completed, Held, Stopped, is_stopped, seen, engine}

-- ---- awaited items

-- an item of the scope at hand is awaited: its activity runs a program and is ready for this attempt
pub record IsAwaited (ts : List Template) (depth : ℕ) (k : Known) (g : Graph) (input : Container)
    (q : Part) : Type 0 where
  pub place : ℕ
  pub activity : Activity
  pub program : Program
  pub is : slice_get (out-Graph g).activities place ≡ Some activity
  pub runs : activity.work ≡ RunsProgram program
  pub name : activity.name ≡ q.name
  pub ready : tree_fate ts depth k g input place ≡ Ready q.attempt

-- an attempt that has started, and what holds of its scope
pub record IsStartedAttempt (ts : List Template) (depth : ℕ) (k : Known) (g : Graph) (input : Container) (q : Part)
    (inside : Graph → Container → Type 0) : Type 0 where
  pub place : ℕ
  pub activity : Activity
  pub graph : Graph
  pub number : ℕ
  pub start : Start
  pub is : slice_get (out-Graph g).activities place ≡ Some activity
  pub of : graph_in ts activity.work ≡ Some graph
  pub named : part activity.name start.attempt ≡ q
  pub started : slice_get (started_in ts depth k g input place activity) number ≡ Some start
  pub within : inside graph start.input

-- the path leads along attempts that have started to an item that is awaited
abbrev pub Awaits : List Template → ℕ → Known → Graph → Container → List Part → Type 0
Awaits ts depth k g input [] = ⊥
Awaits ts depth k g input (q ∷ []) = IsAwaited ts depth k g input q
Awaits ts zero k g input (q ∷ (s ∷ p)) = ⊥
Awaits ts (suc depth) k g input (q ∷ (s ∷ p)) =
    IsStartedAttempt ts (suc depth) k g input q (λ h i. Awaits ts depth (at q k) h i (s ∷ p))

-- ---- legal runs

-- each completion was of an item that was awaited in the view before it, and the run wasn't stopped then
abbrev pub AreAwaited : Root → List Event → Type 0
AreAwaited r [] = Unit {0}
AreAwaited r (Completed f ∷ h) =
    AreAwaited r h × (is_stopped h ≡ false) × Awaits r.templates r.depth (seen h) r.graph r.input f.item.parts
AreAwaited r (Started ∷ h) = AreAwaited r h
AreAwaited r (Turned m ∷ h) = AreAwaited r h
AreAwaited r (Held p b ∷ h) = AreAwaited r h
AreAwaited r (Stopped ∷ h) = AreAwaited r h

-- each message taken was the front of a queue, and each completion was awaited
pub record IsLegal (r : Root) (q : Note → ℕ) (h : List Event) : Type 0 where
  pub fronts : TakesFronts (engine r q) h
  pub awaited : AreAwaited r h
