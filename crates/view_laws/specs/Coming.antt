-- Which event may come next, by what is known in the scope that it concerns.
use Rattle.std.specs.Prelude.{◌≡◌, ℕ, zero, suc, ◌+◌, Bool, true, false, Option, Some, None, is_none, List, [], ◌∷◌}
use Rattle.std.specs.Prelude.{◌++◌, slice_get}
use Rattle.fate_laws.specs.StartedScopes.{ScopeFact}
use Rattle.flow_model.specs.declared.graphs.Activity.{Activity}
use Rattle.flow_model.specs.declared.graphs.Container.{Container}
use Rattle.flow_model.specs.declared.graphs.Control.{Control}
use Rattle.flow_model.specs.declared.graphs.Graph.{Graph, out-Graph}
use Rattle.flow_model.specs.declared.graphs.Program.{Program}
use Rattle.flow_model.specs.declared.graphs.Template.{Template}
use Rattle.flow_model.specs.declared.graphs.Work.{Program as RunsProgram}
use Rattle.flow_model.specs.declared.instances.Fate.TheVariants.{Ready}
use Rattle.flow_model.specs.declared.instances.Part.{Part}
use Rattle.flow_model.specs.Fates.{joined}
use Rattle.flow_model.specs.ScopeContainers.{graph_in}
use Rattle.flow_model.specs.Scopes.{Known, at, part, Start, values_at, is_fed, started_at, output, tree_ends, tree_fate}
use Rattle.view_laws.specs.Learning.{with_begin, with_signal, with_end, with_output, learnt, with_most}
use Rattle.view_laws.specs.Messages.{Note, BeginNote, SignalNote, EndNote}

-- ---- what doesn't count yet

-- nothing counts of a scope itself: it hasn't begun, and no value of its connectors counts
pub record IsUntouched (k : Known) : Type 0 where
  pub unbegun : k.begun [] ≡ false
  pub unsent : (a b : ℕ) → k.sent [] a b None ≡ None

-- nothing counts of an attempt: neither of its item nor of its scope
pub record IsNew (k : Known) (q : Part) : Type 0 where
  pub ungiven : k.given (q ∷ []) ≡ None
  pub unclosed : k.closed (q ∷ []) ≡ false
  pub untouched : IsUntouched (at q k)

-- ---- a scope of the view

-- what counts of a connector is what was sent, whatever its value is
abbrev pub IsByMessages : Known → Type 0
IsByMessages k = (p : List Part) (a b : ℕ) (o : Option Bool) → k.sent p a b o ≡ k.sent p a b None

-- where the join of an activity is known, all that feeds it is settled
abbrev pub IsFedWhereKnown : List Template → ScopeFact
IsFedWhereKnown ts depth k g input =
    (a : ℕ) (activity : Activity) → slice_get (out-Graph g).activities a ≡ Some activity
    → is_none (joined activity.join (values_at k (out-Graph g).controls (tree_ends ts depth k g input) a)) ≡ false
    → is_fed (out-Graph g).lines a (tree_ends ts depth k g input) ≡ true

-- the attempts of an activity that start
abbrev pub started_in : List Template → ℕ → Known → Graph → Container → ℕ → Activity → List Start
started_in ts depth k g input a activity = started_at ts k (output ts depth) g input
    (tree_ends ts depth k g input) a activity

-- ---- the events of a scope

-- it may begin: nothing counts of it, nor of what is inside
pub record MayBegin (ts : List Template) (depth : ℕ) (k : Known) (g : Graph) (input : Container) : Type 0 where
  pub itself : IsUntouched k
  pub inside : (q : Part) → IsNew k q

-- a SIGNAL may come: of one of its connectors, whose value doesn't count yet
pub record MaySignal (ts : List Template) (depth : ℕ) (k : Known) (g : Graph) (input : Container) (a b : ℕ)
    (v : Bool) : Type 0 where
  pub begun : k.begun [] ≡ true
  pub fed : IsFedWhereKnown ts depth k g input
  pub number : ℕ
  pub connector : Control
  pub among : slice_get (out-Graph g).controls number ≡ Some connector
  pub from : connector.from ≡ a
  pub to : connector.to ≡ b
  pub unsent : k.sent [] a b None ≡ None
  pub unstarted : (activity : Activity) → slice_get (out-Graph g).activities b ≡ Some activity
      → IsNew k (part activity.name 1)
  pub fed_then : (activity : Activity) → slice_get (out-Graph g).activities b ≡ Some activity
      → is_none (joined activity.join (values_at (with_signal a b v k) (out-Graph g).controls
      (tree_ends ts depth k g input) b)) ≡ false
      → is_fed (out-Graph g).lines b (tree_ends ts depth k g input) ≡ true

-- the END of an attempt may come: it is complete, and hasn't told its end
pub record MayEnd (ts : List Template) (depth : ℕ) (k : Known) (g : Graph) (input : Container) (q : Part) : Type 0 where
  pub begun : k.begun [] ≡ true
  pub fed : IsFedWhereKnown ts depth k g input
  pub place : ℕ
  pub activity : Activity
  pub graph : Graph
  pub number : ℕ
  pub start : Start
  pub out : Container
  pub is : slice_get (out-Graph g).activities place ≡ Some activity
  pub of : graph_in ts activity.work ≡ Some graph
  pub named : part activity.name start.attempt ≡ q
  pub started : slice_get (started_in ts depth k g input place activity) number ≡ Some start
  pub unclosed : k.closed (q ∷ []) ≡ false
  pub complete : output ts depth (at q k) graph start.input ≡ Some out
  pub unstarted : IsNew k (part activity.name (start.attempt + 1))

-- an item may be completed: its attempt is ready
pub record MayComplete (ts : List Template) (depth : ℕ) (k : Known) (g : Graph) (input : Container)
    (q : Part) : Type 0 where
  pub begun : k.begun [] ≡ true
  pub fed : IsFedWhereKnown ts depth k g input
  pub place : ℕ
  pub activity : Activity
  pub program : Program
  pub is : slice_get (out-Graph g).activities place ≡ Some activity
  pub runs : activity.work ≡ RunsProgram program
  pub name : activity.name ≡ q.name
  pub ready : tree_fate ts depth k g input place ≡ Ready q.attempt
  pub ungiven : k.given (q ∷ []) ≡ None
  pub unstarted : IsNew k (part activity.name (q.attempt + 1))

-- ---- a scope further in

-- an attempt that has started and hasn't told its end, and what holds of its scope
pub record IsOpenAttempt (ts : List Template) (depth : ℕ) (k : Known) (g : Graph) (input : Container) (q : Part)
    (inside : Graph → Container → Type 0) : Type 0 where
  pub place : ℕ
  pub activity : Activity
  pub graph : Graph
  pub number : ℕ
  pub start : Start
  pub is : slice_get (out-Graph g).activities place ≡ Some activity
  pub of : graph_in ts activity.work ≡ Some graph
  pub named : part activity.name start.attempt ≡ q
  pub started : slice_get (started_in ts depth k g input place activity) number ≡ Some start
  pub unclosed : k.closed (q ∷ []) ≡ false
  pub within : inside graph start.input

-- the path leads along open attempts to a scope of which this holds
abbrev pub Leads : ScopeFact → List Template → ℕ → Known → Graph → Container → List Part → Type 0
Leads fact ts depth k g input [] = fact depth k g input
Leads fact ts zero k g input (q ∷ p) = ⊥
Leads fact ts (suc depth) k g input (q ∷ p) =
    IsOpenAttempt ts (suc depth) k g input q (λ h i. Leads fact ts depth (at q k) h i p)

-- ---- a message, or a completion

-- the message may come, and this is known after it
abbrev pub Comes : List Template → ℕ → Known → Graph → Container → Note → Known → Type 0
Comes ts depth k g input (BeginNote p) k' = Leads (MayBegin ts) ts depth k g input p × (k' ≡ learnt with_begin p k)
Comes ts depth k g input (SignalNote p a b v) k' =
    Leads (λ d j h i. MaySignal ts d j h i a b v) ts depth k g input p × (k' ≡ learnt (with_signal a b v) p k)
Comes ts depth k g input (EndNote p) k' =
    (around : List Part) × (q : Part) × (p ≡ around ++ q ∷ [])
    × Leads (λ d j h i. MayEnd ts d j h i q) ts depth k g input around
    × (k' ≡ learnt (with_end q) around k)

-- the item may be completed, and this is known after it
abbrev pub ComesOutput : List Template → ℕ → Known → Graph → Container → List Part → Container → Known → Type 0
ComesOutput ts depth k g input item out k' =
    (around : List Part) × (q : Part) × (item ≡ around ++ q ∷ [])
    × Leads (λ d j h i. MayComplete ts d j h i q) ts depth k g input around
    × (k' ≡ with_most (suc k.most) (learnt (with_output q out) around k))
