-- Laws of the next event of a legal run: it may come, and what is known after it is what was known before and what it
-- tells.
use Rattle.std.specs.Prelude.{◌≡◌, ℕ, zero, suc, ◌+◌, ◌≤◌, ◌<◌, Bool, false, Some, List, [], ◌∷◌, ◌++◌, length}
use Rattle.std.specs.Prelude.{slice_get}
use Rattle.flow_model.specs.declared.graphs.Activity.{Activity}
use Rattle.flow_model.specs.declared.graphs.Container.{Container}
use Rattle.flow_model.specs.declared.graphs.Control.{Control}
use Rattle.flow_model.specs.declared.graphs.Graph.{Graph, out-Graph}
use Rattle.flow_model.specs.declared.graphs.Template.{Template}
use Rattle.flow_model.specs.declared.instances.Fact.{Fact}
use Rattle.flow_model.specs.declared.instances.Part.{Part}
use Rattle.flow_model.specs.ScopeContainers.{graph_in}
use Rattle.flow_model.specs.Scopes.{Known, at}
use Rattle.fate_laws.specs.WellFormed.{Well}
use Rattle.view_laws.specs.Coming.{IsByMessages, MayBegin, MaySignal, MayEnd, MayComplete, Leads}
use Rattle.view_laws.specs.Learning.{with_begin, with_signal, with_end, with_output, learnt, with_most}
use Rattle.view_laws.specs.LegalRuns.{IsLegal}
use Rattle.view_laws.specs.Messages.{Note, BeginNote, SignalNote, EndNote}
use Rattle.view_laws.specs.Runs.{Root, Event, Turned, Completed, is_stopped, facts, seen}

-- ---- graphs whose connectors lead to activities

pub record IsAimed (ts : List Template) (g : Graph) (inner : Graph → Type 0) : Type 0 where
  pub each : (n : ℕ) (c : Control) → slice_get (out-Graph g).controls n ≡ Some c
      → c.to < length (out-Graph g).activities
  pub inside : (a : ℕ) (activity : Activity) → slice_get (out-Graph g).activities a ≡ Some activity
      → (h : Graph) → graph_in ts activity.work ≡ Some h → inner h

-- each connector leads to an activity of its graph, in those inside too, to this depth
abbrev pub Aimed : List Template → ℕ → Graph → Type 0
Aimed ts zero g = IsAimed ts g (λ h. Unit {0})
Aimed ts (suc depth) g = IsAimed ts g (Aimed ts depth)

-- ---- the events

-- what is asked of the run before an event
pub record MayGoOn (r : Root) (q : Note → ℕ) (e : Event) (h : List Event) : Type 0 where
  pub well : Well r.templates r.depth r.graph
  pub aimed : Aimed r.templates r.depth r.graph
  pub legal : IsLegal r q (e ∷ h)
  pub runs : is_stopped h ≡ false

-- a BEGIN that is taken may come
pub record IsNextBegin (r : Root) (h : List Event) (p : List Part) : Type 0 where
  pub may : Leads (λ depth k g i. MayBegin r.templates depth k g i) r.templates r.depth (seen h) r.graph r.input p
  pub known : seen (Turned (BeginNote p) ∷ h) ≡ learnt with_begin p (seen h)

abbrev pub BeginsMayCome : Type 0
BeginsMayCome = (r : Root) (q : Note → ℕ) (h : List Event) (p : List Part) → MayGoOn r q (Turned (BeginNote p)) h
    → IsNextBegin r h p

-- a SIGNAL that is taken may come
pub record IsNextSignal (r : Root) (h : List Event) (p : List Part) (a b : ℕ) (v : Bool) : Type 0 where
  pub may : Leads (λ depth k g i. MaySignal r.templates depth k g i a b v) r.templates r.depth
      (seen h) r.graph r.input p
  pub known : seen (Turned (SignalNote p a b v) ∷ h) ≡ learnt (with_signal a b v) p (seen h)

abbrev pub SignalsMayCome : Type 0
SignalsMayCome =
    (r : Root) (q : Note → ℕ) (h : List Event) (p : List Part) (a b : ℕ) (v : Bool)
    → MayGoOn r q (Turned (SignalNote p a b v)) h → IsNextSignal r h p a b v

-- an END that may come is of an attempt that is looked at
pub record MayEndWithin (ts : List Template) (depth : ℕ) (k : Known) (g : Graph) (input : Container)
    (last : Part) : Type 0 where
  pub may : MayEnd ts depth k g input last
  pub within : may.start.attempt ≤ k.most

-- an END that is taken is of an attempt of a scope, and may come
pub record IsNextEnd (r : Root) (h : List Event) (p : List Part) : Type 0 where
  pub path : List Part
  pub last : Part
  pub parts : p ≡ path ++ last ∷ []
  pub may : Leads (λ depth k g i. MayEnd r.templates depth k g i last) r.templates r.depth (seen h) r.graph r.input path
  pub within : Leads (λ depth k g i. MayEndWithin r.templates depth k g i last) r.templates r.depth
      (seen h) r.graph r.input path
  pub known : seen (Turned (EndNote p) ∷ h) ≡ learnt (with_end last) path (seen h)

abbrev pub EndsMayCome : Type 0
EndsMayCome = (r : Root) (q : Note → ℕ) (h : List Event) (p : List Part) → MayGoOn r q (Turned (EndNote p)) h
    → IsNextEnd r h p

-- an item that may be completed is of an attempt that is looked at, or of the next
pub record MayCompleteWithin (ts : List Template) (depth : ℕ) (k : Known) (g : Graph) (input : Container)
    (last : Part) : Type 0 where
  pub may : MayComplete ts depth k g input last
  pub within : last.attempt ≤ k.most + 1

-- an item that is completed may be
pub record IsNextCompletion (r : Root) (h : List Event) (f : Fact) : Type 0 where
  pub path : List Part
  pub last : Part
  pub parts : f.item.parts ≡ path ++ last ∷ []
  pub may : Leads (λ depth k g i. MayComplete r.templates depth k g i last) r.templates r.depth
      (seen h) r.graph r.input path
  pub within : Leads (λ depth k g i. MayCompleteWithin r.templates depth k g i last) r.templates r.depth
      (seen h) r.graph r.input path
  pub known : seen (Completed f ∷ h) ≡ with_most (length (facts h) + 1)
      (learnt (with_output last f.output) path (seen h))

abbrev pub CompletionsMayCome : Type 0
CompletionsMayCome = (r : Root) (q : Note → ℕ) (h : List Event) (f : Fact) → MayGoOn r q (Completed f) h
    → IsNextCompletion r h f

-- ---- what counts of connectors is what was sent

abbrev pub ViewsGoByMessages : Type 0
ViewsGoByMessages = (h : List Event) → IsByMessages (seen h)

abbrev pub ScopesGoByMessages : Type 0
ScopesGoByMessages = (q : Part) (k : Known) → IsByMessages k → IsByMessages (at q k)
