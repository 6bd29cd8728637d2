-- What of the messages may be trusted, and where all that is due was taken, at every scope of a root.
use Rattle.fate_laws.proofs.Attempts.{Along}
use Rattle.flow_model.specs.Fates.{connector_value, joined}
use Rattle.flow_model.specs.ScopeContainers.{graph_in, base_of}
use Rattle.flow_model.specs.Scopes.{Known, at, Runs, part, gives, is_fed, trial, values_at, scope_ends, output}
use Rattle.flow_model.specs.declared.graphs.Activity.{Activity}
use Rattle.flow_model.specs.declared.graphs.Container.{Container}
use Rattle.flow_model.specs.declared.graphs.Graph.{Graph, out-Graph}
use Rattle.flow_model.specs.declared.graphs.Template.{Template}
use Rattle.flow_model.specs.declared.graphs.Work.{Work}
use Rattle.flow_model.specs.declared.instances.Part.{Part}
use Rattle.flow_model.specs.declared.names.Name.{Name}
use Rattle.std.specs.List.{All}
use Rattle.std.specs.Prelude.{◌≡◌, ℕ, zero, suc, Bool, true, Some, List, [], ◌∷◌, slice_get}

-- ---- what was sent is so

-- of an attempt that has told its end, this holds
abbrev pub IfClosed : (Known → Graph → Container → Type 0) → List Template → Known → Name → Work → ℕ → Container → Type 0
IfClosed below ts k name w j i = (h : Graph) → graph_in ts w ≡ Some h → k.closed (part name j ∷ []) ≡ true → below (at (part name j) k) h i

pub record IsHonest (ts : List Template) (k : Known) (runs : Runs) (g : Graph) (input : Container) (below : Known → Graph → Container → Type 0) : Type 0 where
  pub told : All (λ c. (v : Bool) → k.sent [] c.from c.to (connector_value (out-Graph g).controls c (scope_ends ts k runs g input c.from)) ≡ Some v
      → connector_value (out-Graph g).controls c (scope_ends ts k runs g input c.from) ≡ Some v) (out-Graph g).controls
  pub inside : (a : ℕ) (activity : Activity) → slice_get (out-Graph g).activities a ≡ Some activity
      → is_fed (out-Graph g).lines a (scope_ends ts k runs g input) ≡ true
      → Along (IfClosed below ts k activity.name activity.work) (gives ts k runs activity.name activity.work)
      (trial g a activity (base_of g activity a input (scope_ends ts k runs g input))) k.most 1 (base_of g activity a input (scope_ends ts k runs g input))

abbrev pub Honest : List Template → ℕ → Known → Graph → Container → Type 0
Honest ts zero k g input = IsHonest ts k (output ts zero) g input (λ k' h i. Unit {0})
Honest ts (suc depth) k g input = IsHonest ts k (output ts (suc depth)) g input (Honest ts depth)

-- ---- all that is due was taken

-- an attempt that has started has told its end where it is complete
pub record IsFullAt (runs : Runs) (below : Known → Graph → Container → Type 0) (k : Known) (q : Part) (h : Graph) (i : Container) : Type 0 where
  pub closed : (out : Container) → runs (at q k) h i ≡ Some out → k.closed (q ∷ []) ≡ true
  pub inside : below (at q k) h i

abbrev pub IfInside : Runs → (Known → Graph → Container → Type 0) → List Template → Known → Name → Work → ℕ → Container → Type 0
IfInside runs below ts k name w j i = (h : Graph) → graph_in ts w ≡ Some h → IsFullAt runs below k (part name j) h i

pub record IsFull (ts : List Template) (k : Known) (runs : Runs) (g : Graph) (input : Container) (below : Known → Graph → Container → Type 0) : Type 0 where
  pub begun : k.begun [] ≡ true
  pub told : All (λ c. k.sent [] c.from c.to (connector_value (out-Graph g).controls c (scope_ends ts k runs g input c.from))
      ≡ connector_value (out-Graph g).controls c (scope_ends ts k runs g input c.from)) (out-Graph g).controls
  pub inside : (a : ℕ) (activity : Activity) → slice_get (out-Graph g).activities a ≡ Some activity
      → joined activity.join (values_at k (out-Graph g).controls (scope_ends ts k runs g input) a) ≡ Some true
      → is_fed (out-Graph g).lines a (scope_ends ts k runs g input) ≡ true
      → Along (IfInside runs below ts k activity.name activity.work) (gives ts k runs activity.name activity.work)
      (trial g a activity (base_of g activity a input (scope_ends ts k runs g input))) k.most 1 (base_of g activity a input (scope_ends ts k runs g input))

abbrev pub Full : List Template → ℕ → Known → Graph → Container → Type 0
Full ts zero k g input = IsFull ts k (output ts zero) g input (λ k' h i. Unit {0})
Full ts (suc depth) k g input = IsFull ts k (output ts (suc depth)) g input (Full ts depth)
