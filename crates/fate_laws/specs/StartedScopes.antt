-- What holds of the scope to which a path leads, if it has started.
use Rattle.flow_model.specs.Conditions.{holds}
use Rattle.flow_model.specs.Fates.{is_open}
use Rattle.flow_model.specs.ScopeContainers.{graph_in, base_of}
use Rattle.flow_model.specs.Scopes.{Known, at, Gives, Trial, part, gives, is_fed, trial, output, tree_ends, tree_fate}
use Rattle.flow_model.specs.declared.graphs.Activity.{Activity}
use Rattle.flow_model.specs.declared.graphs.Container.{Container}
use Rattle.flow_model.specs.declared.graphs.Graph.{Graph, out-Graph}
use Rattle.flow_model.specs.declared.graphs.Template.{Template}
use Rattle.flow_model.specs.declared.instances.Part.{Part}
use Rattle.std.specs.Prelude.{◌≡◌, ℕ, zero, suc, ◌+◌, true, false, ◌&&◌, Some, List, [], ◌∷◌, slice_get, ◌⊎◌}

-- attempt c is among the n that may start from attempt j on, with this input
abbrev pub Reaches : ℕ → Gives → Trial → ℕ → Container → ℕ → Container → Type 0
Reaches zero gives t j i c i' = ⊥
Reaches (suc n) gives t j i c i' =
    ((j ≡ c) × (i ≡ i')) ⊎ ((out : Container) × (gives j i ≡ Some out) × (holds t.exit out ≡ false)
    × Reaches n gives t (j + 1) (t.loops out) c i')

-- a fact of a scope: its depth, what is known from there on, its graph and its input
abbrev pub ScopeFact : Type 1
ScopeFact = ℕ → Known → Graph → Container → Type 0

-- attempt c of the activity at a place has started, as the scope of this graph and input;
-- at most `most` attempts have given something, and the newest is the one after them
pub record HasStarted (ts : List Template) (depth : ℕ) (k : Known) (g : Graph) (i : Container) (a : ℕ)
    (activity : Activity) (c : ℕ) (h : Graph) (i' : Container) : Type 0 where
  pub is : slice_get (out-Graph g).activities a ≡ Some activity
  pub of : graph_in ts activity.work ≡ Some h
  pub active : (is_open (tree_fate ts depth k g i a) && is_fed (out-Graph g).lines a (tree_ends ts depth k g i)) ≡ true
  pub reach : Reaches (suc k.most) (gives ts k (output ts depth) activity.name activity.work)
      (trial g a activity (base_of g activity a i (tree_ends ts depth k g i))) 1
      (base_of g activity a i (tree_ends ts depth k g i)) c i'

-- the fact holds of the scope at the end of the path, if it has started
abbrev pub AtScope : ScopeFact → List Template → ℕ → Known → Graph → Container → List Part → Type 0
AtScope fact ts depth k g i [] = fact depth k g i
AtScope fact ts zero k g i (q ∷ p) = Unit {0}
AtScope fact ts (suc depth) k g i (q ∷ p) =
    (a : ℕ) (activity : Activity) (c : ℕ) (h : Graph) (i' : Container) → part activity.name c ≡ q
    → HasStarted ts (suc depth) k g i a activity c h i'
    → AtScope fact ts depth (at q k) h i' p
