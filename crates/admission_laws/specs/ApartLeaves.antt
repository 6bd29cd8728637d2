-- Leaves that have names apart: as those of each container have that an Import makes.
use Rattle.std.specs.Prelude.{◌≡◌, ℕ, zero, suc, Some, List, [], ◌∷◌, slice_get}
use Rattle.std.specs.List.{All}
use Rattle.flow_model.specs.ScopeContainers.{graph_in}
use Rattle.flow_model.specs.declared.graphs.Activity.{Activity}
use Rattle.flow_model.specs.declared.graphs.Graph.{Graph, out-Graph}
use Rattle.flow_model.specs.declared.graphs.Leaf.{Leaf}
use Rattle.flow_model.specs.declared.graphs.Template.{Template}
use Rattle.flow_model.specs.declared.instances.Path.{Path}
use Rattle.machine.specs.Items.{Entry}
use Rattle.machine.specs.States.{State, item_of}

-- a leaf has another name than this one
abbrev pub IsNamedApart : Leaf → Leaf → Type 0
IsNamedApart leaf later = later.name.steps ≡ leaf.name.steps → ⊥

-- no two leaves have one name: none has the name of an earlier one
abbrev pub AreLeavesApart : List Leaf → Type 0
AreLeavesApart [] = Unit {0}
AreLeavesApart (leaf ∷ leaves) = All (IsNamedApart leaf) leaves × AreLeavesApart leaves

-- so it is of the output of an activity, and the graph of its block has this property
pub record HasOutputApart (P : Graph → Type 0) (activity : Activity) : Type 0 where
  pub output : AreLeavesApart activity.output.leaves
  pub inside : (g : Graph) → graph_in [] activity.work ≡ Some g → P g

-- so it is of each activity of a graph, and of the blocks inside it, fewer than this many levels deep
abbrev pub HasOutputsApartTo : ℕ → Graph → Type 0
HasOutputsApartTo zero g = Unit {0}
HasOutputsApartTo (suc depth) g = (a : ℕ) (activity : Activity) → slice_get (out-Graph g).activities a ≡ Some activity
    → HasOutputApart (HasOutputsApartTo depth) activity

-- so it is of the input of a graph, and of the outputs of its activities and of those in all blocks inside it
pub record HasLeavesApart (g : Graph) : Type 0 where
  pub input : AreLeavesApart (out-Graph g).input.leaves
  pub outputs : (depth : ℕ) → HasOutputsApartTo depth g

-- so it is of the graphs of all templates of a library
abbrev pub HaveLeavesApart : List Template → Type 0
HaveLeavesApart ts = All (λ t. HasLeavesApart t.graph) ts

-- so it is of the output of each item of a state
abbrev pub ItemsHaveLeavesApart : State → Type 0
ItemsHaveLeavesApart s = (path : Path) (e : Entry) → item_of s path ≡ Some e → AreLeavesApart e.activity.output.leaves
