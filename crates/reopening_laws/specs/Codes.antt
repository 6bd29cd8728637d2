-- Outputs that begin with a return code: as each output of an activity does that an Import has made.
use Rattle.std.specs.Prelude.{◌≡◌, ℕ, zero, suc, Some, List, [], ◌∷◌, slice_get}
use Rattle.std.specs.List.{All}
use Rattle.flow_model.specs.ScopeContainers.{graph_in}
use Rattle.flow_model.specs.declared.graphs.Activity.{Activity}
use Rattle.flow_model.specs.declared.graphs.Graph.{Graph, out-Graph}
use Rattle.flow_model.specs.declared.graphs.Leaf.{Leaf}
use Rattle.flow_model.specs.declared.graphs.Template.{Template}
use Rattle.flow_model.specs.declared.instances.Path.{Path}
use Rattle.leaf_rules.specs.ReturnCodes.{return_code}
use Rattle.machine.specs.Items.{Entry}
use Rattle.machine.specs.States.{State, item_of}

-- the first leaf is the return code
abbrev pub BeginsWithCode : List Leaf → Type 0
BeginsWithCode leaves = (others : List Leaf) × (leaves ≡ return_code ∷ others)

-- so it is of the output of an activity, and the graph of its block has this property
pub record HasCodeWith (P : Graph → Type 0) (activity : Activity) : Type 0 where
  pub code : BeginsWithCode activity.output.leaves
  pub inside : (g : Graph) → graph_in [] activity.work ≡ Some g → P g

-- so it is of each activity of a graph, and of the blocks inside it, fewer than this many levels deep
abbrev pub HasCodesTo : ℕ → Graph → Type 0
HasCodesTo zero g = Unit {0}
HasCodesTo (suc depth) g = (a : ℕ) (activity : Activity) → slice_get (out-Graph g).activities a ≡ Some activity
    → HasCodeWith (HasCodesTo depth) activity

-- and of all blocks inside it
abbrev pub HasCodes : Graph → Type 0
HasCodes g = (depth : ℕ) → HasCodesTo depth g

-- so it is of the graphs of all templates of a library
abbrev pub HaveCodes : List Template → Type 0
HaveCodes ts = All (λ t. HasCodes t.graph) ts

-- so it is of the output of each item of a state
abbrev pub ItemsHaveCodes : State → Type 0
ItemsHaveCodes s = (path : Path) (e : Entry) → item_of s path ≡ Some e → BeginsWithCode e.activity.output.leaves
