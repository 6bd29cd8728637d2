-- The bound on the number of attempts changes nothing once it is at least the number of completions.
use Rattle.std.specs.Prelude.{◌≡◌, ℕ, suc, ◌≤◌, List, length}
use Rattle.flow_model.specs.declared.graphs.Container.{Container}
use Rattle.flow_model.specs.declared.graphs.Graph.{Graph}
use Rattle.flow_model.specs.declared.graphs.Template.{Template}
use Rattle.flow_model.specs.declared.instances.Fact.{Fact}
use Rattle.flow_model.specs.Rows.{by_facts, deepest, fate_output}
use Rattle.flow_model.specs.Scopes.{Known, output, tree_ends, tree_fate}
use Rattle.fate_laws.specs.WellFormed.{Well}

-- a scope is the same by two accounts of what is known
pub record IsSameScope (ts : List Template) (depth : ℕ) (k k' : Known) (g : Graph) (input : Container) : Type 0 where
  pub ends : (a : ℕ) → tree_ends ts depth k' g input a ≡ tree_ends ts depth k g input a
  pub fates : (a : ℕ) → tree_fate ts depth k' g input a ≡ tree_fate ts depth k g input a
  pub output : output ts (suc depth) k' g input ≡ output ts (suc depth) k g input

-- with any two bounds that are large enough
abbrev pub BoundIsFree : Type 0
BoundIsFree =
    (ts : List Template) (depth most most' : ℕ) (fs : List Fact) (g : Graph) (input : Container) → Well ts depth g
    → length fs ≤ most → length fs ≤ most' → IsSameScope ts depth (by_facts most fs) (by_facts most' fs) g input

-- so a root has one output
abbrev pub RootBoundIsFree : Type 0
RootBoundIsFree =
    (ts : List Template) (most most' : ℕ) (fs : List Fact) (g : Graph) (input : Container) → Well ts deepest g
    → length fs ≤ most → length fs ≤ most' → fate_output ts g input most' fs ≡ fate_output ts g input most fs
