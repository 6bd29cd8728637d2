-- Rules 13 and 14: what the conditions and maps of a graph say of leaves.
use Rattle.std.specs.Prelude.{◌≡◌, ◌≢◌, ℕ, Option, None, Some, List, ◌⊎◌}
use Rattle.conditions.specs.Faults.{unknown_leaf, mismatch, kind_at}
use Rattle.containers.specs.Named.{leaf_place}
use Rattle.flow_model.specs.declared.graphs.Kind.{Kind}
use Rattle.flow_model.specs.declared.graphs.Leaf.{Leaf}
use Rattle.flow_model.specs.declared.trees.ActivityTree.{ActivityTree}
use Rattle.flow_model.specs.declared.trees.Cond.{Cond}
use Rattle.flow_model.specs.declared.trees.CondAt.{CondAt}
use Rattle.flow_model.specs.declared.trees.ControlTree.{ControlTree}
use Rattle.flow_model.specs.declared.trees.DataTree.{DataTree}
use Rattle.flow_model.specs.declared.trees.ElementTree.{ElementTree}
use Rattle.flow_model.specs.declared.trees.LeafAt.{LeafAt}
use Rattle.flow_model.specs.declared.trees.MapTree.{MapTree}
use Rattle.flow_model.specs.declared.trees.WhenTree.{WhenTree}
use Rattle.flow_model.specs.declared.trees.WhenTree.TheVariants as when
use Rattle.text_graphs.specs.Attributes.{exit_said}
use Rattle.text_graphs.specs.Graphs.{GraphAt}
use Rattle.text_graphs.specs.GraphTexts.{GraphText}
use Rattle.text_graphs.specs.Places.{AnyAt}
use Rattle.text_graphs.specs.Texts.{activities_in, controls_in, lines_in}
use Rattle.leaf_rules.specs.Leaves.{with_code, output_leaves, line_source, line_target}
use Rattle.leaf_rules.specs.StructureLeaves.{Leafing}

-- the text of a graph
abbrev pub text_at : GraphAt → GraphText
text_at g = record { process = g.process; input = g.input.name; output = g.output.name; elements = g.elements }

-- ---- where a graph uses leaves

-- the place that is found in a condition; none where there is no condition, or its leaves are not known
abbrev pub IsInCond : (List Leaf → Cond → Option ℕ) → Option (List Leaf) → Option CondAt → ℕ → Type 0
IsInCond finds None cond p = ⊥
IsInCond finds (Some leaves) None p = ⊥
IsInCond finds (Some leaves) (Some c) p = finds leaves c.cond ≡ Some p

-- in an exit condition of an activity, which reads its output
abbrev pub IsInExit : (List Leaf → Cond → Option ℕ) → Leafing → ActivityTree → ℕ → Type 0
IsInExit finds leaves a = AnyAt (λ x. IsInCond finds (with_code (leaves a.output.name)) (exit_said x.what)) a.attrs

-- the condition that stands behind WHEN
abbrev pub when_said : WhenTree → Option CondAt
when_said when.Always = None
when_said (when.Cond c) = Some c
when_said when.Otherwise = None

-- in a transition condition, which reads the output of its source
abbrev pub IsInTransition : (List Leaf → Cond → Option ℕ) → Leafing → List ElementTree → ControlTree → ℕ → Type 0
IsInTransition finds leaves elements c = IsInCond finds (output_leaves leaves elements c.from.name) (when_said c.when)

-- in a map; none where the leaves on either side are not known
abbrev pub IsInMaps : (List Leaf → List Leaf → MapTree → ℕ → Type 0) → Option (List Leaf) → Option (List Leaf)
    → List MapTree → ℕ → Type 0
IsInMaps breaks None to maps p = ⊥
IsInMaps breaks (Some from) None maps p = ⊥
IsInMaps breaks (Some from) (Some to) maps p = AnyAt (breaks from to) maps p

-- in a map of a DATA or LOOP line
abbrev pub IsInLine : (List Leaf → List Leaf → MapTree → ℕ → Type 0) → Leafing → GraphText → DataTree → ℕ → Type 0
IsInLine breaks leaves g l = IsInMaps breaks (line_source leaves g l.ends) (line_target leaves g l.ends) l.maps

-- in a condition or a map of a graph
abbrev pub IsInUses : (List Leaf → Cond → Option ℕ) → (List Leaf → List Leaf → MapTree → ℕ → Type 0) → Leafing → GraphAt
    → ℕ → Type 0
IsInUses finds breaks leaves g p =
    (AnyAt (IsInExit finds leaves) (activities_in g.elements) p
    ⊎ AnyAt (IsInTransition finds leaves g.elements) (controls_in g.elements) p)
    ⊎ AnyAt (IsInLine breaks leaves (text_at g)) (lines_in g.elements) p

-- ---- rule 13

-- the place of a leaf that is none of these
abbrev pub IsNoLeaf : List Leaf → LeafAt → ℕ → Type 0
IsNoLeaf leaves leaf p = (leaf_place leaves leaf.steps ≡ None) × (leaf.place ≡ p)

-- of a map: it reads one side, and writes the other
abbrev pub IsNoLeafIn : List Leaf → List Leaf → MapTree → ℕ → Type 0
IsNoLeafIn from to m p = IsNoLeaf from m.from p ⊎ IsNoLeaf to m.to p

-- of a condition or a map of the graph
abbrev pub ReadsUnknownLeaf : Leafing → GraphAt → ℕ → Type 0
ReadsUnknownLeaf = IsInUses unknown_leaf IsNoLeafIn

-- ---- rule 14

-- the kind of a leaf, if it is one of these
abbrev pub leaf_kind : List Leaf → LeafAt → Option Kind
leaf_kind leaves leaf = kind_at leaves (leaf_place leaves leaf.steps)

-- the place of the second leaf of a map that joins unequal kinds
abbrev pub IsMixed : List Leaf → List Leaf → MapTree → ℕ → Type 0
IsMixed from to m p = (leaf_kind from m.from ≢ leaf_kind to m.to) × (m.to.place ≡ p)

-- of a map, or of a comparison, of the graph
abbrev pub MixesKinds : Leafing → GraphAt → ℕ → Type 0
MixesKinds = IsInUses mismatch IsMixed
