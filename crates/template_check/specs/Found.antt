-- What building looks up is there: the leaves and activities that the text of a graph names, and the processes that it
-- runs. So it is in each text that breaks no rule.
use Rattle.std.specs.Prelude.{◌≡◌, ℕ, Option, Some, None, List, IsSome}
use Rattle.std.specs.List.{All}
use Rattle.conditions.specs.Resolving.{IsClear}
use Rattle.containers.specs.Named.{leaf_place}
use Rattle.flow_model.specs.declared.graphs.Leaf.{Leaf}
use Rattle.flow_model.specs.declared.trees.ActivityTree.{ActivityTree}
use Rattle.flow_model.specs.declared.trees.AttrTree.{AttrTree}
use Rattle.flow_model.specs.declared.trees.AttrTree.TheVariants as attr
use Rattle.flow_model.specs.declared.trees.Cond.{Cond}
use Rattle.flow_model.specs.declared.trees.CondAt.{CondAt}
use Rattle.flow_model.specs.declared.trees.ControlTree.{ControlTree}
use Rattle.flow_model.specs.declared.trees.DataTree.{DataTree}
use Rattle.flow_model.specs.declared.trees.ElementTree.{ElementTree}
use Rattle.flow_model.specs.declared.trees.EndsTree.{EndsTree}
use Rattle.flow_model.specs.declared.trees.EndsTree.TheVariants as ends
use Rattle.flow_model.specs.declared.trees.ItemTree.{ItemTree}
use Rattle.flow_model.specs.declared.trees.MapTree.{MapTree}
use Rattle.flow_model.specs.declared.trees.NameAt.{NameAt}
use Rattle.flow_model.specs.declared.trees.WhenTree.{WhenTree}
use Rattle.flow_model.specs.declared.trees.WhenTree.TheVariants as written
use Rattle.flow_model.specs.declared.trees.WorkTree.TheVariants as work
use Rattle.leaf_rules.specs.LeafUses.{text_at}
use Rattle.leaf_rules.specs.Leaves.{Leafing, with_code, output_leaves, line_source, line_target}
use Rattle.text_graphs.specs.Attributes.{first_said, exit_said}
use Rattle.text_graphs.specs.Graphs.{GraphAt, IsGraphIn, IsGraphOf}
use Rattle.text_graphs.specs.GraphTexts.{GraphText}
use Rattle.text_graphs.specs.Texts.{activities_in, controls_in, lines_in, number_in}
use Rattle.template_check.specs.Built.{end_in}
use Rattle.template_check.specs.Meant.{Reading}

-- ---- conditions

-- the leaves that a condition reads are known, and nothing stands against it
abbrev pub IsClearBy : Option (List Leaf) → Cond → Type 0
IsClearBy None cond = ⊥
IsClearBy (Some leaves) cond = IsClear leaves cond

-- so it is with an exit condition, where there is one
abbrev pub IsExitFound : Option (List Leaf) → Option CondAt → Type 0
IsExitFound leaves None = Unit {0}
IsExitFound leaves (Some cond) = IsClearBy leaves cond.cond

-- and with a transition condition
abbrev pub IsWhenFound : Option (List Leaf) → WhenTree → Type 0
IsWhenFound leaves written.Always = Unit {0}
IsWhenFound leaves (written.Cond cond) = IsClearBy leaves cond.cond
IsWhenFound leaves written.Otherwise = Unit {0}

-- the ends of a connector are activities, and its condition is found
pub record IsControlFound (leaves : Leafing) (elements : List ElementTree) (control : ControlTree) : Type 0 where
  pub from : IsSome (number_in elements control.from.name)
  pub to : IsSome (number_in elements control.to.name)
  pub when : IsWhenFound (output_leaves leaves elements control.from.name) control.when

-- ---- data

-- the leaves of a map are there
pub record IsMapFound (from to : List Leaf) (map : MapTree) : Type 0 where
  pub reads : IsSome (leaf_place from map.from.steps)
  pub writes : IsSome (leaf_place to map.to.steps)

-- those of the maps of a line are, and the leaves on both sides are known
abbrev pub AreMapsFound : Option (List Leaf) → Option (List Leaf) → List MapTree → Type 0
AreMapsFound None to maps = ⊥
AreMapsFound (Some from) None maps = ⊥
AreMapsFound (Some from) (Some to) maps = All (IsMapFound from to) maps

-- the activities that a line names are there
abbrev pub AreEndsFound : List ElementTree → EndsTree → Type 0
AreEndsFound elements (ends.Line from to) = IsSome (end_in elements from) × IsSome (end_in elements to)
AreEndsFound elements (ends.Loop name) = IsSome (number_in elements name.name)

-- a line has its ends and its maps
pub record IsLineFound (leaves : Leafing) (g : GraphText) (line : DataTree) : Type 0 where
  pub between : AreEndsFound g.elements line.ends
  pub maps : AreMapsFound (line_source leaves g line.ends) (line_target leaves g line.ends) line.maps

-- ---- activities and graphs

-- the activity that PERFORMER OF names is there
abbrev pub IsDoerFound : List ElementTree → AttrTree → Type 0
IsDoerFound elements (attr.When j) = Unit {0}
IsDoerFound elements (attr.Exit c) = Unit {0}
IsDoerFound elements (attr.Start manual) = Unit {0}
IsDoerFound elements (attr.Expires number) = Unit {0}
IsDoerFound elements (attr.Role name) = Unit {0}
IsDoerFound elements (attr.Person name) = Unit {0}
IsDoerFound elements attr.Starter = Unit {0}
IsDoerFound elements (attr.Performer name) = IsSome (number_in elements name.name)

-- an activity has its leaves, its exit condition, those who do it, and the process that it runs
pub record IsActivityFound (r : Reading) (g : GraphText) (a : ActivityTree) : Type 0 where
  pub input : IsSome (r.leaves a.input.name)
  pub output : IsSome (r.leaves a.output.name)
  pub exit : IsExitFound (with_code (r.leaves a.output.name)) (first_said exit_said a.attrs)
  pub doers : All (λ x. IsDoerFound g.elements x.what) a.attrs
  pub callee : (name : NameAt) → a.work ≡ work.Process name → IsSome (r.place g.process name.name)

-- a graph has its leaves, activities, connectors and lines
pub record IsGraphFound (r : Reading) (g : GraphText) : Type 0 where
  pub input : IsSome (r.leaves g.input)
  pub output : IsSome (r.leaves g.output)
  pub activities : All (IsActivityFound r g) (activities_in g.elements)
  pub controls : All (IsControlFound r.leaves g.elements) (controls_in g.elements)
  pub lines : All (IsLineFound r.leaves g) (lines_in g.elements)

-- so has the graph of an activity that is a block, in the process of this number, and each graph inside it
abbrev pub AreFoundInside : Reading → ℕ → ActivityTree → Type 0
AreFoundInside r number a = (g : GraphAt) → IsGraphIn number g a → IsGraphFound r (text_at g)

-- a graph and those of the blocks inside it
pub record AreFound (r : Reading) (g : GraphAt) : Type 0 where
  pub here : IsGraphFound r (text_at g)
  pub inside : All (AreFoundInside r g.process) (activities_in g.elements)

-- all graphs of a text
abbrev pub AreGraphsFound : Reading → List ItemTree → Type 0
AreGraphsFound r items = (g : GraphAt) → IsGraphOf items g → IsGraphFound r (text_at g)
