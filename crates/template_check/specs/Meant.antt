-- What a text means: the graph that its elements ask for, where it is known which leaves the names of structures
-- have, and at which places of the library the processes that are named stand.
use Rattle.std.specs.Prelude.{◌≡◌, ℕ, zero, suc, ◌+◌, Option, Some, None, List, [], ◌∷◌, length}
use Rattle.conditions.specs.Resolving.{IsResolved}
use Rattle.containers.specs.Named.{leaf_place}
use Rattle.flow_model.specs.declared.graphs.Activity.{Activity}
use Rattle.flow_model.specs.declared.graphs.Control.{Control}
use Rattle.flow_model.specs.declared.graphs.DataLine.{DataLine}
use Rattle.flow_model.specs.declared.graphs.Expr.{Expr}
use Rattle.flow_model.specs.declared.graphs.Graph.{Graph, out-Graph}
use Rattle.flow_model.specs.declared.graphs.Leaf.{Leaf}
use Rattle.flow_model.specs.declared.graphs.LeafMap.{LeafMap}
use Rattle.flow_model.specs.declared.graphs.LoopLine.{LoopLine}
use Rattle.flow_model.specs.declared.graphs.Template.{Template}
use Rattle.flow_model.specs.declared.graphs.When.{When}
use Rattle.flow_model.specs.declared.graphs.When.TheVariants as when
use Rattle.flow_model.specs.declared.graphs.Work.{Work, Program, Block, Process}
use Rattle.flow_model.specs.declared.trees.ActivityTree.{ActivityTree}
use Rattle.flow_model.specs.declared.trees.Cond.{Cond}
use Rattle.flow_model.specs.declared.trees.CondAt.{CondAt}
use Rattle.flow_model.specs.declared.trees.ControlTree.{ControlTree}
use Rattle.flow_model.specs.declared.trees.DataTree.{DataTree}
use Rattle.flow_model.specs.declared.trees.ElementTree.{ElementTree}
use Rattle.flow_model.specs.declared.trees.EndTree.{EndTree}
use Rattle.flow_model.specs.declared.trees.EndsTree.{EndsTree}
use Rattle.flow_model.specs.declared.trees.EndsTree.TheVariants as ends
use Rattle.flow_model.specs.declared.trees.MapTree.{MapTree}
use Rattle.flow_model.specs.declared.trees.NameAt.{NameAt}
use Rattle.flow_model.specs.declared.trees.ProcessTree.{ProcessTree}
use Rattle.flow_model.specs.declared.trees.WhenTree.{WhenTree}
use Rattle.flow_model.specs.declared.trees.WhenTree.TheVariants as written
use Rattle.flow_model.specs.declared.trees.WorkTree.TheVariants as work
use Rattle.text_graphs.specs.Attributes.{first_said, exit_said, joined_by, program_by}
use Rattle.template_check.specs.Built.{end_in}
use Rattle.template_check.specs.Wires.{AreWired}
use Rattle.process_rules.specs.Calling.{place_meant}
use Rattle.text_graphs.specs.GraphTexts.{GraphText, process_text, block_text}
use Rattle.leaf_rules.specs.Leaves.{Leafing, with_code, output_leaves, line_source, line_target, table_leaves}
use Rattle.text_graphs.specs.Texts.{activities_in, controls_in, lines_in, number_in}
use Rattle.template_check.specs.declared.building.Builder.{Builder}

-- what the names of a text stand for: the leaves of a structure, and the place in the library of the process that an
-- activity runs in the process of a number
pub record Reading : Type 0 where
  pub leaves : List ℕ → Option (List Leaf)
  pub place : ℕ → List ℕ → Option ℕ

-- what they stand for where a text is built
abbrev pub reading_of : Builder → Reading
reading_of builder = record { leaves = table_leaves builder.table; place = place_meant builder.known }

-- in order, what each element gives: nothing or one
pub data AreParts {X Y : Type 0} (R : X → Option Y → Type 0) : List X → List Y → Type 0 where
  NoneLeft : AreParts R [] []
  NoPart : {x : X} {xs : List X} {ys : List Y} → R x None → AreParts R xs ys → AreParts R (x ∷ xs) ys
  OnePart : {x : X} {y : Y} {xs : List X} {ys : List Y} → R x (Some y) → AreParts R xs ys → AreParts R (x ∷ xs) (y ∷ ys)

-- each gives one
abbrev pub IsOne : {X Y : Type 0} → (X → Y → Type 0) → X → Option Y → Type 0
IsOne R x None = ⊥
IsOne R x (Some y) = R x y

-- ---- conditions

-- a condition with places of leaves that are known
abbrev pub IsResolvedBy : Option (List Leaf) → Cond → Expr → Type 0
IsResolvedBy None cond made = ⊥
IsResolvedBy (Some leaves) cond made = IsResolved leaves cond made

-- an exit condition, where there is one
abbrev pub IsExit : Option (List Leaf) → Option CondAt → Option Expr → Type 0
IsExit leaves None None = Unit {0}
IsExit leaves None (Some made) = ⊥
IsExit leaves (Some cond) None = ⊥
IsExit leaves (Some cond) (Some made) = IsResolvedBy leaves cond.cond made

-- a transition condition
abbrev pub IsWhen : Option (List Leaf) → WhenTree → When → Type 0
IsWhen leaves written.Always made = made ≡ when.Always
IsWhen leaves (written.Cond cond) when.Always = ⊥
IsWhen leaves (written.Cond cond) (when.Cond made) = IsResolvedBy leaves cond.cond made
IsWhen leaves (written.Cond cond) when.Otherwise = ⊥
IsWhen leaves written.Otherwise made = made ≡ when.Otherwise

-- a connector: its ends, and its condition on the output of the activity that it leaves
pub record IsControl (leaves : Leafing) (elements : List ElementTree) (control : ControlTree)
    (made : Control) : Type 0 where
  pub from : number_in elements control.from.name ≡ Some made.from
  pub to : number_in elements control.to.name ≡ Some made.to
  pub when : IsWhen (output_leaves leaves elements control.from.name) control.when made.when

-- ---- data

-- a map, by the places of the leaves that it names
pub record IsMap (from to : List Leaf) (map : MapTree) (made : LeafMap) : Type 0 where
  pub reads : leaf_place from map.from.steps ≡ Some made.from
  pub writes : leaf_place to map.to.steps ≡ Some made.to

-- the maps of a line, in order
abbrev pub AreMaps : Option (List Leaf) → Option (List Leaf) → List MapTree → List LeafMap → Type 0
AreMaps None to maps made = ⊥
AreMaps (Some from) None maps made = ⊥
AreMaps (Some from) (Some to) maps made = AreParts (IsOne (IsMap from to)) maps made

-- a line between two ends
pub record IsBetween (leaves : Leafing) (g : GraphText) (from to : EndTree) (line : DataTree)
    (made : DataLine) : Type 0 where
  pub begins : end_in g.elements from ≡ Some made.from
  pub leads : end_in g.elements to ≡ Some made.to
  pub maps : AreMaps (line_source leaves g line.ends) (line_target leaves g line.ends) line.maps made.maps

-- what a line gives to the data lines: a DATA line, one
abbrev pub IsDataBy : Leafing → GraphText → DataTree → EndsTree → Option DataLine → Type 0
IsDataBy leaves g line (ends.Line from to) None = ⊥
IsDataBy leaves g line (ends.Line from to) (Some made) = IsBetween leaves g from to line made
IsDataBy leaves g line (ends.Loop name) made = made ≡ None

abbrev pub IsDataLine : Leafing → GraphText → DataTree → Option DataLine → Type 0
IsDataLine leaves g line made = IsDataBy leaves g line line.ends made

-- a LOOP line of an activity
pub record IsRound (leaves : Leafing) (g : GraphText) (name : NameAt) (line : DataTree) (made : LoopLine) : Type 0 where
  pub of : number_in g.elements name.name ≡ Some made.activity
  pub maps : AreMaps (line_source leaves g line.ends) (line_target leaves g line.ends) line.maps made.maps

-- what a line gives to the LOOP lines
abbrev pub IsLoopBy : Leafing → GraphText → DataTree → EndsTree → Option LoopLine → Type 0
IsLoopBy leaves g line (ends.Line from to) made = made ≡ None
IsLoopBy leaves g line (ends.Loop name) None = ⊥
IsLoopBy leaves g line (ends.Loop name) (Some made) = IsRound leaves g name line made

abbrev pub IsLoopLine : Leafing → GraphText → DataTree → Option LoopLine → Type 0
IsLoopLine leaves g line made = IsLoopBy leaves g line line.ends made

-- ---- activities and graphs

-- the graph of a block has this property
abbrev pub HasInside : (Graph → Type 0) → Work → Type 0
HasInside P (Program p) = ⊥
HasInside P (Block g) = P g
HasInside P (Process t) = ⊥

-- what an activity does: a program with its attributes, the process that its name stands for, or a block of which the
-- graph has this property
pub data IsWork (P : GraphText → Graph → Type 0) (r : Reading) (g : GraphText) (a : ActivityTree)
    (made : Work) : Type 0 where
  ProgramOf : a.work ≡ work.Program → made ≡ Program (program_by g.elements a.attrs) → IsWork P r g a made
  ProcessOf : (name : NameAt) (place : ℕ) → a.work ≡ work.Process name → r.place g.process name.name ≡ Some place
      → made ≡ Process place → IsWork P r g a made
  BlockOf : (inner : List ElementTree) → a.work ≡ work.Block inner → HasInside (P (block_text g.process a inner)) made
      → IsWork P r g a made

-- an activity: its name, work, leaves, join and exit condition, on its output
pub record IsActivity (P : GraphText → Graph → Type 0) (r : Reading) (g : GraphText) (a : ActivityTree)
    (made : Activity) : Type 0 where
  pub named : made.name ≡ a.name.name
  pub works : IsWork P r g a made.work
  pub input : r.leaves a.input.name ≡ Some made.input.leaves
  pub output : with_code (r.leaves a.output.name) ≡ Some made.output.leaves
  pub joined : made.join ≡ joined_by a.attrs
  pub exits : IsExit (with_code (r.leaves a.output.name)) (first_said exit_said a.attrs) made.exit

-- a graph: its leaves, activities, connectors and lines, in the order of the text, and the one wiring that these have
pub record IsMeantWith (P : GraphText → Graph → Type 0) (r : Reading) (g : GraphText) (made : Graph) : Type 0 where
  pub input : r.leaves g.input ≡ Some (out-Graph made).input.leaves
  pub output : r.leaves g.output ≡ Some (out-Graph made).output.leaves
  pub activities : AreParts (IsOne (IsActivity P r g)) (activities_in g.elements) (out-Graph made).activities
  pub controls : AreParts (IsOne (IsControl r.leaves g.elements)) (controls_in g.elements) (out-Graph made).controls
  pub lines : AreParts (IsDataLine r.leaves g) (lines_in g.elements) (out-Graph made).lines
  pub loops : AreParts (IsLoopLine r.leaves g) (lines_in g.elements) (out-Graph made).loops
  pub wired : AreWired (length (out-Graph made).activities) (out-Graph made).controls (out-Graph made).lines
      (out-Graph made).loops (out-Graph made).wiring

-- a graph is meant, and so are the blocks inside it, fewer than this many levels deep
abbrev pub MeantTo : Reading → ℕ → GraphText → Graph → Type 0
MeantTo r zero g made = Unit {0}
MeantTo r (suc depth) g made = IsMeantWith (MeantTo r depth) r g made

-- a graph is meant, with all blocks inside it
abbrev pub IsMeant : Reading → GraphText → Graph → Type 0
IsMeant r g made = (depth : ℕ) → MeantTo r depth g made

-- templates are meant by processes, the first of which has this number
abbrev pub AreMeantFrom : Reading → ℕ → List ProcessTree → List Template → Type 0
AreMeantFrom r number [] [] = Unit {0}
AreMeantFrom r number [] (t ∷ ts) = ⊥
AreMeantFrom r number (p ∷ ps) [] = ⊥
AreMeantFrom r number (p ∷ ps) (t ∷ ts) = IsMeant r (process_text number p) t.graph × AreMeantFrom r (number + 1) ps ts
