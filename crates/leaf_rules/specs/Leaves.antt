-- The leaves that conditions and maps read and write, where the leaves that names of structures have are known.
use Rattle.std.specs.Prelude.{ℕ, Option, List, ◌∷◌, slice_get}
use Rattle.std.specs.Option.{option_map, option_and_then}
use Rattle.flow_model.specs.declared.graphs.Leaf.{Leaf}
use Rattle.flow_model.specs.declared.trees.ElementTree.{ElementTree}
use Rattle.flow_model.specs.declared.trees.EndTree.{EndTree}
use Rattle.flow_model.specs.declared.trees.EndTree.TheVariants as end
use Rattle.flow_model.specs.declared.trees.EndsTree.{EndsTree}
use Rattle.flow_model.specs.declared.trees.EndsTree.TheVariants as ends
use Rattle.text_graphs.specs.GraphTexts.{GraphText}
use Rattle.leaf_rules.specs.ReturnCodes.{return_code}
pub use Rattle.leaf_rules.specs.StructureLeaves.{Leafing}
use Rattle.text_graphs.specs.Texts.{activity_named}
use Rattle.leaf_rules.specs.Structures.{structure_in, behind}
use Rattle.leaf_rules.specs.declared.forms.StructureLeaves.{StructureLeaves}
use Rattle.leaf_rules.specs.declared.members.LeafTable.{LeafTable}

-- the leaves of an output, the return code before the others
abbrev pub with_code : Option (List Leaf) → Option (List Leaf)
with_code leaves = option_map (λ found. return_code ∷ found) leaves

-- the leaves in both forms that a table has for the structure of a name
abbrev pub forms_named : LeafTable → List ℕ → Option StructureLeaves
forms_named table name = option_and_then (λ number. slice_get table.leaves.items number)
    (structure_in (behind table.structures.definitions.items) name)

-- the leaves that it has
abbrev pub table_leaves : LeafTable → Leafing
table_leaves table name = option_map (λ both. both.plain.leaves) (forms_named table name)

-- of the input of an activity
abbrev pub input_leaves : Leafing → List ElementTree → List ℕ → Option (List Leaf)
input_leaves leaves elements name = option_and_then (λ activity. leaves activity.input.name)
    (activity_named elements name)

-- of the output of an activity
abbrev pub output_leaves : Leafing → List ElementTree → List ℕ → Option (List Leaf)
output_leaves leaves elements name = option_and_then (λ activity. with_code (leaves activity.output.name))
    (activity_named elements name)

-- what a DATA line reads: the input of the graph, or the output of an activity
abbrev pub source_leaves : Leafing → GraphText → EndTree → Option (List Leaf)
source_leaves leaves g end.Border = leaves g.input
source_leaves leaves g (end.Activity name) = output_leaves leaves g.elements name.name

-- what a DATA line writes: the output of the graph, or the input of an activity
abbrev pub target_leaves : Leafing → GraphText → EndTree → Option (List Leaf)
target_leaves leaves g end.Border = leaves g.output
target_leaves leaves g (end.Activity name) = input_leaves leaves g.elements name.name

-- what a line reads; a LOOP line reads the output of its activity
abbrev pub line_source : Leafing → GraphText → EndsTree → Option (List Leaf)
line_source leaves g (ends.Line from to) = source_leaves leaves g from
line_source leaves g (ends.Loop name) = output_leaves leaves g.elements name.name

-- what a line writes; a LOOP line writes the input of its activity
abbrev pub line_target : Leafing → GraphText → EndsTree → Option (List Leaf)
line_target leaves g (ends.Line from to) = target_leaves leaves g to
line_target leaves g (ends.Loop name) = input_leaves leaves g.elements name.name
