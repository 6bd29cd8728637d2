use Rattle.std.proofs.Common.{Bor, Option, ap, ◌∙◌, map}
use Rattle.std.specs.Option.{option_map}
use Rattle.flow_model.specs.declared.graphs.Graph.{out-Graph}
use Rattle.flow_model.specs.declared.graphs.Template.{Template}
use Rattle.flow_model.specs.declared.trees.ProcessTree.{ProcessTree}
use Rattle.leaf_rules.specs.Leaves.{table_leaves}
use Rattle.process_rules.specs.Callees.{callee_input}
use Rattle.process_rules.proofs.Classed.{classes_at, fits_by_class}
use Rattle.process_rules.proofs.callees.input_fits.Goals as goal

pub returns-then-is_of_class : goal.returns-then-is_of_class
returns-then-is_of_class c =
    let table = c.args.table.now in
    let catalog = c.args.known.now.catalog.now in
    let processes = map (λ (p : Bor ProcessTree). p.now) c.args.known.now.processes.items in
    let t = c.in-Some-template.template.now in
    let found = c.container_classes-class.result in
    let here = classes_at catalog c.catalog.result.now c.catalog-in-Some-template.result.now c.in-Library.place t found c.catalog.ensures c.catalog-in-Some-template.ensures c.in-Some-template.ensures c.container_classes-class.ensures in
    let told = ap (callee_input (table_leaves table) catalog.library processes) c.in-Library.is ∙ ap (λ (o : Option Template). option_map (λ (u : Template). (out-Graph u.graph).input.leaves) o) here.0 in
    let alike = fits_by_class table.known.now catalog.classes table.added found.input (table_leaves table c.args.input.now.name) (out-Graph t.graph).input.leaves _ c.requires here.1.input (c.is_of_class.ensures c.if-is_of_class.true) told in
    (λ yes. alike, λ both. c.if-is_of_class.true)
