use Rattle.std.proofs.Common.{List, ◌++◌, Some, None, subst}
use Rattle.std.specs.List.{All}
use Rattle.flow_model.specs.declared.trees.StructDef.{StructDef}
use Rattle.leaf_rules.specs.Leaves.{table_leaves}
use Rattle.leaf_rules.specs.StructureLeaves.{leaves_in}
use Rattle.leaf_rules.specs.Structures.{behind}
use Rattle.leaf_rules.specs.Tables.{HasContainers}
use Rattle.leaf_rules.proofs.Agreeing.{agreed_everywhere}
use Rattle.text_graphs.specs.Graphs.{graph_at}
use Rattle.text_graphs.specs.Texts.{processes_in}
use Rattle.template_check.specs.Rules.{rules_on_connectors, rules_on_leaves, rules_on_lines, rules_on_names, from_callees, IsFirstBroken}
use Rattle.template_check.proofs.FirstBroken.{none_then, some_then, then_first}
use Rattle.template_check.proofs.Together.{sound_text}
use Rattle.template_check.proofs.compiling.read_and_built.Goals as goal

pub first_of_leaves-requires-clause-leaves : goal.first_of_leaves-requires-clause-leaves
first_of_leaves-requires-clause-leaves c =
    subst (λ (ss : List StructDef). All (λ s. HasContainers (leaves_in ss) (table_leaves c.in_ok-table.table) (graph_at s)) c.args.scopes.now) c.requires.structures
    (agreed_everywhere (leaves_in (behind c.args.structures.definitions.items)) (table_leaves c.in_ok-table.table) c.in_ok-table.ensures.there c.args.scopes.now)

pub returns-in-Some-2-clause-first : goal.returns-in-Some-2-clause-first
returns-in-Some-2-clause-first c =
    let items = c.args.tree.now.items in
    let later = from_callees c.args.earlier.now.library items in
    let here : IsFirstBroken (rules_on_lines items) (Some c.in-Some-2.fault) = rw c.in-Some-2.is at c.in_ok-fault.ensures.first in
    none_then (rules_on_leaves items) (rules_on_lines items ++ later) (Some c.in-Some-2.fault) c.in_default.ensures (some_then (rules_on_lines items) later c.in-Some-2.fault here)

pub called_and_built-requires-clause-sound : goal.called_and_built-requires-clause-sound
called_and_built-requires-clause-sound c = λ limited.
    sound_text c.args.scopes.now (processes_in c.args.tree.now.items) c.requires.named c.requires.connected (c.in_ok-fault.ensures.along c.in_default-2.is) limited c.requires.covered

pub called_and_built-requires-clause-leaves : goal.called_and_built-requires-clause-leaves
called_and_built-requires-clause-leaves c =
    subst (λ (ss : List StructDef). All (λ s. HasContainers (leaves_in ss) (table_leaves c.in_ok-table.table) (graph_at s)) c.args.scopes.now) c.requires.structures
    (agreed_everywhere (leaves_in (behind c.args.structures.definitions.items)) (table_leaves c.in_ok-table.table) c.in_ok-table.ensures.there c.args.scopes.now)

pub returns-clause-first : goal.returns-clause-first
returns-clause-first c =
    let items = c.args.tree.now.items in
    let later = from_callees c.args.earlier.now.library items in
    let none : IsFirstBroken (rules_on_lines items) None = rw c.in_default-2.is at c.in_ok-fault.ensures.first in
    then_first (rules_on_leaves items) (rules_on_lines items ++ later) c.called_and_built.result c.in_default.ensures (then_first (rules_on_lines items) later c.called_and_built.result none c.called_and_built.ensures.first)

pub called_and_built-requires-clause-unbroken : goal.called_and_built-requires-clause-unbroken
called_and_built-requires-clause-unbroken c =
    let items = c.args.tree.now.items in
    none_then (rules_on_names items) (rules_on_connectors items ++ rules_on_leaves items) None c.requires.names
    (none_then (rules_on_connectors items) (rules_on_leaves items) None c.requires.connectors c.in_default.ensures)
