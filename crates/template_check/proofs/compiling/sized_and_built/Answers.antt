use Rattle.std.proofs.Common.{◌++◌, Some, None}
use Rattle.leaf_rules.specs.Leaves.{table_leaves}
use Rattle.process_rules.specs.Calling.{callee_meant, place_among}
use Rattle.template_check.specs.Rules.{rules_on_counts, rules_on_sizes, IsFirstBroken}
use Rattle.template_check.proofs.FirstBroken.{none_then}
use Rattle.template_check.proofs.Found.{text_found}
use Rattle.template_check.proofs.compiling.sized_and_built.Goals as goal

pub first_of_counts-requires-clause-structures : goal.first_of_counts-requires-clause-structures
first_of_counts-requires-clause-structures c = rw c.structures-structures.ensures c.requires.structures

pub built-requires-clause-found : goal.built-requires-clause-found
built-requires-clause-found c =
    let items = c.args.tree.now.items in
    let known = c.args.builder.known in
    let counts : IsFirstBroken (rules_on_counts items) None = rw c.in_default-2.is at c.in_ok-fault.ensures.first in
    text_found items (table_leaves c.args.builder.table) (callee_meant known) c.requires.unbroken counts c.requires.leaves
    c.requires.performers c.requires.called (place_among known.catalog.now.library)

pub returns-in-Some-2-clause-first : goal.returns-in-Some-2-clause-first
returns-in-Some-2-clause-first c =
    let items = c.args.tree.now.items in
    let library = c.args.builder.known.catalog.now.library in
    let sizes : IsFirstBroken (rules_on_sizes library items) None = rw c.in_default.is at c.first_of_sizes.ensures in
    let counts : IsFirstBroken (rules_on_counts items) (Some c.in-Some-2.fault) = rw c.in-Some-2.is at c.in_ok-fault.ensures.first in
    none_then (rules_on_sizes library items) (rules_on_counts items) (Some c.in-Some-2.fault) sizes counts

pub returns-clause-first : goal.returns-clause-first
returns-clause-first c =
    let items = c.args.tree.now.items in
    let library = c.args.builder.known.catalog.now.library in
    let sizes : IsFirstBroken (rules_on_sizes library items) None = rw c.in_default.is at c.first_of_sizes.ensures in
    let counts : IsFirstBroken (rules_on_counts items) None = rw c.in_default-2.is at c.in_ok-fault.ensures.first in
    none_then (rules_on_sizes library items) (rules_on_counts items) None sizes counts
