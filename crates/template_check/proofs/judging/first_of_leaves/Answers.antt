use Rattle.std.proofs.Common.{Some, None, refl, inl, inr}
use Rattle.leaf_rules.specs.Leaves.{table_leaves}
use Rattle.leaf_rules.specs.StructureLeaves.{leaves_in}
use Rattle.text_graphs.specs.Texts.{structures_in}
use Rattle.template_check.proofs.Fitting.{unknown_leaves_found, mixed_kinds_found}
use Rattle.template_check.proofs.Passing.{none_found}
use Rattle.template_check.proofs.judging.first_of_leaves.Goals as goal

pub returns-in-Some : goal.returns-in-Some
returns-in-Some c =
    let items = c.args.tree.now.items in
    let p = c.in-Some.place in
    let h = unknown_leaves_found items c.args.scopes.now c.requires.graphs (leaves_in (structures_in items)) (table_leaves c.args.table.now) c.requires.leaves (Some p) c.in-Some.ensures in
    inl (p, refl, h.0, h.1)

pub returns-in-Some-mixed_kinds : goal.returns-in-Some-mixed_kinds
returns-in-Some-mixed_kinds c =
    let items = c.args.tree.now.items in
    let wanted = leaves_in (structures_in items) in
    let there = table_leaves c.args.table.now in
    let none = unknown_leaves_found items c.args.scopes.now c.requires.graphs wanted there c.requires.leaves None (none_found _ c.unknown_leaves.result c.in_default.not-Some c.unknown_leaves.ensures) in
    let p = c.in-Some-mixed_kinds.place in
    let h = mixed_kinds_found items c.args.scopes.now c.requires.graphs wanted there c.requires.leaves (Some p) c.in-Some-mixed_kinds.ensures in
    inr (none, inl (p, refl, h.0, h.1))

pub returns-in-None : goal.returns-in-None
returns-in-None c =
    let items = c.args.tree.now.items in
    let wanted = leaves_in (structures_in items) in
    let there = table_leaves c.args.table.now in
    let none = unknown_leaves_found items c.args.scopes.now c.requires.graphs wanted there c.requires.leaves None (none_found _ c.unknown_leaves.result c.in_default.not-Some c.unknown_leaves.ensures) in
    inr (none, inr (mixed_kinds_found items c.args.scopes.now c.requires.graphs wanted there c.requires.leaves None c.in-None.ensures, refl))
