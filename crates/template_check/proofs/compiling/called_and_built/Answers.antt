use Rattle.std.proofs.Common.{◌++◌, Some, None, subst}
use Rattle.std.specs.Prelude.{IfOk}
use Rattle.process_rules.specs.declared.catalog.Catalog.{Catalog}
use Rattle.leaf_rules.specs.Leaves.{table_leaves}
use Rattle.leaf_rules.specs.StructureLeaves.{leaves_in}
use Rattle.leaf_rules.specs.declared.leaf_classes.LeafClasses.{LeafClasses}
use Rattle.text_graphs.specs.Texts.{structures_in}
use Rattle.template_check.specs.Classed.{IsClassed}
use Rattle.template_check.specs.Compiling.{AreBuilt}
use Rattle.template_check.specs.Rules.{fault_in, rules_on_callees, rules_on_people, from_sizes, IsFirstBroken}
use Rattle.template_check.proofs.Fitting.{of_graph}
use Rattle.template_check.proofs.FirstBroken.{none_then, some_then, then_first}
use Rattle.template_check.proofs.compiling.called_and_built.Goals as goal

pub returns-in-Some-clause-first : goal.returns-in-Some-clause-first
returns-in-Some-clause-first c =
    let items = c.args.tree.now.items in
    let library = c.args.earlier.now.library in
    let known = c.in_ok-known.known.catalog.now in
    let callees : IsFirstBroken (rules_on_callees known.library items) (Some c.in-Some.fault) = rw c.in-Some.is at c.in_ok-fault.ensures.first in
    let here = subst (λ (k : Catalog). IsFirstBroken (rules_on_callees k.library items) (Some c.in-Some.fault)) c.in_ok-known.ensures.catalog callees in
    some_then (rules_on_callees library items) (rules_on_people library items ++ from_sizes library items) c.in-Some.fault here

pub returns-in-Some-2-clause-first : goal.returns-in-Some-2-clause-first
returns-in-Some-2-clause-first c =
    let items = c.args.tree.now.items in
    let library = c.args.earlier.now.library in
    let known = c.in_ok-known.known.catalog.now in
    let people : IsFirstBroken (rules_on_people known.library items) (Some c.in-Some-2.fault) = rw c.in-Some-2.is at c.in_ok-fault-2.ensures.first in
    let callees : IsFirstBroken (rules_on_callees known.library items) None = rw c.in_default.is at c.in_ok-fault.ensures.first in
    let none = subst (λ (k : Catalog). IsFirstBroken (rules_on_callees k.library items) None) c.in_ok-known.ensures.catalog callees in
    let here = subst (λ (k : Catalog). IsFirstBroken (rules_on_people k.library items) (Some c.in-Some-2.fault)) c.in_ok-known.ensures.catalog people in
    none_then (rules_on_callees library items) (rules_on_people library items ++ from_sizes library items) (Some c.in-Some-2.fault) none (some_then (rules_on_people library items) (from_sizes library items) c.in-Some-2.fault here)

pub sized_and_built-requires-clause-leaves : goal.sized_and_built-requires-clause-leaves
sized_and_built-requires-clause-leaves c =
    let items = c.args.tree.now.items in
    of_graph items c.args.scopes.now c.requires.graphs (leaves_in (structures_in items)) (table_leaves c.args.table) c.requires.leaves

pub returns-clause-built : goal.returns-clause-built
returns-clause-built c =
    subst (λ (k : Catalog). IfOk c.sized_and_built.result (λ judged. IfOk judged (AreBuilt k.library c.args.tree.now.items))) c.in_ok-known.ensures.catalog c.sized_and_built.ensures.built

pub returns-clause-classed : goal.returns-clause-classed
returns-clause-classed c =
    subst (λ (k : LeafClasses). IfOk c.sized_and_built.result (λ judged. IfOk judged (IsClassed k.classes))) c.requires.known c.sized_and_built.ensures.classed

pub returns-clause-first : goal.returns-clause-first
returns-clause-first c =
    let items = c.args.tree.now.items in
    let library = c.args.earlier.now.library in
    let known = c.in_ok-known.known.catalog.now in
    let people : IsFirstBroken (rules_on_people known.library items) None = rw c.in_default-2.is at c.in_ok-fault-2.ensures.first in
    let callees : IsFirstBroken (rules_on_callees known.library items) None = rw c.in_default.is at c.in_ok-fault.ensures.first in
    let none = subst (λ (k : Catalog). IsFirstBroken (rules_on_callees k.library items) None) c.in_ok-known.ensures.catalog callees in
    let none' = subst (λ (k : Catalog). IsFirstBroken (rules_on_people k.library items) None) c.in_ok-known.ensures.catalog people in
    let rest = subst (λ (k : Catalog). IfOk c.sized_and_built.result (λ judged. IsFirstBroken (from_sizes k.library items) (fault_in judged))) c.in_ok-known.ensures.catalog c.sized_and_built.ensures.first in
    then_first (rules_on_callees library items) (rules_on_people library items ++ from_sizes library items) c.sized_and_built.result none
    (then_first (rules_on_people library items) (from_sizes library items) c.sized_and_built.result none' rest)

pub sized_and_built-requires-clause-performers : goal.sized_and_built-requires-clause-performers
sized_and_built-requires-clause-performers c = c.in_ok-fault-2.ensures.performers c.in_default-2.is

pub sized_and_built-requires-clause-called : goal.sized_and_built-requires-clause-called
sized_and_built-requires-clause-called c = c.in_ok-fault.ensures.called c.in_default.is
