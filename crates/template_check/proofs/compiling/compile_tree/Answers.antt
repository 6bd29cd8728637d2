use Rattle.std.proofs.Common.{◌++◌, Some, None}
use Rattle.template_check.specs.Rules.{rules_on_names, rules_on_structures, from_connectors, IsFirstBroken}
use Rattle.template_check.proofs.FirstBroken.{none_then, some_then, then_first}
use Rattle.template_check.proofs.compiling.compile_tree.Goals as goal

pub returns-in-Some-clause-first : goal.returns-in-Some-clause-first
returns-in-Some-clause-first c =
    let items = c.args.tree.now.items in
    let here : IsFirstBroken (rules_on_names items) (Some c.in-Some.fault) = rw c.in-Some.is at c.in_ok-fault.ensures.first in
    some_then (rules_on_names items) (rules_on_structures items ++ from_connectors c.args.earlier.now.library items) c.in-Some.fault here

pub returns-in-Some-2-clause-first : goal.returns-in-Some-2-clause-first
returns-in-Some-2-clause-first c =
    let items = c.args.tree.now.items in
    let later = from_connectors c.args.earlier.now.library items in
    let none : IsFirstBroken (rules_on_names items) None = rw c.in_default.is at c.in_ok-fault.ensures.first in
    let here : IsFirstBroken (rules_on_structures items) (Some c.in-Some-2.fault) = rw c.in-Some-2.is at c.in_ok-fault-2.ensures.first in
    none_then (rules_on_names items) (rules_on_structures items ++ later) (Some c.in-Some-2.fault) none (some_then (rules_on_structures items) later c.in-Some-2.fault here)

pub connected_and_built-requires-clause-covered : goal.connected_and_built-requires-clause-covered
connected_and_built-requires-clause-covered c = rw c.deref-2.ensures.value c.in_ok-scopes.ensures.covered

pub returns-clause-first : goal.returns-clause-first
returns-clause-first c =
    let items = c.args.tree.now.items in
    let later = from_connectors c.args.earlier.now.library items in
    let none : IsFirstBroken (rules_on_names items) None = rw c.in_default.is at c.in_ok-fault.ensures.first in
    let none' : IsFirstBroken (rules_on_structures items) None = rw c.in_default-2.is at c.in_ok-fault-2.ensures.first in
    then_first (rules_on_names items) (rules_on_structures items ++ later) c.connected_and_built.result none (then_first (rules_on_structures items) later c.connected_and_built.result none' c.connected_and_built.ensures.first)

pub connected_and_built-requires-clause-names : goal.connected_and_built-requires-clause-names
connected_and_built-requires-clause-names c = rw c.in_default.is at c.in_ok-fault.ensures.first
