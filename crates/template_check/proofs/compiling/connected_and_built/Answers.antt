use Rattle.std.proofs.Common.{None}
use Rattle.template_check.specs.Rules.{rules_on_connectors, from_leaves, IsFirstBroken}
use Rattle.template_check.proofs.FirstBroken.{then_first}
use Rattle.template_check.proofs.compiling.connected_and_built.Goals as goal

pub returns-in-None-clause-first : goal.returns-in-None-clause-first
returns-in-None-clause-first c =
    let items = c.args.tree.now.items in
    let none : IsFirstBroken (rules_on_connectors items) None = rw c.in-None.is at c.in_ok-fault.ensures.first in
    then_first (rules_on_connectors items) (from_leaves c.args.earlier.now.library items) c.read_and_built.result none c.read_and_built.ensures.first

pub read_and_built-requires-clause-connectors : goal.read_and_built-requires-clause-connectors
read_and_built-requires-clause-connectors c = rw c.in-None.is at c.in_ok-fault.ensures.first
