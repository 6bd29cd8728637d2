use Rattle.std.proofs.Common.{subst}
use Rattle.text_graphs.specs.Places.{IsLeastOf}
use Rattle.leaf_rules.specs.KindEdges.{IsInStructureCycle}
use Rattle.leaf_rules.specs.Structures.{behind}
use Rattle.leaf_rules.proofs.Cycles.{none_where, some_where}
use Rattle.leaf_rules.proofs.structures.Structures.cycle.Goals as goal

pub returns-in-Some-clause-least : goal.returns-in-Some-clause-least
returns-in-Some-clause-least c =
    let edges = c.in_ok-edges.edges in
    none_where (behind c.args.self.now.definitions.items) edges.nodes edges.pairs.items c.in_ok-edges.ensures.nodes c.in_ok-edges.ensures.pairs c.in_ok-order.field-0 c.in_ok-order.ensures c.in-Some.order c.in-Some.is

pub returns-clause-counted : goal.returns-clause-counted
returns-clause-counted c = λ none.
    let edges = c.in_ok-edges.edges in
    let structures = behind c.args.self.now.definitions.items in
    absurd (some_where structures edges.nodes edges.pairs.items c.in_ok-edges.ensures.nodes c.in_ok-edges.ensures.pairs c.in_ok-order.field-0 c.in_ok-order.ensures edges.within c.in-None.is
    (subst (IsLeastOf (IsInStructureCycle structures)) none c.least_closed.ensures))

pub returns-clause-ordered : goal.returns-clause-ordered
returns-clause-ordered c = λ none.
    let edges = c.in_ok-edges.edges in
    let structures = behind c.args.self.now.definitions.items in
    absurd (some_where structures edges.nodes edges.pairs.items c.in_ok-edges.ensures.nodes c.in_ok-edges.ensures.pairs c.in_ok-order.field-0 c.in_ok-order.ensures edges.within c.in-None.is
    (subst (IsLeastOf (IsInStructureCycle structures)) none c.least_closed.ensures))
