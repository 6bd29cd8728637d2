use Rattle.std.proofs.Common.{List, ℕ, subst}
use Rattle.connector_rules.specs.Walking.{AreInOrder}
use Rattle.connector_rules.proofs.Walking.{pairs_within}
use Rattle.connector_rules.proofs.walks.Walks.new.Goals as goal

pub blocks-requires : goal.blocks-requires
blocks-requires c =
    let elements = c.args.scope.now.elements.now in
    let groups = c.in_ok-groups.groups.items in
    let pairs = c.in_ok-pairs.pairs.items in
    let sorted = subst (λ (gs : List ℕ). AreInOrder elements gs pairs) c.deref.ensures.value c.in_ok-pairs.ensures in
    rw (c.deref-2.ensures.value, c.deref-3.ensures.value) (pairs_within elements groups 0 pairs sorted)
