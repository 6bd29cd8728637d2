use Rattle.std.proofs.Common.{List, ◌++◌, sym, ap, subst, ◌∙◌, append-nil}
use Rattle.std.specs.List.{flat_map, range_with_len}
use Rattle.flow_model.specs.declared.graphs.Leaf.{Leaf}
use Rattle.leaf_rules.specs.Runs.{IsKindMade}
use Rattle.leaf_rules.specs.Structures.{behind}
use Rattle.leaf_rules.specs.StructureLeaves.{element_leaves}
use Rattle.leaf_rules.proofs.Rowing.{kind_grown, element_next, member_bare}
use Rattle.leaf_rules.proofs.structures.Structures.add_member.Goals as goal

pub returns-then-not-has_leaves : goal.returns-then-not-has_leaves
returns-then-not-has_leaves c = λ inner made.
    let old = c.args.table.now in
    sym (ap (λ (ls : List Leaf). old ++ ls) (member_bare inner c.args.member.now (c.has_leaves.ensures c.if-not-has_leaves.true old inner made)) ∙ append-nil old)

pub loop-element-preserved : goal.loop-element-preserved
loop-element-preserved c = λ inner made.
    let structures = behind c.args.self.now.definitions.items in
    let runs = c.args.runs.now in
    let m = c.args.member.now in
    let old = c.args.table.now in
    let element = c.loop-element.element in
    let so_far = c.loop-element.invariant inner made in
    let now_made =
    subst (λ (ls : List Leaf). IsKindMade structures runs ls inner m.kind) (sym so_far)
    (kind_grown structures runs inner old (flat_map (element_leaves inner m) (range_with_len 0 element)) m.kind made) in
    element_next inner m element old c.loop-element.table c.add_element.new.table so_far
    (rw (c.in_ok-head.ensures.ok, c.in_ok-copy.ensures, c.in_ok-place.ensures) at (c.in_ok-add_element.ensures inner now_made))
