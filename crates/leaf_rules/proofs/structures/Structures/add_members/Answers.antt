use Rattle.std.proofs.Common.{List, length, take, refl, sym, subst}
use Rattle.std.proofs.lemmas.Option.{slice_get_read}
use Rattle.flow_model.specs.declared.graphs.Leaf.{Leaf}
use Rattle.leaf_rules.specs.Runs.{IsKindMade}
use Rattle.leaf_rules.specs.Structures.{behind}
use Rattle.leaf_rules.specs.StructureLeaves.{members_leaves}
use Rattle.leaf_rules.proofs.Rowing.{kind_grown, member_next}
use Rattle.leaf_rules.proofs.structures.Structures.add_members.Goals as goal

pub loop-member-preserved : goal.loop-member-preserved
loop-member-preserved c = λ inner made.
    let structures = behind c.args.self.now.definitions.items in
    let runs = c.args.runs.now in
    let members = c.args.members.now in
    let i = c.loop-member.member-index in
    let m = c.member-item.result in
    let less = c.loop-member-test.true in
    let old = c.args.table.now in
    let so_far = c.loop-member.invariant inner made in
    let now_made =
    subst (λ (ls : List Leaf). IsKindMade structures runs ls inner m.kind) (sym so_far)
    (kind_grown structures runs inner old (members_leaves inner (take i members)) m.kind (made m (i, less, sym c.member-item.is))) in
    member_next inner members i m old c.loop-member.table c.add_member.new.table (slice_get_read members (length members) i m refl less c.member-item.is) so_far
    (c.in_ok-add_member.ensures inner now_made)
