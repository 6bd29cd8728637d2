use Rattle.std.proofs.Common.{◌+◌, List, ap, sym, ◌∙◌}
use Rattle.std.proofs.lemmas.List.{drop_all}
use Rattle.flow_model.specs.declared.trees.Member.{Member}
use Rattle.leaf_rules.specs.Counts.{told, members_count}
use Rattle.leaf_rules.specs.Structures.{behind}
use Rattle.leaf_rules.proofs.Counting.{told_whole}
use Rattle.leaf_rules.proofs.structures.Structures.count_of.Goals as goal

pub returns : goal.returns
returns c =
    let structures = behind c.args.self.now.definitions.items in
    let counts = c.args.counts.now in
    let members = c.args.structure.now.members in
    let past = rw c.as_slice-member-items.ensures at c.loop-member-test.false in
    told_whole c.loop-member.count (members_count structures counts members) c.loop-member.invariant.0
    (ap (λ (ms : List Member). told (c.loop-member.count + members_count structures counts ms)) (sym (drop_all c.loop-member.member-index members past)) ∙ c.loop-member.invariant.1)
