use Rattle.std.proofs.Common.{◌≡◌, ◌+◌, ◌^◌, ◌<◌, drop}
use Rattle.leaf_rules.specs.Structures.{behind}
use Rattle.leaf_rules.specs.Counts.{told, members_count}
use Rattle.leaf_rules.proofs.structures.Structures.count_of.Given as goal

abbrev pub invariant-loop-member : goal.invariant-loop-member
invariant-loop-member l =
    (l.count < 2 ^ 64)
    × (told (l.count + members_count (behind l.self.definitions.items) l.counts (drop l.member-index l.structure.members)) ≡ told (members_count (behind l.self.definitions.items) l.counts l.structure.members))
