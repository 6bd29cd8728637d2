use Rattle.std.proofs.Common.{◌≡◌, ◌+◌, ◌-◌, ◌^◌, ◌≤◌, length, drop, sum_by}
use Rattle.conditions.specs.Sizes.{told, operands_of, nodes_of}
use Rattle.conditions.proofs.faults.+size.Given as goal

abbrev pub invariant-size_among-loop-member : goal.invariant-size_among-loop-member
invariant-size_among-loop-member l = record {
  operands_fit : l.size.operands ≤ 2 ^ 64 - 1;
  nodes_fit : l.size.nodes ≤ 2 ^ 64 - 1;
  operands : told (l.size.operands + sum_by operands_of (drop l.member-index l.members)) ≡ told (sum_by operands_of l.members);
  nodes : told (l.size.nodes + sum_by nodes_of (drop l.member-index l.members)) ≡ told (sum_by nodes_of l.members + (length l.members - 1));
}
