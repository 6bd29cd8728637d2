use Rattle.std.proofs.Common.{take, map}
use Rattle.text_graphs.specs.Meeting.{AreMet}
use Rattle.name_rules.proofs.names.second_member.Given as goal

abbrev pub invariant-loop-member : goal.invariant-loop-member
invariant-loop-member l = AreMet l.members (map (λ m. m.name) (take l.member-index l.structure.members))
