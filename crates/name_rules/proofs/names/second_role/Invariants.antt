use Rattle.std.proofs.Common.{take}
use Rattle.text_graphs.specs.Meeting.{AreMet}
use Rattle.name_rules.proofs.names.second_role.Given as goal

abbrev pub invariant-loop-role : goal.invariant-loop-role
invariant-loop-role l = AreMet l.roles (take l.role-index l.person.roles)
