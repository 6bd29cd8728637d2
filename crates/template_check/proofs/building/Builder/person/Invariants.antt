use Rattle.std.proofs.Common.{◌≡◌, map, take}
use Rattle.template_check.proofs.building.Builder.person.Given as goal

abbrev pub invariant-loop-role : goal.invariant-loop-role
invariant-loop-role l = l.roles ≡ map (λ role. role.name) (take l.role-index l.person.roles)
