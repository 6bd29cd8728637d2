use Rattle.std.proofs.Common.{◌≡◌, drop}
use Rattle.std.specs.List.{list_any, list_all}
use Rattle.flow_model.specs.Conditions.{truth}
use Rattle.conditions.proofs.truth.+value.Given as goal

abbrev pub invariant-loop-member : goal.invariant-loop-member
invariant-loop-member l = list_any (λ e. truth e l.container) (drop l.member-index l.member-items) ≡ truth l.e l.container

abbrev pub invariant-loop-member-2 : goal.invariant-loop-member-2
invariant-loop-member-2 l = list_all (λ e. truth e l.container) (drop l.member-index l.member-items) ≡ truth l.e l.container
