use Rattle.std.proofs.Common.{◌≡◌, ◌-◌}
use Rattle.std.specs.List.{list_all}
use Rattle.flow_model.specs.ScopeContainers.{up_to}
use Rattle.certificates.specs.Told.{gave, goes_on}
use Rattle.certificates.specs.Kept.{basis_of, told_by}
use Rattle.certificates.proofs.accepting.all_go_on.Given as goal

-- what is asked of all of them is what is asked of those that are left
abbrev pub invariant-loop-attempt : goal.invariant-loop-attempt
invariant-loop-attempt l =
    list_all (λ j. goes_on l.activity.exit (gave (basis_of l.checker.grounds) (told_by l.scopes) l.scope l.activity.name l.activity.work j)) (up_to (l.attempts - l.attempt) l.attempt)
    ≡ list_all (λ j. goes_on l.activity.exit (gave (basis_of l.checker.grounds) (told_by l.scopes) l.scope l.activity.name l.activity.work j)) (up_to (l.attempts - 1) 1)
