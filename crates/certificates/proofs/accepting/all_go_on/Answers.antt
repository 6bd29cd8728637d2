use Rattle.std.proofs.Common.{sym, ◌∙◌}
use Rattle.certificates.specs.Told.{gave, goes_on}
use Rattle.certificates.specs.Kept.{basis_of, told_by}
use Rattle.certificates.proofs.Attempts.{all_more}
use Rattle.certificates.proofs.accepting.all_go_on.Goals as goal

pub loop-attempt-preserved : goal.loop-attempt-preserved
loop-attempt-preserved c =
    let activity = c.args.activity.now in
    sym (all_more (λ j. goes_on activity.exit (gave (basis_of c.args.checker.now.grounds) (told_by c.args.scopes.now) c.args.scope.now activity.name activity.work j)) c.args.attempts c.loop-attempt.attempt
    c.loop-attempt-test.true (sym c.in_ok-attempt_goes_on.ensures ∙ c.if-not-branch.false))
    ∙ c.loop-attempt.invariant
