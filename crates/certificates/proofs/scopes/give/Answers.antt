use Rattle.std.proofs.Common.{rules, ◌∙◌}
use Rattle.certificates.specs.Told.{with_output}
use Rattle.certificates.proofs.Texts.{changed_told}
use Rattle.certificates.proofs.scopes.give.Goals as goal

pub returns-in-Some : goal.returns-in-Some
returns-in-Some c =
    changed_told c.args.scopes.now (c.get_mut.follows.lender c.give.new.self) c.as_slice.result.now c.args.scope.now (c.as_slice.ensures.value ∙ c.in_ok-key.ensures)
    (with_output c.args.output) c.in-Some.begun.now c.give.new.self c.in-Some.ensures.value c.give.ensures
    ((c.get_mut.follows.holds c.give.new.self).3 (search rules))
