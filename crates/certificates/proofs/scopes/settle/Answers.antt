use Rattle.std.proofs.Common.{rules, ◌∙◌}
use Rattle.certificates.specs.Told.{with_end}
use Rattle.certificates.proofs.Texts.{changed_told}
use Rattle.certificates.proofs.scopes.settle.Goals as goal

pub returns-in-Some : goal.returns-in-Some
returns-in-Some c =
    changed_told c.args.scopes.now (c.get_mut.follows.lender c.settle.new.self) c.as_slice.result.now c.args.scope.now (c.as_slice.ensures.value ∙ c.in_ok-key.ensures)
    (with_end c.args.place c.args.end) c.in-Some.begun.now c.settle.new.self c.in-Some.ensures.value c.settle.ensures
    ((c.get_mut.follows.holds c.settle.new.self).3 (search rules))
