use Rattle.std.proofs.Common.{ap, ◌∙◌}
use Rattle.std.specs.Option.{option_and_then}
use Rattle.std.specs.Prelude.{slice_get}
use Rattle.process_rules.proofs.catalog.Catalog.person.Goals as goal

pub returns-in-None : goal.returns-in-None
returns-in-None c = ap (option_and_then (λ place. slice_get c.args.self.now.library.people place)) c.in-None.ensures

pub returns-in-Some : goal.returns-in-Some
returns-in-Some c =
    c.person_at.ensures ∙ ap (option_and_then (λ place. slice_get c.args.self.now.library.people place)) c.in-Some.ensures
