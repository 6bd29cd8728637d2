use Rattle.std.proofs.Common.{sym, ◌∙◌}
use Rattle.template_store.proofs.store.containers_at.Goals as goal

pub returns-in-Some : goal.returns-in-Some
returns-in-Some c = λ classes ts t all is. all c.args.place t c.in-Some.found is (sym c.nth_containers.ensures ∙ c.in-Some.is)
