use Rattle.std.proofs.Common.{sym, ◌∙◌}
use Rattle.process_rules.proofs.catalog.Catalog.container_classes.Goals as goal

pub returns-in-Some : goal.returns-in-Some
returns-in-Some c = λ t at. c.args.self.now.classed c.args.place t c.in-Some.found at (sym (c.in-Some.ensures ∙ c.get.ensures.value))
