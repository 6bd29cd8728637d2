use Rattle.std.proofs.Common.{ap, ◌∙◌, bytes_eq}
use Rattle.std.specs.HashMap as hash
use Rattle.process_rules.proofs.catalog.Catalog.latest.Goals as goal

pub returns : goal.returns
returns c =
    c.copied.ensures ∙ c.get.ensures.value
    ∙ ap (λ bs. hash.get_by (λ k. bytes_eq bs k.items) c.args.self.now.people) c.as_slice.ensures ∙ c.args.self.now.people_indexed c.args.name.now
