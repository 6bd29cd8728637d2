use Rattle.std.proofs.Common.{ap, sym, ◌∙◌, bytes_eq}
use Rattle.std.specs.List.{list_any}
use Rattle.std.specs.Option.{is_some}
use Rattle.process_rules.proofs.Knowing.{person_first, person_second, copied_some}
use Rattle.process_rules.proofs.people.Known.is_person.Goals as goal

pub returns-then-contains : goal.returns-then-contains
returns-then-contains c = λ people are.
    let keys = c.args.self.now.people.keys in
    let met = ap (λ bs. list_any (λ k. bytes_eq bs k.now) keys) (sym c.as_slice.ensures) ∙ sym c.contains.ensures ∙ c.if-contains.true in
    c.if-contains.true ∙ person_first c.args.self.now people are c.args.name.now.name met

pub returns-else-contains : goal.returns-else-contains
returns-else-contains c = λ people are.
    let keys = c.args.self.now.people.keys in
    let met = ap (λ bs. list_any (λ k. bytes_eq bs k.now) keys) (sym c.as_slice.ensures) ∙ sym c.contains.ensures ∙ c.if-contains.false in
    c.is_some.ensures ∙ copied_some c.person.result ∙ ap is_some c.person.ensures ∙ person_second c.args.self.now people are c.args.name.now.name met
