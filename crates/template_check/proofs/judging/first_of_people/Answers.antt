use Rattle.std.proofs.Common.{Some, None, refl, inl, inr}
use Rattle.process_rules.specs.Doers.{NamesNoPerson, NamesNoPerformer}
use Rattle.template_check.proofs.InText.{in_text}
use Rattle.template_check.proofs.Passing.{none_found, none_is, some_found}
use Rattle.text_graphs.specs.Texts.{people_in}
use Rattle.template_check.proofs.judging.first_of_people.Goals as goal

pub returns-in-Some-clause-first : goal.returns-in-Some-clause-first
returns-in-Some-clause-first c =
    let people = people_in c.args.tree.now.items in
    let p = c.in-Some.place in
    let h = in_text c.args.tree.now.items c.args.scopes.now c.requires.graphs (NamesNoPerson c.args.known.now.catalog.now.library people) (Some p) (c.in-Some.ensures people c.requires.people) in
    inl (p, refl, h.0, h.1)

pub returns-in-Some-2-clause-first : goal.returns-in-Some-2-clause-first
returns-in-Some-2-clause-first c =
    let people = people_in c.args.tree.now.items in
    let found = in_text c.args.tree.now.items c.args.scopes.now c.requires.graphs in
    let none = found (NamesNoPerson c.args.known.now.catalog.now.library people) None (none_found _ c.unknown_people.result c.in_default.not-Some (c.unknown_people.ensures people c.requires.people)) in
    let p = c.in-Some-2.place in
    let h = found NamesNoPerformer (Some p) (some_found _ c.in_ok-place.field-0 p c.in-Some-2.is c.in_ok-place.ensures) in
    inr (none, inl (p, refl, h.0, h.1))

pub returns-in-None-clause-first : goal.returns-in-None-clause-first
returns-in-None-clause-first c =
    let people = people_in c.args.tree.now.items in
    let found = in_text c.args.tree.now.items c.args.scopes.now c.requires.graphs in
    let none = found (NamesNoPerson c.args.known.now.catalog.now.library people) None (none_found _ c.unknown_people.result c.in_default.not-Some (c.unknown_people.ensures people c.requires.people)) in
    inr (none, inr (found NamesNoPerformer None (none_is _ c.in_ok-place.field-0 c.in-None.is c.in_ok-place.ensures), refl))

pub returns-in-None-clause-performers : goal.returns-in-None-clause-performers
returns-in-None-clause-performers c = λ none p h.
    in_text c.args.tree.now.items c.args.scopes.now c.requires.graphs NamesNoPerformer None (none_is _ c.in_ok-place.field-0 c.in-None.is c.in_ok-place.ensures) p h
