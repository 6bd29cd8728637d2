use Rattle.std.proofs.Common.{Some, None, refl, inl, inr}
use Rattle.leaf_rules.specs.Structures.{behind}
use Rattle.template_check.proofs.Passing.{names_apart, ends_found, twice_found, unknown_found, none_found, some_found}
use Rattle.template_check.proofs.judging.first_of_names.Goals as goal

pub returns-in-Some-clause-first : goal.returns-in-Some-clause-first
returns-in-Some-clause-first c =
    let p = c.in-Some.place in
    let h = ends_found c.args.tree.now.items c.args.scopes.now c.requires.graphs (Some p) c.in-Some.ensures in
    inl (p, refl, h.0, h.1)

pub returns-in-Some-2-clause-first : goal.returns-in-Some-2-clause-first
returns-in-Some-2-clause-first c =
    let items = c.args.tree.now.items in
    let scopes = c.args.scopes.now in
    let none = ends_found items scopes c.requires.graphs None (none_found _ c.end_name.result c.in_default.not-Some c.end_name.ensures) in
    let p = c.in-Some-2.place in
    let h = twice_found items scopes c.requires.graphs (Some p) (some_found _ c.in_ok-place.field-0 p c.in-Some-2.is c.in_ok-place.ensures) in
    inr (none, inl (p, refl, h.0, h.1))

pub returns-in-Some-unknown_structure-clause-first : goal.returns-in-Some-unknown_structure-clause-first
returns-in-Some-unknown_structure-clause-first c =
    let items = c.args.tree.now.items in
    let scopes = c.args.scopes.now in
    let none = ends_found items scopes c.requires.graphs None (none_found _ c.end_name.result c.in_default.not-Some c.end_name.ensures) in
    let none' = twice_found items scopes c.requires.graphs None (none_found _ c.in_ok-place.field-0 c.in_default-2.not-Some c.in_ok-place.ensures) in
    let p = c.in-Some-unknown_structure.place in
    let h = unknown_found items scopes c.requires.graphs (behind c.args.structures.now.definitions.items) (Some p) c.requires.structures c.in-Some-unknown_structure.ensures in
    inr (none, inr (none', inl (p, refl, h.0, h.1)))

pub returns-in-None-clause-named : goal.returns-in-None-clause-named
returns-in-None-clause-named c =
    λ none. names_apart c.args.tree.now.items c.args.scopes.now (none_found _ c.in_ok-place.field-0 c.in_default-2.not-Some c.in_ok-place.ensures)

pub returns-in-None-clause-first : goal.returns-in-None-clause-first
returns-in-None-clause-first c =
    let items = c.args.tree.now.items in
    let scopes = c.args.scopes.now in
    let none = ends_found items scopes c.requires.graphs None (none_found _ c.end_name.result c.in_default.not-Some c.end_name.ensures) in
    let none' = twice_found items scopes c.requires.graphs None (none_found _ c.in_ok-place.field-0 c.in_default-2.not-Some c.in_ok-place.ensures) in
    let last = unknown_found items scopes c.requires.graphs (behind c.args.structures.now.definitions.items) None c.requires.structures c.in-None.ensures in
    inr (none, inr (none', inr (last, refl)))
