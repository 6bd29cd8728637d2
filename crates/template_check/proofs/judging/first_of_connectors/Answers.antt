use Rattle.std.proofs.Common.{Some, None, refl, inl, inr}
use Rattle.connector_rules.specs.Connectors.{NamesNobody, IsDouble, IsOnCycle, IsEmptyGraph}
use Rattle.template_check.proofs.InText.{in_text}
use Rattle.template_check.proofs.Passing.{connected, is_none, none_found, some_found}
use Rattle.template_check.proofs.judging.first_of_connectors.Goals as goal

pub returns-in-Some-clause-first : goal.returns-in-Some-clause-first
returns-in-Some-clause-first c =
    let p = c.in-Some.place in
    let h = in_text c.args.tree.now.items c.args.scopes.now c.requires NamesNobody (Some p) c.in-Some.ensures in
    inl (p, refl, h.0, h.1)

pub returns-in-Some-2-clause-first : goal.returns-in-Some-2-clause-first
returns-in-Some-2-clause-first c =
    let found = in_text c.args.tree.now.items c.args.scopes.now c.requires in
    let none = found NamesNobody None (none_found _ c.unknown_activity.result c.in_default.not-Some c.unknown_activity.ensures) in
    let p = c.in-Some-2.place in
    let h = found IsDouble (Some p) (some_found _ c.in_ok-place.field-0 p c.in-Some-2.is c.in_ok-place.ensures) in
    inr (none, inl (p, refl, h.0, h.1))

pub returns-in-Some-3-clause-first : goal.returns-in-Some-3-clause-first
returns-in-Some-3-clause-first c =
    let found = in_text c.args.tree.now.items c.args.scopes.now c.requires in
    let none = found NamesNobody None (none_found _ c.unknown_activity.result c.in_default.not-Some c.unknown_activity.ensures) in
    let single = found IsDouble None (none_found _ c.in_ok-place.field-0 c.in_default-2.not-Some c.in_ok-place.ensures) in
    let p = c.in-Some-3.place in
    let h = found IsOnCycle (Some p) (some_found _ c.in_ok-place-2.field-0 p c.in-Some-3.is c.in_ok-place-2.ensures.least) in
    inr (none, inr (single, inl (p, refl, h.0, h.1)))

pub returns-in-Some-empty_graph-clause-first : goal.returns-in-Some-empty_graph-clause-first
returns-in-Some-empty_graph-clause-first c =
    let found = in_text c.args.tree.now.items c.args.scopes.now c.requires in
    let none = found NamesNobody None (none_found _ c.unknown_activity.result c.in_default.not-Some c.unknown_activity.ensures) in
    let single = found IsDouble None (none_found _ c.in_ok-place.field-0 c.in_default-2.not-Some c.in_ok-place.ensures) in
    let acyclic = found IsOnCycle None (none_found _ c.in_ok-place-2.field-0 c.in_default-3.not-Some c.in_ok-place-2.ensures.least) in
    let p = c.in-Some-empty_graph.place in
    let h = found IsEmptyGraph (Some p) c.in-Some-empty_graph.ensures in
    inr (none, inr (single, inr (acyclic, inl (p, refl, h.0, h.1))))

pub returns-in-None-clause-connected : goal.returns-in-None-clause-connected
returns-in-None-clause-connected c =
    λ none. connected c.args.scopes.now (none_found _ c.in_ok-place.field-0 c.in_default-2.not-Some c.in_ok-place.ensures)
    (c.in_ok-place-2.ensures.acyclic (is_none c.in_ok-place-2.field-0 c.in_default-3.not-Some)) c.in-None.ensures

pub returns-in-None-clause-first : goal.returns-in-None-clause-first
returns-in-None-clause-first c =
    let found = in_text c.args.tree.now.items c.args.scopes.now c.requires in
    let none = found NamesNobody None (none_found _ c.unknown_activity.result c.in_default.not-Some c.unknown_activity.ensures) in
    let single = found IsDouble None (none_found _ c.in_ok-place.field-0 c.in_default-2.not-Some c.in_ok-place.ensures) in
    let acyclic = found IsOnCycle None (none_found _ c.in_ok-place-2.field-0 c.in_default-3.not-Some c.in_ok-place-2.ensures.least) in
    inr (none, inr (single, inr (acyclic, inr (found IsEmptyGraph None c.in-None.ensures, refl))))
