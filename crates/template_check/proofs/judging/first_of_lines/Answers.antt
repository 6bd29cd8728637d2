use Rattle.std.proofs.Common.{Some, None, refl, inl, inr}
use Rattle.connector_rules.specs.Connectors.{IsOtherwiseWrong, IsUnreachableData}
use Rattle.template_check.proofs.InText.{in_text}
use Rattle.template_check.proofs.Passing.{none_found, none_is, some_found}
use Rattle.template_check.proofs.judging.first_of_lines.Goals as goal

pub returns-in-Some-clause-first : goal.returns-in-Some-clause-first
returns-in-Some-clause-first c =
    let p = c.in-Some.place in
    let h = in_text c.args.tree.now.items c.args.scopes.now c.requires IsOtherwiseWrong (Some p) (some_found _ c.in_ok-place.field-0 p c.in-Some.is c.in_ok-place.ensures) in
    inl (p, refl, h.0, h.1)

pub returns-in-Some-2-clause-first : goal.returns-in-Some-2-clause-first
returns-in-Some-2-clause-first c =
    let found = in_text c.args.tree.now.items c.args.scopes.now c.requires in
    let none = found IsOtherwiseWrong None (none_found _ c.in_ok-place.field-0 c.in_default.not-Some c.in_ok-place.ensures) in
    let p = c.in-Some-2.place in
    let h = found IsUnreachableData (Some p) (some_found _ c.in_ok-place-2.field-0 p c.in-Some-2.is c.in_ok-place-2.ensures.least) in
    inr (none, inl (p, refl, h.0, h.1))

pub returns-in-None-clause-first : goal.returns-in-None-clause-first
returns-in-None-clause-first c =
    let found = in_text c.args.tree.now.items c.args.scopes.now c.requires in
    let none = found IsOtherwiseWrong None (none_found _ c.in_ok-place.field-0 c.in_default.not-Some c.in_ok-place.ensures) in
    inr (none, inr (found IsUnreachableData None (none_is _ c.in_ok-place-2.field-0 c.in-None.is c.in_ok-place-2.ensures.least), refl))
