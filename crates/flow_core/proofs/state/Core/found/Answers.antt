use Rattle.std.proofs.Common.{ℕ, List, Err, ap, subst, ◌∙◌, inl}
use Rattle.flow_model.specs.Paths.{Spells, SpellsNoPath}
use Rattle.flow_core.specs.Refusals.{between}
use Rattle.flow_core.proofs.Refusing.{found_there}
use Rattle.flow_core.proofs.state.Core.found.Goals as goal

pub returns-in-Ok : goal.returns-in-Ok
returns-in-Ok c =
    found_there c.args.self.now c.args.token.now c.in-Ok.path c.found_at.result
    (subst (λ (bytes : List ℕ). Spells bytes c.in-Ok.path) (c.unquoted.ensures ∙ ap between c.as_slice.ensures) c.in-Ok.ensures.path) c.found_at.ensures.none c.found_at.ensures.found c.found_at.ensures.known

pub returns-in-Err-BadPath : goal.returns-in-Err-BadPath
returns-in-Err-BadPath c =
    inl (subst SpellsNoPath (c.unquoted.ensures ∙ ap between c.as_slice.ensures) (c.in-Err-BadPath.ensures.bad (ap (λ e. Err e) c.in-Err-BadPath.field-0-is)))
