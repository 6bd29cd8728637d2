use Rattle.std.proofs.Common.{◌≡◌, Some, ap, ◌∙◌}
use Rattle.flow_model.specs.Containers.{with_return_code}
use Rattle.navigator.proofs.scopes.ScopeState.inner_output.Goals as goal

pub returns : goal.returns
returns c = λ h is sinking s at.
    let known = c.in-Some.ensures in
    let same : c.in-Some.graph.now ≡ h = cc in
    let found = c.in-Some-inner.ensures in
    let scope : c.in-Some-inner.scope.now ≡ s = cc in
    let out = rw c.deref.ensures.value at (c.in_ok-output.ensures (rw same sinking)) in
    let code = c.in_ok-with_return_code.ensures ∙ ap with_return_code out in
    ap Some (rw (same, scope) at code)
