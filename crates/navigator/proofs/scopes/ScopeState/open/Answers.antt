use Rattle.std.proofs.Common.{◌≡◌, Some, refl, ap, ◌∙◌}
use Rattle.std.specs.Prelude.{slice_get}
use Rattle.std.proofs.lemmas.Option.{slice_get_read}
use Rattle.navigator.proofs.scopes.ScopeState.open.Goals as goal

pub returns-in_ok-open_scope-in-Some-Nested : goal.returns-in_ok-open_scope-in-Some-Nested
returns-in_ok-open_scope-in-Some-Nested c = λ fits feeding here.
    let found = c.in-Some-Nested.ensures.lookup in
    let state = c.in-Some-Nested.field-0.now in
    let at : slice_get c.deref.result.now c.args.place ≡ Some state = slice_get_read c.deref.result.now _ c.args.place state refl found.3.0 found.1 in
    let there = (rw c.deref.ensures.value at at) ∙ ap Some c.in-Some-Nested.field-0-is in
    rw there (c.in_ok-open_scope-in-Some-Nested.ensures fits feeding here _ there)
