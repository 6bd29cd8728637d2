use Rattle.std.proofs.Common.{◌≡◌, ap, ◌∙◌, sym, refl, Some}
use Rattle.std.specs.Prelude.{slice_get}
use Rattle.std.specs.Option.{option_map_or}
use Rattle.std.proofs.lemmas.Option.{slice_get_read}
use Rattle.flow_model.specs.declared.instances.Fate.TheVariants.{Waiting}
use Rattle.navigator.specs.Reading.{state_fate}
use Rattle.navigator.proofs.ReadScopes.{shown_fate}
use Rattle.navigator.proofs.scopes.ScopeState.fate.Goals as goal

pub returns-in-Some-clause-shows : goal.returns-in-Some-clause-shows
returns-in-Some-clause-shows c = λ ts depth k g input shows.
    let found = c.in-Some.ensures.lookup in
    let here : slice_get c.deref.result.now c.args.place ≡ Some c.in-Some.state.now = slice_get_read c.deref.result.now _ c.args.place c.in-Some.state.now refl found.3.0 found.1 in
    let there = rw c.deref.ensures.value at here in
    c.fate.ensures ∙ sym (ap (λ o. option_map_or state_fate o Waiting) there) ∙ shown_fate ts depth k g input c.args.self.now shows c.args.place
