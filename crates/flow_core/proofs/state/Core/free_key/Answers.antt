use Rattle.std.proofs.Common.{ℕ, None, option_copied, if◌then◌else◌, List, Option, Bor, ap, sym, ◌∙◌}
use Rattle.std.specs.Str.{bytes_eq}
use Rattle.flow_model.specs.declared.names.Name.{Name as NameOf}
use Rattle.flow_core.specs.Keys.{is_key}
use Rattle.flow_core.proofs.HeldKeys.{at_key, written}
use Rattle.flow_core.proofs.state.Core.free_key.Goals as goal

pub returns-in-Some-clause-held : goal.returns-in-Some-clause-held
returns-in-Some-clause-held c = λ held.
    written c.args.self.now.keys c.swap_remove.new.self c.as_slice.result.now None c.swap_remove.ensures.updates held
    ∙ ap (λ (key : List ℕ). if bytes_eq key held then None else at_key c.args.self.now.keys held) c.as_slice.ensures
    ∙ ap (λ (key : Option (Bor NameOf)). if is_key held (option_copied key) then None else at_key c.args.self.now.keys held)
    (sym c.in-Some.is)
