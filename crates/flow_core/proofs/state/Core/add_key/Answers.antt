use Rattle.std.proofs.Common.{ℕ, Some, option_copied, if◌then◌else◌, List, Option, Bor, ap, sym, ◌∙◌}
use Rattle.std.specs.Str.{bytes_eq}
use Rattle.flow_model.specs.declared.names.Name.{Name as NameOf}
use Rattle.flow_core.specs.Keys.{is_key}
use Rattle.flow_core.proofs.HeldKeys.{at_key, written}
use Rattle.flow_core.proofs.state.Core.add_key.Goals as goal

pub returns-in_ok-copy-in-Some-clause-held : goal.returns-in_ok-copy-in-Some-clause-held
returns-in_ok-copy-in-Some-clause-held c = λ held.
    written c.args.self.now.keys c.insert.new.self c.in_ok-bytes-in-Some.bytes.items (Some c.args.root) c.in_ok-insert-in-Some.ensures.updates held
    ∙ ap (λ (key : List ℕ). if bytes_eq key held then Some c.args.root else at_key c.args.self.now.keys held)
    (c.in_ok-bytes-in-Some.ensures.items ∙ c.as_slice.ensures)
    ∙ ap (λ (key : Option (Bor NameOf)). if is_key held (option_copied key) then Some c.args.root else at_key c.args.self.now.keys held)
    (sym c.in-Some.is)
