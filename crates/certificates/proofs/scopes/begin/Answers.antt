use Rattle.std.proofs.Common.{refl, sym, ap, ◌∙◌}
use Rattle.certificates.specs.Kept.{opened_of}
use Rattle.certificates.proofs.Lookups.{at_text}
use Rattle.certificates.proofs.Texts.{begun_told, none_there}
use Rattle.certificates.proofs.scopes.begin.Goals as goal

pub returns-in_ok-insert : goal.returns-in_ok-insert
returns-in_ok-insert c =
    begun_told c.args.scopes.now c.insert.new.self c.in_ok-key.key.items c.args.scope.now c.in_ok-key.ensures c.args.begun (opened_of c.args.begun) refl
    (ap (at_text c.args.scopes.now) (sym c.as_slice.ensures.value) ∙ none_there _ (sym c.contains_key.ensures ∙ c.if-not-contains_key.true))
    c.in_ok-insert.ensures.updates
