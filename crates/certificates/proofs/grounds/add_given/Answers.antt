use Rattle.std.proofs.Common.{refl, sym, ap, ◌∙◌}
use Rattle.certificates.proofs.Lookups.{at_text}
use Rattle.certificates.proofs.Texts.{added_given, none_there}
use Rattle.certificates.proofs.grounds.add_given.Goals as goal

pub returns-in_ok-insert : goal.returns-in_ok-insert
returns-in_ok-insert c =
    added_given c.args.given.now c.insert.new.self c.in_ok-key.key.items c.args.fact.now c.in_ok-key.ensures _ refl
    (ap (at_text c.args.given.now) (sym c.as_slice.ensures.value) ∙ none_there _ (sym c.contains_key.ensures ∙ c.if-not-contains_key.true))
    c.in_ok-insert.ensures.updates
