use Rattle.std.proofs.Common.{◌≡◌, drop}
use Rattle.std.specs.List.{list_any}
use Rattle.process_rules.specs.Doers.{is_performer}
use Rattle.process_rules.proofs.doers.names_performer.Given as goal

abbrev pub invariant-loop-attribute : goal.invariant-loop-attribute
invariant-loop-attribute l = list_any (λ a. is_performer a.what) (drop l.attribute-index l.attribute-items) ≡ list_any (λ a. is_performer a.what) l.activity.attrs
