use Rattle.std.proofs.Common.{◌≡◌, drop}
use Rattle.std.specs.List.{list_any}
use Rattle.text_graphs.specs.Attributes.{is_start_manual}
use Rattle.process_rules.proofs.doers.is_manual.Given as goal

abbrev pub invariant-loop-attribute : goal.invariant-loop-attribute
invariant-loop-attribute l = list_any (λ a. is_start_manual a.what) (drop l.attribute-index l.attribute-items) ≡ list_any (λ a. is_start_manual a.what) l.activity.attrs
