use Rattle.std.proofs.Common.{◌≡◌, drop}
use Rattle.text_graphs.specs.Attributes.{first_said, doer_said}
use Rattle.template_check.proofs.building.Builder.done_by.Given as goal

abbrev pub invariant-loop-attribute : goal.invariant-loop-attribute
invariant-loop-attribute l = first_said (doer_said l.scope.elements.now) (drop l.attribute-index l.attribute-items) ≡ first_said (doer_said l.scope.elements.now) l.activity.attrs
