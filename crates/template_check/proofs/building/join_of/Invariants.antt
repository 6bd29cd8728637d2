use Rattle.std.proofs.Common.{◌≡◌, drop}
use Rattle.text_graphs.specs.Attributes.{first_said, join_said}
use Rattle.template_check.proofs.building.join_of.Given as goal

abbrev pub invariant-loop-attribute : goal.invariant-loop-attribute
invariant-loop-attribute l = first_said join_said (drop l.attribute-index l.attribute-items) ≡ first_said join_said l.activity.attrs
