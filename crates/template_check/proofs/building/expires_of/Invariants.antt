use Rattle.std.proofs.Common.{◌≡◌, drop}
use Rattle.text_graphs.specs.Attributes.{first_said, expires_said}
use Rattle.template_check.proofs.building.expires_of.Given as goal

abbrev pub invariant-loop-attribute : goal.invariant-loop-attribute
invariant-loop-attribute l = first_said expires_said (drop l.attribute-index l.attribute-items) ≡ first_said expires_said l.activity.attrs
