use Rattle.std.proofs.Common.{◌≡◌, ◌++◌, take}
use Rattle.std.specs.List.{flat_map}
use Rattle.flow_core.specs.Answers.{template_line}
use Rattle.flow_core.proofs.listings.write_templates.Given as goal

abbrev pub invariant-loop-template : goal.invariant-loop-template
invariant-loop-template l = l.out.items ≡ l.initial.out.items ++ flat_map template_line (take l.template-index l.templates)
