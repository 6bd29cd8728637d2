use Rattle.std.proofs.Common.{◌≡◌}
use Rattle.leaf_rules.specs.Classes.{AreClassed, leaves_at}
use Rattle.leaf_rules.specs.TableClasses.{text_classes}
use Rattle.leaf_rules.proofs.structures.Structures.classes.Given as goal

abbrev pub invariant-loop-number : goal.invariant-loop-number
invariant-loop-number l = (l.text.known ≡ l.initial.text.known) × AreClassed (leaves_at l.made) (text_classes l.text) l.found.items
