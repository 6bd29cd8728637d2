use Rattle.std.proofs.Common.{◌≡◌, ◌++◌}
use Rattle.leaf_rules.specs.Classes.{class_leaves}
use Rattle.leaf_rules.proofs.Classing.{IsKeptBy}
use Rattle.leaf_rules.proofs.leaf_classes.LeafClasses.extend.Given as goal

abbrev pub invariant-loop-class : goal.invariant-loop-class
invariant-loop-class l =
    (l.self.classes ≡ l.initial.self.classes ++ l.yielded)
    × IsKeptBy (class_leaves l.initial.self.classes) (class_leaves l.self.classes)
    × (l.fn.added ≡ l.yielded ++ l.class-iterator.rest.items)
