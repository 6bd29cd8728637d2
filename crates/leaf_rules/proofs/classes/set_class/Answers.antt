use Rattle.leaf_rules.proofs.Classing.{classed_set}
use Rattle.leaf_rules.proofs.classes.set_class.Goals as goal

pub returns-then-number-len : goal.returns-then-number-len
returns-then-number-len c = λ leaves classes here before number class is. classed_set leaves classes c.args.found.now.items c.args.number c.args.class here before number class is
