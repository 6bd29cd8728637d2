use Rattle.std.proofs.Common.{List, [], ◌∷◌}
use Rattle.leaf_rules.specs.Classes.{AreClassesMade, class_leaves}
use Rattle.leaf_rules.specs.declared.leaf_classes.LeafClass.{LeafClass}
use Rattle.leaf_rules.proofs.Classing.{IsKeptBy, classes_kept, made_more, one_or_none}
use Rattle.leaf_rules.proofs.leaf_classes.LeafClasses.push.Goals as goal

pub invariant_of-self-2 : goal.invariant_of-self-2
invariant_of-self-2 c = record {
  made =
      one_or_none c.push.result c.args.self.now.classes c.push.new.self c.args.class c.push.ensures.ok c.push.ensures.err AreClassesMade c.args.self.now.made (made_more c.args.self.now.classes c.args.class c.args.self.now.made c.requires);
}

pub returns-clause-kept : goal.returns-clause-kept
returns-clause-kept c =
    one_or_none c.push.result c.args.self.now.classes c.push.new.self c.args.class c.push.ensures.ok c.push.ensures.err (λ (zs : List LeafClass). IsKeptBy (class_leaves c.args.self.now.classes) (class_leaves zs))
    (λ number leaves is. is) (classes_kept c.args.self.now.classes (c.args.class ∷ []))
