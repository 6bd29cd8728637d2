use Rattle.std.proofs.Common.{rules}
use Rattle.leaf_rules.specs.Classes.{AreMadeBehind}
use Rattle.leaf_rules.proofs.Classing.{behind_more, last_leaves, one_or_none}
use Rattle.leaf_rules.proofs.members.TextClasses.add.Goals as goal

pub invariant_of-self-2 : goal.invariant_of-self-2
invariant_of-self-2 c = record {
  made =
      one_or_none c.push.result c.args.self.now.added c.push.new.self c.args.class c.push.ensures.ok c.push.ensures.err (AreMadeBehind c.args.self.now.known.now.classes) c.args.self.now.made
      (behind_more c.args.self.now.known.now.classes c.args.self.now.added c.args.class c.args.self.now.made c.requires);
}

pub returns-clause-leaves : goal.returns-clause-leaves
returns-clause-leaves c = last_leaves c.args.self.now.known.now.classes c.args.self.now.added c.push.new.self c.args.class c.in-Some.number (search rules) c.in_ok-push.ensures.ok
