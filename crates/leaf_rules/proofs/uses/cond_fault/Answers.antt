use Rattle.std.proofs.Common.{sym, ap, ◌∙◌}
use Rattle.leaf_rules.specs.Searches.{finds_of}
use Rattle.leaf_rules.specs.declared.uses.Search.{Search}
use Rattle.leaf_rules.proofs.uses.cond_fault.Goals as goal

pub returns-in-Unknown : goal.returns-in-Unknown
returns-in-Unknown c = c.first_unknown.ensures c.requires ∙ ap (λ (s : Search). finds_of s c.args.leaves.now.leaves c.args.cond.now) (sym c.in-Unknown.is)

pub returns-in-Mismatch : goal.returns-in-Mismatch
returns-in-Mismatch c = c.first_mismatch.ensures c.requires ∙ ap (λ (s : Search). finds_of s c.args.leaves.now.leaves c.args.cond.now) (sym c.in-Mismatch.is)
