use Rattle.std.proofs.Common.{rules}
use Rattle.certificates.proofs.Cuts.{names_one, names_none}
use Rattle.certificates.proofs.naming.named_activity.Goals as goal

pub returns-in-Some-3-clause-one : goal.returns-in-Some-3-clause-one
returns-in-Some-3-clause-one c =
    names_one c.args.word.now c.in-Some.before.now c.in-Some.behind.now c.in-Some-2.scope c.in-Some-3.name c.in-Some.ensures.found (search rules) (search rules)

pub returns-in-None-clause-none : goal.returns-in-None-clause-none
returns-in-None-clause-none c =
    λ none. names_none c.args.word.now c.in-Some.before.now c.in-Some.behind.now c.in-Some.ensures.found (search rules)
