use Rattle.std.proofs.Common.{◌+◌, rules}
use Rattle.std.proofs.lemmas.List.{take_rest}
use Rattle.certificates.proofs.Cuts.{cut_found, cut_missed}
use Rattle.certificates.proofs.naming.cut_at_last.Goals as goal

pub returns-in-Some-clause-found : goal.returns-in-Some-clause-found
returns-in-Some-clause-found c =
    cut_found c.args.mark c.args.bytes.now _ c.in-Some.place (take_rest c.args.bytes.now (c.in-Some.place + 1)) (search rules) (search rules) (search rules)

pub returns-in-None-clause-found : goal.returns-in-None-clause-found
returns-in-None-clause-found c = cut_missed c.args.mark c.args.bytes.now (search rules)
