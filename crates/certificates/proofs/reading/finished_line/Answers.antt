use Rattle.std.proofs.Common.{rules}
use Rattle.certificates.proofs.Cuts.{finished_uncut, finished_parts, finished_one}
use Rattle.certificates.proofs.reading.finished_line.Goals as goal

pub returns-in_default-clause-found : goal.returns-in_default-clause-found
returns-in_default-clause-found c = λ p name n path named small is.
    absurd (finished_uncut c.args.rest.now c.in_default.ensures.found p name n small is)

pub returns-in_default-number_of-clause-found : goal.returns-in_default-number_of-clause-found
returns-in_default-number_of-clause-found c = λ p name n path named small is.
    let parts = finished_parts c.args.rest.now c.in-Some.quoted.now c.in-Some.digits.now c.in-Some.ensures.found p name n small is in
    absurd (cc (c.in_default-number_of.ensures n small parts.1))

pub returns-in-Some-2-clause-found : goal.returns-in-Some-2-clause-found
returns-in-Some-2-clause-found c = λ p name n path named small is.
    let parts = finished_parts c.args.rest.now c.in-Some.quoted.now c.in-Some.digits.now c.in-Some.ensures.found p name n small is in
    let found = c.in_ok-scope.ensures.found p name path named parts.0 in
    finished_one c.in-Some-2.scope p c.in-Some-2.name name c.in-Some-number_of.attempt n (c.in-Some-number_of.ensures n small parts.1) (cc (found, c.in-Some-2.is))

pub returns-in-None-clause-found : goal.returns-in-None-clause-found
returns-in-None-clause-found c = λ p name n path named small is.
    let parts = finished_parts c.args.rest.now c.in-Some.quoted.now c.in-Some.digits.now c.in-Some.ensures.found p name n small is in
    absurd (cc (c.in_ok-scope.ensures.found p name path named parts.0, c.in-None.is))
