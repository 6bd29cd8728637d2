use Rattle.certificates.specs.Kept.{basis_of, told_by, AreLaidTemplates}
use Rattle.certificates.proofs.Progress.{Progress}
use Rattle.certificates.proofs.accepting.accept.Given as goal

-- the lines so far are justified
abbrev pub invariant-loop-number : goal.invariant-loop-number
invariant-loop-number l = AreLaidTemplates l.grounds.library.now.templates → Progress (basis_of l.grounds) l.lines l.number (told_by l.scopes)
