use Rattle.deadlines.proofs.Declared.{AreLeft, IsRising}
use Rattle.deadlines.proofs.late.people_of.Given as goal

abbrev pub invariant-loop-person : goal.invariant-loop-person
invariant-loop-person l = IsRising l.people × AreLeft l.library.people l.person-index l.people
