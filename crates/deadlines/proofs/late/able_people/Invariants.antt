use Rattle.deadlines.proofs.Found.{AreLeft}
use Rattle.deadlines.proofs.late.able_people.Given as goal

abbrev pub invariant-loop-name : goal.invariant-loop-name
invariant-loop-name l = AreLeft l.open_item l.people.entries l._name-iterator l.names
