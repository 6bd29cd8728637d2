use Rattle.fdl_parser.specs.Tokens.{StaysWithin}
use Rattle.std.proofs.Common.{◌<◌, ◌+◌, ◌*◌, length}
use Rattle.fdl_parser.specs.Conditions.{AreConjoined, AreDisjoined}
use Rattle.fdl_parser.proofs.StopsConditions.{ConjunctionSoFar, DisjunctionSoFar}
use Rattle.fdl_parser.proofs.cursor.Cursor.+condition.Given as goal

abbrev pub decreases-conjunction : goal.decreases-conjunction
decreases-conjunction l = 3 * l.levels + 1

abbrev pub decreases-disjunction : goal.decreases-disjunction
decreases-disjunction l = 3 * l.levels + 2

abbrev pub decreases-negation : goal.decreases-negation
decreases-negation l = 3 * l.levels

abbrev pub invariant-conjunction-loop-self : goal.invariant-conjunction-loop-self
invariant-conjunction-loop-self l = record {
  shorter : length l.self.left < length l.fn.self.left;
  within : StaysWithin l.fn.self l.self;
  so_far : ConjunctionSoFar l.levels l.fn.self.left l.self.left;
  read : AreConjoined l.levels l.members l.fn.self.left l.self.left;
}

abbrev pub decreases-conjunction-loop-self : goal.decreases-conjunction-loop-self
decreases-conjunction-loop-self l = length l.self.left

abbrev pub invariant-disjunction-loop-self : goal.invariant-disjunction-loop-self
invariant-disjunction-loop-self l = record {
  shorter : length l.self.left < length l.fn.self.left;
  within : StaysWithin l.fn.self l.self;
  so_far : DisjunctionSoFar l.levels l.fn.self.left l.self.left;
  read : AreDisjoined l.levels l.members l.fn.self.left l.self.left;
}

abbrev pub decreases-disjunction-loop-self : goal.decreases-disjunction-loop-self
decreases-disjunction-loop-self l = length l.self.left
