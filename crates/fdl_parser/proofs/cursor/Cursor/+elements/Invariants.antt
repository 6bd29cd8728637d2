use Rattle.fdl_parser.specs.Tokens.{StaysWithin}
use Rattle.std.proofs.Common.{◌≤◌, ◌+◌, ◌*◌, length}
use Rattle.fdl_parser.specs.Activities.{AreElements}
use Rattle.fdl_parser.proofs.StopsActivities.{ElementsSoFar}
use Rattle.fdl_parser.proofs.cursor.Cursor.+elements.Given as goal

abbrev pub decreases-block : goal.decreases-block
decreases-block l = 3 * l.levels

abbrev pub decreases-element : goal.decreases-element
decreases-element l = 3 * l.levels + 1

abbrev pub decreases-elements : goal.decreases-elements
decreases-elements l = 3 * l.levels + 2

abbrev pub invariant-elements-loop-elements : goal.invariant-elements-loop-elements
invariant-elements-loop-elements l = record {
  shorter : length l.self.left ≤ length l.fn.self.left;
  within : StaysWithin l.fn.self l.self;
  so_far : ElementsSoFar l.levels l.fn.self.left l.self.left;
  read : AreElements l.levels l.elements l.fn.self.left l.self.left;
}

abbrev pub decreases-elements-loop-elements : goal.decreases-elements-loop-elements
decreases-elements-loop-elements l = length l.self.left
