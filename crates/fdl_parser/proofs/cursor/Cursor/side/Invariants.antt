use Rattle.fdl_parser.specs.Tokens.{StaysWithin}
use Rattle.std.proofs.Common.{◌<◌, length}
use Rattle.fdl_parser.specs.Conditions.{IsSum}
use Rattle.fdl_parser.proofs.StopsConditions.{SumSoFar}
use Rattle.fdl_parser.proofs.cursor.Cursor.side.Given as goal

abbrev pub invariant-loop-terms : goal.invariant-loop-terms
invariant-loop-terms l = record {
  shorter : length l.self.left < length l.fn.self.left;
  within : StaysWithin l.fn.self l.self;
  so_far : SumSoFar l.fn.self.left l.self.left;
  read : IsSum l.terms l.fn.self.left l.self.left;
}

abbrev pub decreases-loop-terms : goal.decreases-loop-terms
decreases-loop-terms l = length l.self.left
