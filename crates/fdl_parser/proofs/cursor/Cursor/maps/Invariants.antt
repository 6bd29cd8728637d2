use Rattle.fdl_parser.specs.Tokens.{StaysWithin}
use Rattle.std.proofs.Common.{◌<◌, length}
use Rattle.fdl_parser.specs.Lines.{AreMaps}
use Rattle.fdl_parser.proofs.StopsLines.{MapsSoFar}
use Rattle.fdl_parser.proofs.cursor.Cursor.maps.Given as goal

abbrev pub invariant-loop-self : goal.invariant-loop-self
invariant-loop-self l = record {
  shorter : length l.self.left < length l.fn.self.left;
  within : StaysWithin l.fn.self l.self;
  so_far : MapsSoFar l.fn.self.left l.self.left;
  read : AreMaps l.maps l.fn.self.left l.self.left;
}

abbrev pub decreases-loop-self : goal.decreases-loop-self
decreases-loop-self l = length l.self.left
