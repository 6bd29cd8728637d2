use Rattle.fdl_parser.specs.Tokens.{StaysWithin}
use Rattle.std.proofs.Common.{◌<◌, length}
use Rattle.fdl_parser.specs.Tokens.{IsLeaf}
use Rattle.fdl_parser.proofs.StopsTokens.{LeafSoFar}
use Rattle.fdl_parser.proofs.cursor.Cursor.leaf.Given as goal

abbrev pub invariant-loop-steps : goal.invariant-loop-steps
invariant-loop-steps l = record {
  shorter : length l.self.left < length l.fn.self.left;
  within : StaysWithin l.fn.self l.self;
  so_far : LeafSoFar l.fn.self.left l.self.left;
  read : IsLeaf (record { steps = l.steps; place = l.place }) l.fn.self.left l.self.left;
}

abbrev pub decreases-loop-steps : goal.decreases-loop-steps
decreases-loop-steps l = length l.self.left
