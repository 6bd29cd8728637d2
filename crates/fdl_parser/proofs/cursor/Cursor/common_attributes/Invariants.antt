use Rattle.fdl_parser.specs.Tokens.{StaysWithin}
use Rattle.std.proofs.Common.{◌≤◌, length}
use Rattle.fdl_parser.specs.Activities.{AreCommonAttributes}
use Rattle.fdl_parser.proofs.cursor.Cursor.common_attributes.Given as goal

abbrev pub invariant-loop-attributes : goal.invariant-loop-attributes
invariant-loop-attributes l = record {
  shorter : length l.self.left ≤ length l.fn.self.left;
  within : StaysWithin l.fn.self l.self;
  read : AreCommonAttributes l.attributes l.fn.self.left l.self.left;
}

abbrev pub decreases-loop-attributes : goal.decreases-loop-attributes
decreases-loop-attributes l = length l.self.left
