use Rattle.fdl_parser.specs.Tokens.{StaysWithin}
use Rattle.std.proofs.Common.{◌<◌, length}
use Rattle.fdl_parser.specs.Items.{AreMembers}
use Rattle.fdl_parser.proofs.cursor.Cursor.structure.Given as goal

abbrev pub invariant-loop-members : goal.invariant-loop-members
invariant-loop-members l = record {
  shorter : length l.self.left < length l.fn.self.left;
  within : StaysWithin l.fn.self l.self;
  read : AreMembers l.members l.initial.self.left l.self.left;
}

abbrev pub decreases-loop-members : goal.decreases-loop-members
decreases-loop-members l = length l.self.left
