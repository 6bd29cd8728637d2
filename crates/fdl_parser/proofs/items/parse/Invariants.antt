use Rattle.std.proofs.Common.{length}
use Rattle.fdl_parser.specs.Tokens.{spell, reading, IsRest}
use Rattle.fdl_parser.specs.Items.{AreItems}
use Rattle.fdl_parser.proofs.items.parse.Given as goal

abbrev pub invariant-loop-cursor : goal.invariant-loop-cursor
invariant-loop-cursor l = record {
  read : AreItems l.items (spell l.text l.tokens.items) l.cursor.left;
  within : IsRest (reading l.text l.tokens.items) l.cursor.left l.cursor.end;
}

abbrev pub decreases-loop-cursor : goal.decreases-loop-cursor
decreases-loop-cursor l = length l.cursor.left
