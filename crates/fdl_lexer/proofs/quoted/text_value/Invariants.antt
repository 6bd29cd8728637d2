use Rattle.std.proofs.Common.{◌≡◌, ℕ, ◌+◌, ◌-◌, ◌≤◌, List, length}
use Rattle.fdl_lexer.specs.Bytes.{double_quoted}
use Rattle.fdl_lexer.proofs.Doubled.{IsUnread}
use Rattle.fdl_lexer.proofs.quoted.text_value.Given as goal

abbrev pub invariant-loop-at : goal.invariant-loop-at
invariant-loop-at l = record {
  within : l.at ≤ length l.bytes + 1;
  unread : (value : List ℕ) → l.bytes ≡ double_quoted value → (left : List ℕ) × IsUnread l.bytes l.at l.value.items value left;
}

abbrev pub decreases-loop-at : goal.decreases-loop-at
decreases-loop-at l = length l.bytes - l.at
