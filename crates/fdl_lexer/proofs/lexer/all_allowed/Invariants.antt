use Rattle.std.proofs.Common.{◌≡◌, take}
use Rattle.std.specs.List.{list_all}
use Rattle.fdl_lexer.specs.Bytes.{is_allowed}
use Rattle.fdl_lexer.proofs.lexer.all_allowed.Given as goal

abbrev pub invariant-loop-byte : goal.invariant-loop-byte
invariant-loop-byte l = l.good ≡ list_all is_allowed (take l.byte-index l.text)
