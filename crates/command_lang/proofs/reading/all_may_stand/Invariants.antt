use Rattle.std.proofs.Common.{◌≡◌, take}
use Rattle.std.specs.List.{list_all}
use Rattle.command_lang.specs.Reading.{may_stand}
use Rattle.command_lang.proofs.reading.all_may_stand.Given as goal

abbrev pub invariant-loop-byte : goal.invariant-loop-byte
invariant-loop-byte l = l.good ≡ list_all may_stand (take l.byte-index l.line)
