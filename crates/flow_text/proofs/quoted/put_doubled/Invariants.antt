use Rattle.std.proofs.Common.{◌≡◌, ◌++◌, take}
use Rattle.flow_text.specs.Spelling.{doubled}
use Rattle.flow_text.proofs.quoted.put_doubled.Given as goal

abbrev pub invariant-loop-byte : goal.invariant-loop-byte
invariant-loop-byte l = l.out.items ≡ l.initial.out.items ++ doubled (take l.byte-index l.text)
