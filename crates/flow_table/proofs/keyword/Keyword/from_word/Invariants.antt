use Rattle.std.proofs.Common.{◌≡◌, drop}
use Rattle.flow_table.proofs.Apart.{found, first_spelled}
use Rattle.flow_table.proofs.keyword.Keyword.from_word.Given as goal

abbrev pub invariant-loop-keyword : goal.invariant-loop-keyword
invariant-loop-keyword l = found l.word ≡ first_spelled l.word (drop l.keyword-index l.keyword-items)
