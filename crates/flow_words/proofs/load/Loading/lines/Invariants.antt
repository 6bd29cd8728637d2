use Rattle.std.proofs.Common.{map, take}
use Rattle.flow_words.specs.Loading.{lines, Serves}
use Rattle.flow_words.proofs.load.Loading.lines.Given as goal

abbrev pub invariant-loop-line : goal.invariant-loop-line
invariant-loop-line l = Serves (lines (map (λ r. r.now) (take l.line-index l.lines))) l.fn.self l.self
