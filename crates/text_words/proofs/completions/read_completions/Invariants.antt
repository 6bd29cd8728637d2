use Rattle.std.proofs.Common.{drop}
use Rattle.text_words.specs.Completions.{Said, AreRead, said, unsaid}
use Rattle.text_words.proofs.completions.read_completions.Given as goal

abbrev pub invariant-loop-numbered : goal.invariant-loop-numbered
invariant-loop-numbered l = (last : Said) → AreRead l.library.templates l.graph (drop l.numbered-index l.lines) (said l.read) last → AreRead l.library.templates l.graph l.lines unsaid last
