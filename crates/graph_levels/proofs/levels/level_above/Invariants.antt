use Rattle.graph_levels.specs.Filing.{IsJustAbove}
use Rattle.graph_levels.proofs.levels.level_above.Given as goal

abbrev pub invariant-loop-source : goal.invariant-loop-source
invariant-loop-source l = IsJustAbove l.levels l.sources l.source-index l.level
