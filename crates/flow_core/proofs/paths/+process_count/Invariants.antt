use Rattle.std.proofs.Common.{length}
use Rattle.flow_core.proofs.paths.+process_count.Given as goal

abbrev pub decreases-process_count : goal.decreases-process_count
decreases-process_count l = length l.parts.now
