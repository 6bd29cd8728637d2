use Rattle.std.proofs.Common.{length}
use Rattle.flow_core.proofs.paths.+activity_along.Given as goal

abbrev pub decreases-activity_along : goal.decreases-activity_along
decreases-activity_along l = length l.parts.now
