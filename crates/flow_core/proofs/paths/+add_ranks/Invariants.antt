use Rattle.std.proofs.Common.{length}
use Rattle.flow_core.proofs.paths.+add_ranks.Given as goal

abbrev pub decreases-add_ranks : goal.decreases-add_ranks
decreases-add_ranks l = length l.parts.now
