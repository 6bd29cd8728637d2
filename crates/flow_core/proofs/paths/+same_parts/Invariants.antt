use Rattle.std.proofs.Common.{length}
use Rattle.flow_core.proofs.paths.+same_parts.Given as goal

-- proposed from what the function passes where it calls itself
abbrev pub decreases-same_parts : goal.decreases-same_parts
decreases-same_parts l = length l.first.now
