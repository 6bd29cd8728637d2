use Rattle.std.proofs.Common.{length}
use Rattle.text_words.proofs.completions.+activity_at.Given as goal

abbrev pub decreases-activity_at : goal.decreases-activity_at
decreases-activity_at l = length l.parts.now
