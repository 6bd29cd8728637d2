use Rattle.fdl_print.proofs.ShowsItems.{reads_as}
use Rattle.fdl_print.proofs.Follows.{reads_only}
use Rattle.fdl_print.proofs.SameText.{one_text}
use Rattle.fdl_print.proofs.laws.reads_back.Goals as goal

pub returns-clause-some : goal.returns-clause-some
returns-clause-some c = reads_as

pub returns-clause-only : goal.returns-clause-only
returns-clause-only c = reads_only

pub returns-clause-text : goal.returns-clause-text
returns-clause-text c = one_text
