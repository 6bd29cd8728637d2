use Rattle.compaction_laws.proofs.Crashed.{crash_resumes}
use Rattle.compaction_laws.proofs.laws.crashes_resume.Goals as goal

pub returns : goal.returns
returns c = crash_resumes
