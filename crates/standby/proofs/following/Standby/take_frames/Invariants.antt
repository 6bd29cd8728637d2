use Rattle.std.proofs.Common.{◌≡◌, ◌-◌, ◌≤◌}
use Rattle.core_laws.specs.RightStates.{IsRightCore}
use Rattle.flow_core.specs.Summaries.{summary}
use Rattle.flow_session.specs.Keeping.{IsOpen}
use Rattle.flow_session.specs.Serving.{Makes}
use Rattle.flow_disk.specs.Moments.{LeavesOnly}
use Rattle.standby.specs.Adopting.{TakesAll}
use Rattle.standby.specs.Followed.{StandsBehind}
use Rattle.standby.specs.Stages.{Reaches, stage}
use Rattle.standby.proofs.following.Standby.take_frames.Given as goal

abbrev pub invariant-frames : goal.invariant-frames
invariant-frames g l = record {
  open' : g.D.Disk.tells → IsOpen g.D.Disk.seen g.D.Disk.images l.self.journal.log l.self.journal.disk (summary l.self.core);
  makes : Makes g.D.Disk.tells g.D.Disk.moment g.D.Disk.left_since l.initial.self.journal.disk l.self.journal.disk
      (summary l.initial.self.core) (λ ts. TakesAll l.initial.self.core ts l.self.core);
  stages : IsRightCore l.initial.self.core → g.D.Disk.tells
      → LeavesOnly g.D.Disk.moment g.D.Disk.left_since l.initial.self.journal.disk l.self.journal.disk
      (StandsBehind (stage l.initial.self.core l.initial.self.taken l.initial.number l.initial.blocks
      (g.S.Source.left l.initial.src)));
  source : g.S.Source.faults l.src ≡ g.S.Source.faults l.initial.src;
  disk : g.D.Disk.faults l.self.journal.disk ≡ g.D.Disk.faults l.initial.self.journal.disk;
  counted : l.self.taken ≤ l.blocks.place;
  right : IsRightCore l.initial.self.core → IsRightCore l.self.core;
  reached : IsRightCore l.initial.self.core → Reaches (stage l.initial.self.core l.initial.self.taken l.initial.number l.initial.blocks (g.S.Source.left l.initial.src)) (stage l.self.core l.self.taken l.number l.blocks (g.S.Source.left l.src));
}

abbrev pub decreases-frames : goal.decreases-frames
decreases-frames g l = 268435457 - l.blocks.place
