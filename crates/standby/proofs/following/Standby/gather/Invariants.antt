use Rattle.std.proofs.Common.{◌≡◌, ◌-◌, ◌≤◌, Option, List, ℕ}
use Rattle.core_laws.specs.RightStates.{IsRightCore}
use Rattle.standby.specs.Readers.{HandsOut}
use Rattle.standby.specs.Stages.{Reaches, stage}
use Rattle.standby.specs.Waiting.{Waits}
use Rattle.standby.proofs.following.Standby.gather.Given as goal

abbrev pub invariant-held : goal.invariant-held
invariant-held g l = record {
  journal : l.self.journal ≡ l.initial.self.journal;
  waits : Waits l.initial.self.core l.initial.batch l.self.core l.batch;
  counted : l.self.taken ≤ l.blocks.place;
  on : l.initial.blocks.place ≤ l.blocks.place;
  hands : HandsOut l.initial.blocks l.blocks;
  right : IsRightCore l.initial.self.core → IsRightCore l.self.core;
  reached : IsRightCore l.initial.self.core → (left : Option (List ℕ))
      → Reaches (stage l.initial.self.core l.initial.self.taken l.initial.number l.initial.blocks left)
      (stage l.self.core l.self.taken l.number l.blocks left);
}

abbrev pub decreases-held : goal.decreases-held
decreases-held g l = 268435457 - l.blocks.place
