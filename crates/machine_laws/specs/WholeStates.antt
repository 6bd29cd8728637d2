-- What each state that a session serves is: right, with the machine's worklists and keys.
use Rattle.flow_core.specs.declared.state.Core.{Core}
use Rattle.worklist_laws.specs.Shelved.{IsRightAndListed}
use Rattle.machine_laws.specs.Keyed.{AreKeyed}

-- a state is right, its worklists hold exactly its open manual items, and its keys are the machine's
pub record IsWhole (c : Core) : Type 0 where
  pub right : IsRightAndListed c
  pub keyed : AreKeyed c
