-- That the transactions of a session are made by commands.
use Rattle.std.specs.Prelude.{ℕ, List}
use Rattle.flow_core.specs.Summaries.{Summary, summary}
use Rattle.flow_disk.specs.Images.{Image}
use Rattle.flow_disk.specs.declared.disk.Slot.{Slot}
use Rattle.flow_session.specs.Inputs.{Given}
use Rattle.flow_session.specs.Leading.{LeadsBy}
use Rattle.flow_session.specs.Scripts.{ServesAll}
use Rattle.flow_session.specs.Serving.{Makes}
use Rattle.flow_session.specs.declared.serving.Session.{Session}
use Rattle.machine_laws.specs.Viewed.{view}
use Rattle.machine_laws.specs.WholeStates.{IsWhole}
use Rattle.reopening_laws.specs.Making.{MadeByCommands}

-- The transactions that a script makes, of which a crash at any moment leaves a front part, lead from its first state
-- to its last one, and commands make them.
abbrev pub ScriptsMakeByCommands : {J : Type 0} → Type 0 → (J → Summary → Type 0) → (J → ℕ)
    → (J → ℕ → Image → Type 0) → (J → Slot × ℕ) → (J → J → Summary → Type 0) → Type 0
ScriptsMakeByCommands {J} tells holds moment left_since place moved =
    (s : Session) (j : J) (inputs : List Given) (replies : List (List ℕ)) (s' : Session) (j' : J)
    → (tells → holds j (summary s.core))
    → ServesAll tells holds moment left_since place moved s j inputs replies s' j' → IsWhole s.core
    → Makes tells moment left_since j j' (summary s.core)
    (λ ts. LeadsBy s.core ts s'.core × MadeByCommands (view s.core) ts (view s'.core))
