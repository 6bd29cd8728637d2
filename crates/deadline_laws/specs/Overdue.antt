-- That what is overdue goes by the machine's state.
use Rattle.std.specs.Prelude.{◌≡◌, ℕ, List}
use Rattle.core_laws.specs.RightStates.{IsRightCore}
use Rattle.deadlines.specs.Texts.{IsOverdueText}
use Rattle.flow_core.specs.declared.state.Core.{Core}
use Rattle.machine_laws.specs.Viewed.{view}

-- Two right states of the engine that the machine sees as one state have the same text of what is overdue. So a store
-- that is opened again, behind a checkpoint too, has the one that it had.
abbrev pub OverdueIsOne : Type 0
OverdueIsOne =
    (c c' : Core) (text text' : List ℕ) → IsRightCore c → IsRightCore c' → view c' ≡ view c → IsOverdueText c text
    → IsOverdueText c' text' → text' ≡ text
