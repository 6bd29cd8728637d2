-- How fates, phases, modes and rows are written.
use Rattle.std.specs.Prelude.{ℕ, List, [], ◌∷◌, ◌++◌, codes}
use Rattle.std.specs.Fmt.{decimal}
use Rattle.flow_model.specs.Paths.{spelling}
use Rattle.flow_model.specs.declared.instances.Fate.{Fate}
use Rattle.flow_model.specs.declared.instances.Fate.TheVariants as fate
use Rattle.flow_model.specs.declared.instances.Phase.{Phase}
use Rattle.flow_model.specs.declared.instances.Phase.TheVariants as phase
use Rattle.flow_model.specs.declared.instances.Mode.{Mode}
use Rattle.flow_model.specs.declared.instances.Mode.TheVariants as mode
use Rattle.flow_model.specs.declared.instances.Path.{Path}
use Rattle.flow_model.specs.declared.instances.FateRow.{FateRow}

-- a word, a space and a number
abbrev pub numbered : List ℕ → ℕ → List ℕ
numbered word number = word ++ 32 ∷ [] ++ decimal number

-- the word of a fate, and the attempt's number where it has one
abbrev pub fate_text : Fate → List ℕ
fate_text fate.Waiting = codes "WAITING"
fate_text (fate.Ready attempt) = numbered (codes "READY") attempt
fate_text (fate.Running attempt) = numbered (codes "RUNNING") attempt
fate_text (fate.Finished attempt) = numbered (codes "FINISHED") attempt
fate_text fate.Dead = codes "DEAD"

-- the word of a phase
abbrev pub phase_text : Phase → List ℕ
phase_text phase.Ready = codes "READY"
phase_text phase.Running = codes "RUNNING"
phase_text phase.Ended = codes "ENDED"

-- the word of a mode
abbrev pub mode_text : Mode → List ℕ
mode_text mode.Active = codes "ACTIVE"
mode_text mode.Suspended = codes "SUSPENDED"
mode_text mode.Done = codes "DONE"
mode_text mode.Terminated = codes "TERMINATED"

-- a path in single quotes
abbrev pub path_in_quotes : Path → List ℕ
path_in_quotes p = 39 ∷ [] ++ spelling p ++ 39 ∷ []

-- a line: the scope, `/` and the activity's name in one pair of quotes, then the fate
abbrev pub row_text : FateRow → List ℕ
row_text row = 39 ∷ [] ++ spelling row.scope ++ 47 ∷ [] ++ row.name ++ codes "' " ++ fate_text row.fate ++ 10 ∷ []
