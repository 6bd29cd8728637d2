-- Commands that lines say: their words are in range.
use Rattle.std.specs.Prelude.{ℕ, ◌≤◌, Some, List, length}
use Rattle.command_lang.specs.Reading.{SaysCommand}
use Rattle.flow_model.specs.declared.commands.Command.{Command}
use Rattle.flow_model.specs.declared.commands.Command.TheVariants.{Suspend, Resume, Terminate, Delete}
use Rattle.reopening_laws.specs.Ranges.{IsWorded}

-- the root that a command is on, if it is on one, is counted from 1: the grammar allows a 0
abbrev pub NamesNoZero : Command → Type 0
NamesNoZero (Suspend root) = 1 ≤ root
NamesNoZero (Resume root) = 1 ≤ root
NamesNoZero (Terminate root) = 1 ≤ root
NamesNoZero (Delete root) = 1 ≤ root
NamesNoZero command = Unit {0}

-- what a line of at most 65,536 bytes says has its words in range, where the root that it is on is counted from 1
abbrev pub ReadCommandsAreWorded : Type 0
ReadCommandsAreWorded =
    (line : List ℕ) (command : Command) → length line ≤ 65536 → SaysCommand line (Some command) → NamesNoZero command
    → IsWorded command
