-- A history that commands make: each of its transactions is the one to which the machine judges a command.
use Rattle.std.specs.Prelude.{◌≡◌, List, [], ◌∷◌}
use Rattle.flow_core.specs.declared.judging.Verdict.TheVariants.{Do}
use Rattle.flow_model.specs.declared.commands.Command.{Command}
use Rattle.flow_model.specs.declared.transactions.Transaction.{Transaction}
use Rattle.machine.specs.States.{State}
use Rattle.machine.specs.Steps.{Steps}
use Rattle.machine.specs.Verdicts.{IsVerdict}

-- Commands make these transactions, one after the other. The turns of a DRAIN are those of commands TURN.
abbrev pub MadeByCommands : State → List Transaction → State → Type 0
MadeByCommands s [] s' = s' ≡ s
MadeByCommands s (t ∷ ts) s' =
    (command : Command) × (mid : State) × IsVerdict s command (Do t) × Steps s t mid × MadeByCommands mid ts s'
