-- Roots over the library to which a history of commands leads: their activities have names as they are read.
use Rattle.std.specs.Prelude.{◌≡◌, ℕ, ◌≤◌, Some, List}
use Rattle.flow_model.specs.declared.graphs.Graph.{Graph}
use Rattle.flow_model.specs.declared.transactions.Transaction.{Transaction}
use Rattle.certificates.specs.Told.{Basis, root_graph}
use Rattle.machine.specs.States.{State, blank, templates}
use Rattle.reopening_laws.specs.Making.{MadeByCommands}
use Rattle.explanation_laws.specs.Certified.{AreReadScopes}

-- whatever commands made, and whatever the input and completions of a root are: where its template stands among those of
-- the state, each of its scopes that starts has few activities, with names as they are read
abbrev pub HistoriesAreRead : Type 0
HistoriesAreRead =
    (queues limit : ℕ) (ts : List Transaction) (s : State) → queues ≤ 16 → limit ≤ 10000000
    → MadeByCommands (blank queues limit) ts s → (b : Basis) → b.templates ≡ templates s → (g : Graph)
    → root_graph b ≡ Some g → (depth most : ℕ) → AreReadScopes b g depth most
