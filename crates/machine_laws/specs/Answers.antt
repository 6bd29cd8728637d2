-- The reply to a query over the engine's state is its reply over the state of the machine.
use Rattle.std.specs.Prelude.{ℕ, List}
use Rattle.core_laws.specs.RightStates.{IsRightState}
use Rattle.flow_core.specs.Queries as engine
use Rattle.flow_core.specs.declared.state.Core.{Core}
use Rattle.flow_model.specs.declared.commands.Query.{Query}
use Rattle.flow_model.specs.declared.commands.Query.TheVariants.{Show, Output, Input, Worklist, Queue, Audit, Templates}
use Rattle.machine.specs.Answers as machine
use Rattle.view_laws.specs.Runs.{Event}
use Rattle.worklist_laws.specs.Shelved.{IsRightAndListed}
use Rattle.machine_laws.specs.Viewed.{view}

-- what is replied to a query over the engine's state is its reply over the machine's
abbrev pub IsSeen : Core → Query → List ℕ → Type 0
IsSeen c query text = engine.IsAnswer c query text → machine.IsAnswer (view c) query text

-- so it is of QUEUE in each state
abbrev pub QueuesAreSeen : Type 0
QueuesAreSeen = (c : Core) (number : ℕ) (text : List ℕ) → IsSeen c (Queue number) text

-- and of AUDIT
abbrev pub AuditsAreSeen : Type 0
AuditsAreSeen = (c : Core) (root : ℕ) (text : List ℕ) → IsSeen c (Audit root) text

-- and of TEMPLATES
abbrev pub TemplatesAreSeen : Type 0
TemplatesAreSeen = (c : Core) (text : List ℕ) → IsSeen c Templates text

-- in a right state so it is of OUTPUT
abbrev pub OutputsAreSeen : Type 0
OutputsAreSeen =
    (c : Core) (runs : ℕ → List Event) (root : ℕ) (text : List ℕ) → IsRightState c runs → IsSeen c (Output root) text

-- and of INPUT
abbrev pub InputsAreSeen : Type 0
InputsAreSeen =
    (c : Core) (runs : ℕ → List Event) (token text : List ℕ) → IsRightState c runs → IsSeen c (Input token) text

-- in a right state whose worklists hold exactly its open manual items it is so of WORKLIST
abbrev pub WorklistsAreSeen : Type 0
WorklistsAreSeen = (c : Core) (name text : List ℕ) → IsRightAndListed c → IsSeen c (Worklist name) text

-- and of SHOW
abbrev pub ShowsAreSeen : Type 0
ShowsAreSeen =
    (c : Core) (runs : ℕ → List Event) (root : ℕ) (text : List ℕ) → IsRightState c runs → IsSeen c (Show root) text

-- in a right state whose worklists hold exactly its open manual items, what is replied to each query is the machine's
-- reply
abbrev pub AnswersAreSeen : Type 0
AnswersAreSeen = (c : Core) (query : Query) (text : List ℕ) → IsRightAndListed c → IsSeen c query text
