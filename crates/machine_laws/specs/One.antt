-- One state, one reply: a command has one verdict, leads to one state, and has one reply.
use Rattle.std.specs.Prelude.{◌≡◌, ℕ, Option, List}
use Rattle.flow_core.specs.declared.judging.Verdict.{Verdict}
use Rattle.flow_core.specs.declared.refusals.Refusal.{Refusal}
use Rattle.flow_model.specs.Paths.{Spells}
use Rattle.flow_model.specs.declared.commands.Command.{Command}
use Rattle.flow_model.specs.declared.commands.Query.{Query}
use Rattle.flow_model.specs.declared.graphs.PersonDef.{PersonDef}
use Rattle.flow_model.specs.declared.instances.Path.{Path}
use Rattle.flow_model.specs.declared.instances.WorkLine.{WorkLine}
use Rattle.machine.specs.States.{State}
use Rattle.machine.specs.Answers.{IsAnswer, IsWorklist}
use Rattle.machine.specs.Verdicts.{IsRuleOf, IsVerdict}
use Rattle.machine.specs.Scripts.{IsObeyed, Reads, IsRead, IsDrained}
use Rattle.machine.specs.Scripts.{Given, Sitting, Replies}

-- ---- what is read

-- a token spells at most one path
abbrev pub PathsAreOne : Type 0
PathsAreOne = (bytes : List ℕ) (p q : Path) → Spells bytes p → Spells bytes q → p ≡ q

-- a line is read in one way
abbrev pub LinesAreOne : Type 0
LinesAreOne = (line : List ℕ) (x y : Reads) → IsRead line x → IsRead line y → x ≡ y

-- a text is judged in one way in a state: it breaks one rule first, or none
abbrev pub TextsAreJudgedOnce : Type 0
TextsAreJudgedOnce =
    (c : State) (text : List ℕ) (r r' : Option Refusal) → IsRuleOf c text r → IsRuleOf c text r' → r ≡ r'

-- ---- what is replied

-- a command has one verdict in a state
abbrev pub VerdictsAreOne : Type 0
VerdictsAreOne =
    (c : State) (command : Command) (v w : Verdict) → IsVerdict c command v → IsVerdict c command w → v ≡ w

-- a command leads to one state and has one reply
abbrev pub CommandsAreOne : Type 0
CommandsAreOne =
    (s s' s'' : State) (command : Command) (reply reply' : List ℕ) → IsObeyed s s' command reply
    → IsObeyed s s'' command reply' → (s' ≡ s'') × (reply ≡ reply')

-- a DRAIN leads to one state and has one reply
abbrev pub DrainsAreOne : Type 0
DrainsAreOne =
    (s s' s'' : State) (reply reply' : List ℕ) → IsDrained s s' reply → IsDrained s s'' reply'
    → (s' ≡ s'') × (reply ≡ reply')

-- a worklist lists its items in one order
abbrev pub WorklistsAreOne : Type 0
WorklistsAreOne =
    (s : State) (person : PersonDef) (x y : List WorkLine) → IsWorklist s person x → IsWorklist s person y → x ≡ y

-- a query has one reply
abbrev pub AnswersAreOne : Type 0
AnswersAreOne =
    (s : State) (query : Query) (reply reply' : List ℕ) → IsAnswer s query reply → IsAnswer s query reply'
    → reply ≡ reply'

-- ---- a script

-- a script has one list of replies and leads to one state
abbrev pub ScriptsAreOne : Type 0
ScriptsAreOne =
    (inputs : List Given) (a b c : Sitting) (replies replies' : List (List ℕ)) → Replies a inputs replies b
    → Replies a inputs replies' c → (b ≡ c) × (replies ≡ replies')
