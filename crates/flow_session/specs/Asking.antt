-- Which transactions an input asks for, as far as it comes: whether its call ends well or not, it makes no others.
use Rattle.std.specs.Prelude.{◌≡◌, ◌⊎◌, ℕ, ◌<◌, ◌≤◌, true, false, Option, Some, None, List, [], ◌∷◌, ◌++◌, length}
use Rattle.flow_model.specs.declared.commands.Command.{Command}
use Rattle.flow_model.specs.declared.commands.Command.TheVariants.{Import, Drain}
use Rattle.flow_model.specs.declared.instances.Message.{Message}
use Rattle.flow_model.specs.declared.transactions.Transaction.{Transaction}
use Rattle.flow_model.specs.declared.transactions.Transaction.TheVariants.{Turn}
use Rattle.flow_core.specs.Judgements.{IsVerdict}
use Rattle.flow_core.specs.Verdicts.{IsFront}
use Rattle.flow_core.specs.declared.judging.Verdict.TheVariants.{Do}
use Rattle.flow_core.specs.declared.state.Core.{Core}
use Rattle.flow_session.specs.Draining.{IsNextQueue, TakesFront, queue_behind}
use Rattle.flow_session.specs.Inputs.{Given, Line, Long, End, Unended, Says, is_end, unended}
use Rattle.flow_session.specs.declared.serving.Session.{Session}

-- ---- a command

-- the message at the front of this queue is taken, by this transaction alone
abbrev pub IsTurnOf : Core → Core → ℕ → List Transaction → Type 0
IsTurnOf old new queue ts = (taken : TakesFront old new queue) × (ts ≡ Turn queue taken.message ∷ [])

-- messages are taken in turn by these transactions, one after another; then the turn is at this queue
pub data AreTurns (c : Core) : List Transaction → ℕ → Core → Type 0 where
  NoneTaken : AreTurns c [] 1 c
  OneTaken : {ts us : List Transaction} {from queue : ℕ} {c' c'' : Core} → AreTurns c ts from c'
      → IsNextQueue c' from queue → IsTurnOf c' c'' queue us
      → AreTurns c (ts ++ us) (queue_behind (length c'.queues) queue) c''

-- A command asks for these transactions, as far as it comes: for none; for the one to which it is judged; a DRAIN for
-- the turns so far, and then for that of the next message, below the limit.
pub data Asks (c : Core) : Command → List Transaction → Type 0 where
  NoneAsked : {command : Command} → Asks c command []
  JudgedSo : {command : Command} {t : Transaction} → IsVerdict c command (Do t) → Asks c command (t ∷ [])
  TurnsSoFar : {ts : List Transaction} {from : ℕ} {c' : Core} → AreTurns c ts from c' → Asks c Drain ts
  OneMoreTurn : {ts : List Transaction} {from queue : ℕ} {c' : Core} {message : Message} → AreTurns c ts from c'
      → IsNextQueue c' from queue → IsFront c' queue message → c'.number < c'.limit
      → Asks c Drain (ts ++ Turn queue message ∷ [])

-- ---- an input

-- a command of a line asks for these; an IMPORT for none, since its text stands in the lines behind it
abbrev pub AsksSaid : Core → Command → List Transaction → Type 0
AsksSaid c command ts = (ts ≡ []) ⊎ (((text : List ℕ) → command ≡ Import text → ⊥) × Asks c command ts)

-- an input outside an IMPORT asks for none, or for those of the command that the line says
abbrev pub AsksOutside : Core → Given → List Transaction → Type 0
AsksOutside c (Line line) ts =
    (ts ≡ []) ⊎ ((command : Command) × (length line ≤ 65536) × Says line command × AsksSaid c command ts)
AsksOutside c Long ts = ts ≡ []
AsksOutside c End ts = ts ≡ []

-- a text that is ended asks for its IMPORT, unless one of its lines was too long
abbrev pub AsksText : Core → Unended → List Transaction → Type 0
AsksText c u ts = (ts ≡ []) ⊎ ((u.has_long ≡ false) × Asks c (Import u.text) ts)

-- an input inside an IMPORT asks for none, unless it is the line that ends the text
abbrev pub AsksInside : Core → Unended → Given → List Transaction → Type 0
AsksInside c u (Line line) ts = (ts ≡ []) ⊎ ((is_end line ≡ true) × AsksText c u ts)
AsksInside c u Long ts = ts ≡ []
AsksInside c u End ts = ts ≡ []

abbrev pub AsksInput : Option Unended → Core → Given → List Transaction → Type 0
AsksInput None c input ts = AsksOutside c input ts
AsksInput (Some u) c input ts = AsksInside c u input ts

-- an input asks for these transactions in a session
abbrev pub AsksOf : Session → Given → List Transaction → Type 0
AsksOf s input ts = AsksInput (unended s) s.core input ts
