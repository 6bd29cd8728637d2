-- A script: what each input does to the state, and what is replied.
use Rattle.std.specs.Prelude.{◌≡◌, ℕ, ◌+◌, ◌-◌, ◌^◌, ◌<◌, ◌≤◌, nat_le, nat_lt, min, max, Bool, true, false, ◌&&◌, ◌||◌}
use Rattle.std.specs.Prelude.{if◌then◌else◌, Option, Some, None, is_some, List, [], ◌∷◌, ◌++◌, length, slice_get, codes}
use Rattle.std.specs.Prelude.{bytes_eq}
use Rattle.std.specs.Fmt.{decimal}
use Rattle.command_lang.specs.Reading.{AreLineTokens, SaysCommand, IsOnlyCommand, IsRefusal, RefusesFirst}
use Rattle.command_lang.specs.Refusing.{SomeCommand}
use Rattle.command_lang.specs.declared.reading.CommandFault.TheVariants.{Word}
use Rattle.flow_core.specs.Replies.{applied_text, refusal_text}
use Rattle.flow_core.specs.declared.applying.Note.{Note}
use Rattle.flow_core.specs.declared.judging.Verdict.{Verdict}
use Rattle.flow_core.specs.declared.judging.Verdict.TheVariants as verdict
use Rattle.flow_model.specs.declared.commands.Command.{Command}
use Rattle.flow_model.specs.declared.commands.Command.TheVariants.{Import, Drain, Checkpoint, Ask}
use Rattle.flow_model.specs.declared.instances.Message.{Message}
use Rattle.flow_model.specs.declared.transactions.Numbered.{Numbered}
use Rattle.flow_model.specs.declared.transactions.Transaction.{Transaction}
use Rattle.flow_model.specs.declared.transactions.Transaction.TheVariants.{Turn}
use Rattle.std.specs.List.{flat_map}
use Rattle.machine.specs.States.{State}
use Rattle.machine.specs.Steps.{Steps}
use Rattle.machine.specs.Answers.{IsAnswer}
use Rattle.machine.specs.Verdicts.{IsFront, IsNoteOf, IsVerdict}
use Rattle.recover_queue.specs.Queues.{is_quiet, queue as messages_of}

-- ---- a command

-- the reply of a START with the key of a live root
abbrev pub same_text : ℕ → List ℕ
same_text root = codes "ok SAME " ++ decimal root ++ 10 ∷ []

-- the reply of a CHECKPOINT, by the number of transactions that it keeps
abbrev pub checkpoint_text : ℕ → List ℕ
checkpoint_text count = codes "ok CHECKPOINT " ++ decimal count ++ 10 ∷ []

-- the result of a verdict: its transaction is made, and the reply has its number and what came of it; or nothing
-- changes
abbrev pub Comes : State → Verdict → State → List ℕ → Type 0
Comes s (verdict.Do t) s' reply =
    (n : Note) × Steps s t s' × IsNoteOf s t s' n
    × (reply ≡ applied_text (record { number = s.transactions + 1; note = n }))
Comes s (verdict.Same root) s' reply = (s' ≡ s) × (reply ≡ same_text root)
Comes s (verdict.Refused refusal) s' reply = (s' ≡ s) × (reply ≡ refusal_text refusal)

-- a command is judged, and this is the result of its verdict
abbrev pub IsObeyed : State → State → Command → List ℕ → Type 0
IsObeyed s s' command reply = (v : Verdict) × IsVerdict s command v × Comes s v s' reply

-- ---- a DRAIN

-- there is a queue of this number, and a message stands at its front
abbrev pub has_message : State → ℕ → Bool
has_message c number =
    nat_le 1 number && nat_le number (length c.queues) && is_some (slice_get (messages_of c.queues number) 0)

-- how many queues come before this one, in turn from another one on
abbrev pub queues_before : ℕ → ℕ → ℕ → ℕ
queues_before count from queue = if nat_le from queue then queue - from else queue + count - from

-- of the queues that have a message, it is the first in turn from another one on
pub record IsNextQueue (c : State) (from queue : ℕ) : Type 0 where
  pub has : has_message c queue ≡ true
  pub first : (other : ℕ) → has_message c other ≡ true
      → queues_before (length c.queues) from queue ≤ queues_before (length c.queues) from other

-- the queue behind it, in turn
abbrev pub queue_behind : ℕ → ℕ → ℕ
queue_behind count queue = if nat_lt queue count then queue + 1 else 1

-- the message at the front of a queue is taken
pub record TakesFront (old new : State) (queue : ℕ) : Type 0 where
  pub message : Message
  pub front : IsFront old queue message
  pub room : old.transactions < old.limit
  pub steps : Steps old (Turn queue message) new

-- this number of messages is taken, one after another; then the turn is at this queue
pub data TakesInTurn (c : State) : ℕ → ℕ → State → Type 0 where
  NoTurn : TakesInTurn c 0 1 c
  OneTurn : {n from queue : ℕ} {c' c'' : State} → TakesInTurn c n from c' → IsNextQueue c' from queue
      → TakesFront c' c'' queue → TakesInTurn c (n + 1) (queue_behind (length c'.queues) queue) c''

-- the reply of a DRAIN, by the number of messages that it took: all, or until the limit was met
abbrev pub turns_text : ℕ → List ℕ
turns_text turns = codes "ok TURNS " ++ decimal turns ++ 10 ∷ []

-- the reply of a DRAIN that met the limit of transactions
abbrev pub full_text : ℕ → ℕ → List ℕ
full_text limit turns = codes "no FULL " ++ decimal limit ++ codes " TURNS " ++ decimal turns ++ 10 ∷ []

-- messages are taken in turn until no queue has one, or the limit is met; the reply says which, and how many were taken
pub record IsDrained (old new : State) (reply : List ℕ) : Type 0 where
  pub turns : ℕ
  pub turn : ℕ
  pub taken : TakesInTurn old turns turn new
  pub ended : is_quiet new.queues ≡ false → new.limit ≤ new.transactions
  pub told : reply ≡ (if is_quiet new.queues then turns_text (min turns (2 ^ 64 - 1)) else full_text new.limit
      (min turns (2 ^ 64 - 1)))

-- ---- the text of an IMPORT

-- the text so far of an IMPORT that isn't ended yet, and whether one of its lines was too long
pub record Unended : Type 0 where
  pub text : List ℕ
  pub has_long : Bool

-- a text of which no line has come
abbrev pub no_lines : Unended
no_lines = record { text = []; has_long = false }

-- a line that ends a text: `.`, or `.` and a carriage return
abbrev pub is_end : List ℕ → Bool
is_end line = bytes_eq line (codes ".") || bytes_eq line (46 ∷ 13 ∷ [])

-- a text with one more line, as far as it is judged
abbrev pub with_line : List ℕ → List ℕ → List ℕ
with_line text line = if nat_le (length text) 1048576 then text ++ line ++ 10 ∷ [] else text

-- ---- what an input does

-- an input: a line, or one that is too long, or the end
pub data Given : Type 0 where
  Line : (line : List ℕ) → Given
  Long : Given
  End : Given

-- the state stays as it is, this text is gathered afterwards, and this is replied
pub record Answers (old new : State) (gathered after : Option Unended) (text reply : List ℕ) : Type 0 where
  pub same : new ≡ old
  pub gathers : after ≡ gathered
  pub replies : reply ≡ text

-- What a command of a line does, and what is replied. An IMPORT begins a text, which stands in the lines behind it.
abbrev pub IsCommanded : State → State → Command → Option Unended → List ℕ → Type 0
IsCommanded old new (Import text) after reply = Answers old new (Some no_lines) after [] reply
IsCommanded old new Drain after reply = IsDrained old new reply × (after ≡ None)
IsCommanded old new Checkpoint after reply = Answers old new None after (checkpoint_text (length old.live)) reply
IsCommanded old new (Ask query) after reply = (new ≡ old) × (after ≡ None) × IsAnswer old query reply
IsCommanded old new command after reply = IsObeyed old new command reply × (after ≡ None)

-- the line says this command, and no other
abbrev pub Says : List ℕ → Command → Type 0
Says line command = SaysCommand line (Some command) × IsOnlyCommand line (Some command)

-- the line says no command, and this is the place: of its first wrong byte, or of the first token that can't stand
-- there
pub record IsWrongAt (line : List ℕ) (place : ℕ) : Type 0 where
  pub refused : IsRefusal line (Word place)
  pub none : IsOnlyCommand line None
  pub first : RefusesFirst SomeCommand line (Word place)

-- the reply to a line that is too long
abbrev pub long_text : List ℕ
long_text = codes "no LINE\n"

-- the reply to an IMPORT whose text isn't ended at the end of the input
abbrev pub unended_text : List ℕ
unended_text = codes "no UNENDED\n"

-- the reply to a line that can't be read, with the place of its first wrong token
abbrev pub word_text : ℕ → List ℕ
word_text place = codes "no WORD " ++ decimal place ++ 10 ∷ []

-- what a line is outside an IMPORT: too long, blank, a command, or one that can't be read
pub data Reads : Type 0 where
  AsLong : Reads
  AsBlank : Reads
  AsCommand : Command → Reads
  AsWrong : ℕ → Reads

-- a line is read so
abbrev pub IsRead : List ℕ → Reads → Type 0
IsRead line AsLong = 65536 < length line
IsRead line AsBlank = (length line ≤ 65536) × AreLineTokens line []
IsRead line (AsCommand command) = (length line ≤ 65536) × Says line command
IsRead line (AsWrong place) = (length line ≤ 65536) × IsWrongAt line place

-- what a line that is read so does, and what is replied
abbrev pub ServesRead : Reads → State → State → Option Unended → List ℕ → Type 0
ServesRead AsLong old new after reply = Answers old new None after long_text reply
ServesRead AsBlank old new after reply = Answers old new None after [] reply
ServesRead (AsCommand command) old new after reply = IsCommanded old new command after reply
ServesRead (AsWrong place) old new after reply = Answers old new None after (word_text place) reply

-- a line outside an IMPORT
abbrev pub ServesLine : List ℕ → State → State → Option Unended → List ℕ → Type 0
ServesLine line old new after reply = (what : Reads) × IsRead line what × ServesRead what old new after reply

-- an input outside an IMPORT: a line, or one that was passed over, or the end
abbrev pub ServesOutside : Given → State → State → Option Unended → List ℕ → Type 0
ServesOutside (Line line) old new after reply = ServesLine line old new after reply
ServesOutside Long old new after reply = Answers old new None after long_text reply
ServesOutside End old new after reply = Answers old new None after [] reply

-- a text is ended: it is judged as an IMPORT, unless one of its lines was too long
abbrev pub ServesText : Bool → List ℕ → State → State → Option Unended → List ℕ → Type 0
ServesText true text old new after reply = Answers old new None after long_text reply
ServesText false text old new after reply = IsObeyed old new (Import text) reply × (after ≡ None)

-- a line inside an IMPORT, which ends its text or is one of it
abbrev pub ServesTextLine : Bool → Unended → List ℕ → State → State → Option Unended → List ℕ → Type 0
ServesTextLine true u line old new after reply = ServesText u.has_long u.text old new after reply
ServesTextLine false u line old new after reply =
    Answers old new (Some (record u { text = with_line u.text line })) after [] reply

-- an input inside an IMPORT: a line, or one that was passed over, or the end
abbrev pub ServesInside : Unended → Given → State → State → Option Unended → List ℕ → Type 0
ServesInside u (Line line) old new after reply = ServesTextLine (is_end line) u line old new after reply
ServesInside u Long old new after reply = Answers old new (Some (record u { has_long = true })) after [] reply
ServesInside u End old new after reply =
    Answers old new None after (if u.has_long then long_text else unended_text) reply

-- one input, by the text of an IMPORT that came before it
abbrev pub ServesInput : Option Unended → Given → State → State → Option Unended → List ℕ → Type 0
ServesInput None input old new after reply = ServesOutside input old new after reply
ServesInput (Some u) input old new after reply = ServesInside u input old new after reply

-- ---- a script

-- the state, and the text of an IMPORT that isn't ended yet
pub record Sitting : Type 0 where
  pub state : State
  pub unended : Option Unended

-- the replies to inputs, one after the other, and where they leave the state
abbrev pub Replies : Sitting → List Given → List (List ℕ) → Sitting → Type 0
Replies a [] [] b = b ≡ a
Replies a [] (reply ∷ replies) b = ⊥
Replies a (input ∷ inputs) [] b = ⊥
Replies a (input ∷ inputs) (reply ∷ replies) b =
    (mid : Sitting) × ServesInput a.unended input a.state mid.state mid.unended reply × Replies mid inputs replies b

-- ---- a store

-- a step under the number of a record; the count of a header stays where it is greater
abbrev pub StepsAs : ℕ → State → Transaction → State → Type 0
StepsAs number s t s' =
    (next : State) × Steps (record s { transactions = number - 1 }) t next
    × (s' ≡ record next { transactions = max number s.transactions })

-- the state of a store: its records, one after the other, from the blank state with the counts of its header
abbrev pub StateOf : State → List Numbered → State → Type 0
StateOf s [] s' = s' ≡ s
StateOf s (n ∷ ns) s' = (mid : State) × StepsAs n.number s n.transaction mid × StateOf mid ns s'

-- what is printed of inputs, from where a session stands to where it stops
pub record IsPrinted (a : Sitting) (inputs : List Given) (printed : List ℕ) (b : Sitting) : Type 0 where
  pub replies : List (List ℕ)
  pub are : Replies a inputs replies b
  pub printed_is : printed ≡ flat_map (λ reply. reply) replies
