-- What is replied to a command that makes a transaction, and to one that is refused.
use Rattle.std.specs.Prelude.{ℕ, List, [], ◌∷◌, ◌++◌, codes}
use Rattle.std.specs.Fmt.{decimal}
use Rattle.flow_text.specs.Spelling.{name_in_quotes}
use Rattle.flow_model.specs.declared.instances.Hold.{Hold}
use Rattle.flow_model.specs.declared.instances.Hold.TheVariants.{Nobody, Person as Held, Agent}
use Rattle.reply_text.specs.Replies.{fate_text, phase_text, mode_text}
use Rattle.audit_trail.specs.Lines.{message_text}
use Rattle.flow_core.specs.declared.applying.Applied.{Applied}
use Rattle.flow_core.specs.declared.applying.Note.{Note}
use Rattle.flow_core.specs.declared.applying.Note.TheVariants.{Imported, Rooted, Turned, Fated, Taken, Moded, Deleted}
use Rattle.flow_core.specs.declared.applying.Note.TheVariants.{Clocked}
use Rattle.flow_core.specs.declared.refusals.Refusal.{Refusal}
use Rattle.flow_core.specs.declared.refusals.Refusal.TheVariants.{Rule, Person, Process, Root, Item, Queue, Mode, State}
use Rattle.flow_core.specs.declared.refusals.Refusal.TheVariants.{Owner, Take, Eligible, Value, Empty, Queued, Clock}
use Rattle.flow_core.specs.declared.refusals.Refusal.TheVariants.{Full}

-- what the reply of a transaction says behind its number
abbrev pub note_text : Note → List ℕ
note_text (Imported count) = codes "IMPORT " ++ decimal count
note_text (Rooted root) = codes "ROOT " ++ decimal root
note_text (Turned queue message) = codes "TURN " ++ decimal queue ++ 32 ∷ [] ++ message_text message
note_text (Fated fate) = fate_text fate
note_text (Taken take) = codes "TAKE " ++ decimal take
note_text (Moded mode) = mode_text mode
note_text Deleted = codes "DELETED"
note_text (Clocked minutes) = codes "CLOCK " ++ decimal minutes

-- the reply of a transaction: its number, and its result
abbrev pub applied_text : Applied → List ℕ
applied_text applied = codes "ok " ++ decimal applied.number ++ 32 ∷ [] ++ note_text applied.note ++ 10 ∷ []

-- the person who holds an item; an agent isn't named
abbrev pub owner_text : Hold → List ℕ
owner_text Nobody = codes "OWNER NOBODY"
owner_text (Held name) = codes "OWNER" ++ 32 ∷ [] ++ name_in_quotes name
owner_text (Agent take) = codes "OWNER NOBODY"

-- a word, a space and a number; a word, a space and a name
abbrev pub with_number : List ℕ → ℕ → List ℕ
with_number word number = word ++ 32 ∷ [] ++ decimal number

abbrev pub with_name : List ℕ → List ℕ → List ℕ
with_name word name = word ++ 32 ∷ [] ++ name_in_quotes name

-- the code of a refusal, and what it keeps
abbrev pub code_text : Refusal → List ℕ
code_text (Rule rule line) = with_number (codes "RULE") rule ++ 32 ∷ [] ++ decimal line
code_text (Person name) = with_name (codes "PERSON") name
code_text (Process name) = with_name (codes "PROCESS") name
code_text (Root root) = with_number (codes "ROOT") root
code_text (Item token) = codes "ITEM " ++ token
code_text (Queue count) = with_number (codes "QUEUE") count
code_text (Mode mode) = codes "MODE " ++ mode_text mode
code_text (State phase) = codes "STATE " ++ phase_text phase
code_text (Owner hold) = owner_text hold
code_text (Take take) = with_number (codes "TAKE") take
code_text Eligible = codes "ELIGIBLE"
code_text (Value place) = with_number (codes "VALUE") place
code_text (Empty queue) = with_number (codes "EMPTY") queue
code_text (Queued count) = with_number (codes "QUEUED") count
code_text (Clock minutes) = with_number (codes "CLOCK") minutes
code_text (Full limit) = with_number (codes "FULL") limit

-- the reply of a refusal
abbrev pub refusal_text : Refusal → List ℕ
refusal_text refusal = codes "no " ++ code_text refusal ++ 10 ∷ []
