-- A script that is served: its inputs, and what is printed.
use Rattle.std.specs.Prelude.{◌≡◌, ◌⊎◌, ℕ, Option, None, IfSome, List, [], ◌∷◌, ◌++◌, map}
use Rattle.std.specs.Prelude.{Result, Ok, Err}
use Rattle.std.specs.Global.{Vec}
use Rattle.std.specs.List.{flat_map}
use Rattle.std.specs.Io.KnownBytes.{Appends, Keeps}
use Rattle.flow_disk.specs.Images.{Image}
use Rattle.flow_disk.specs.declared.disk.Slot.{Slot}
use Rattle.flow_disk.specs.declared.disk.Slot.TheVariants.{A}
use Rattle.flow_disk.specs.Moments.{Only}
use Rattle.txn_log.specs.declared.log.Log.{Log}
use Rattle.flow_io.specs.Inputs.{Input as LineInput, Served, PassedOver, AtEnd, inputs}
use Rattle.flow_core.specs.Summaries.{Summary, summary}
use Rattle.flow_model.specs.declared.transactions.Transaction.{Transaction}
use Rattle.flow_session.specs.Asking.{AsksOf}
use Rattle.flow_session.specs.Scripts.{ServesOne, ServesAll, AskInTurn}
use Rattle.flow_session.specs.Serving.{Makes, KeepsMade}
use Rattle.flow_session.specs.declared.serving.Stop.{Stop}
use Rattle.flow_session.specs.declared.serving.Session.{Session}
use Rattle.flow_session.specs.Histories.{StandsFor}
use Rattle.flow_session.specs.Inputs.{Given, Line, Long, End, unended}
use Rattle.flow_session.specs.Checkpoints.{IsCheckpointed}
use Rattle.flow_session.specs.Keeping.{IsOpen}
use Rattle.flow_session.specs.Leading.{LeadsBy, MakesAsked}
use Rattle.flow_session.specs.Refusing.{IsOpenedTo}
use Rattle.flow_session.specs.Replaying.{Replays}
use Rattle.text_words.specs.Limits.{IsWithinLimit, IsBeyondLimit}
use Rattle.flow_session.specs.declared.store.Stored.{Stored}
use Rattle.flow_session.specs.declared.journal.NoJournal.{NoJournal}
use Rattle.machine.specs.States.{blank}
use Rattle.machine.specs.Scripts.{Replies}
use Rattle.machine_laws.specs.Viewed.{view}
use Rattle.machine_laws.specs.WholeStates.{IsWhole}
use Rattle.flow_session.specs.Sittings.{sitting}
use Rattle.flow_words.specs.Crashes.{empty_history}
use Rattle.flow_words.specs.Endings.{StopsScript, status_of_stop}
use Rattle.flow_words.specs.Openings.{IsUnserved}
use Rattle.flow_words.specs.Outside.{Channels, Files, files, IfSettled, KeepsFiles}
use Rattle.flow_words.specs.Printed.{PrintsPart}
use Rattle.flow_words.specs.declared.status.Status.{Status}
use Rattle.flow_words.specs.declared.status.Status.TheVariants.{Done, NoMemory, ScriptTooLong}

-- what a session is given of a line
abbrev pub input_of : LineInput → Given
input_of (Served line) = Line line
input_of PassedOver = Long
input_of AtEnd = End

-- the inputs in the bytes of a script
abbrev pub script_inputs : List ℕ → List Given
script_inputs bytes = map input_of (inputs bytes 268435456)

-- these are the first inputs of a source that tells its bytes, and those are the others
abbrev pub AreFirst : Option (List ℕ) → List Given → List Given → Type 0
AreFirst left first others = IfSome left (λ bytes. script_inputs bytes ≡ first ++ others)

-- the replies one behind the other
abbrev pub all_replies : List (List ℕ) → List ℕ
all_replies replies = flat_map (λ reply. reply) replies

-- An input is served and its reply printed; or its call stops before it replies, nothing is printed, and it has made
-- none but transactions that the input asks for; or the sink fails behind a front part of the reply.
abbrev pub ServesAndPrints : {J : Type 0} → Type 0 → (J → Summary → Type 0) → (J → ℕ) → (J → ℕ → Image → Type 0)
    → (J → Slot × ℕ) → (J → J → Summary → Type 0) → Option (List ℕ) → Option (List ℕ) → Given → Session → Session
    → J → J → Result (Unit {0}) Status → Type 0
ServesAndPrints tells holds moment left_since place moved held held' input s s' j j' (Ok done) =
    (reply : List ℕ) × ServesOne tells holds moment left_since place moved input reply s s' j j'
    × Appends held held' reply
ServesAndPrints tells holds moment left_since place moved held held' input s s' j j' (Err status) =
    ((stop : Stop) × (status ≡ status_of_stop stop) × Keeps held held'
    × MakesAsked {T = Vec ℕ} tells holds moment left_since j j' s.core s'.core (AsksOf s input) (Err stop))
    ⊎ ((reply : List ℕ) × ServesOne tells holds moment left_since place moved input reply s s' j j'
    × PrintsPart held held' reply)

-- the transactions of the call in which a run stops, with these inputs left: the next input asks for them, and the
-- journal keeps them as far as the cause of the stop lets it
pub record StopsWithin {J : Type 0} (tells : Type 0) (holds : J → Summary → Type 0) (moment : J → ℕ)
    (left_since : J → ℕ → Image → Type 0) (journal : J) (s : Session) (others : List Given)
    (ended : Result (Unit {0}) Status) (ts : List Transaction) : Type 0 where
  pub input : Given
  pub rest : List Given
  pub next : others ≡ input ∷ rest
  pub asked : AsksOf s input ts
  pub stop : Stop
  pub status : ended ≡ Err (status_of_stop stop)
  pub kept : tells → KeepsMade {T = Vec ℕ} holds moment left_since journal (summary s.core) ts (Err stop)

-- the transactions behind the last reply: none, or those of the call in which a run stops
abbrev pub AreUnanswered : {J : Type 0} → Type 0 → (J → Summary → Type 0) → (J → ℕ) → (J → ℕ → Image → Type 0) → J
    → Session → List Given → Result (Unit {0}) Status → List Transaction → Type 0
AreUnanswered tells holds moment left_since journal s others ended ts =
    (ts ≡ []) ⊎ StopsWithin tells holds moment left_since journal s others ended ts

-- these are the replies of the machine to these inputs, and lead it from the one session to the other
abbrev pub AreReplies : Session → List Given → List (List ℕ) → Session → Type 0
AreReplies s given replies s' = Replies (sitting s) given replies (sitting s')

-- The first inputs of a script are served one after the other, each reply printed before the next input is read; then
-- the run ends, within the call under way where it fails. What the served inputs make is one list of transactions,
-- which they ask for, and which leads from the first state to the last one; from a whole state the replies are those of
-- the machine. A call that stops has made none but transactions that the next input asks for. The run ends well only
-- where the script isn't too long, and as too long only where it is, behind all inputs that count.
pub record ServesScript {J : Type 0} (tells : Type 0) (holds : J → Summary → Type 0) (moment : J → ℕ)
    (left_since : J → ℕ → Image → Type 0) (place : J → Slot × ℕ) (moved : J → J → Summary → Type 0)
    (left held held' : Option (List ℕ)) (s s' : Session) (j j' : J) (ended : Result (Unit {0}) Status) : Type 0 where
  pub first : List Given
  pub others : List Given
  pub replies : List (List ℕ)
  pub last : Session
  pub journal : J
  pub inputs : AreFirst left first others
  pub served : ServesAll tells holds moment left_since place moved s j first replies last journal
  pub answered : IsWhole s.core → AreReplies s first replies last
  pub leads : Makes tells moment left_since j journal (summary s.core)
      (λ ts. AskInTurn s first replies ts last × LeadsBy s.core ts last.core)
  pub under_way : Makes tells moment left_since journal j' (summary last.core)
      (AreUnanswered tells holds moment left_since j' last others ended)
  pub printed : PrintsPart held held' (all_replies replies)
  pub whole : ended ≡ Ok tt → (others ≡ []) × (s' ≡ last) × (j' ≡ journal) × Appends held held' (all_replies replies)
      × IsWithinLimit left
  pub too_long : ended ≡ Err ScriptTooLong → (others ≡ []) × IsBeyondLimit left

-- a session over the empty history of a store with this number of queues and this limit: the blank state of the machine
pub record IsFresh (queues limit : ℕ) (s : Session) : Type 0 where
  pub empty : summary s.core ≡ empty_history queues limit
  pub state : view s.core ≡ blank queues limit
  pub outside : unended s ≡ None
  pub whole : IsWhole s.core

-- a session over the empty history serves the script, in memory alone, and its replies are those of the machine
pub record TriesFresh (queues limit : ℕ) (left held held' : Option (List ℕ))
    (ended : Result (Unit {0}) Status) : Type 0 where
  pub s : Session
  pub s' : Session
  pub journal : NoJournal
  pub journal' : NoJournal
  pub fresh : IsFresh queues limit s
  pub script : ServesScript ⊥ (λ _ _. ⊥) (λ _. 0) (λ _ _ _. ⊥) (λ _. (A, 0)) (λ _ _ _. Unit {0})
      left held held' s s' journal journal' ended
  pub answered : AreReplies s script.first script.replies script.last

-- `try`: so it is; or there is no memory for the session, and nothing is printed
abbrev pub IsTried : ℕ → ℕ → Option (List ℕ) → Option (List ℕ) → Option (List ℕ) → Result (Unit {0}) Status → Type 0
IsTried queues limit left held held' ended =
    ((ended ≡ Err NoMemory) × Keeps held held') ⊎ TriesFresh queues limit left held held' ended

-- A session serves the script over the log of an opened store, and gives the disk back.
pub record ServesOver {D : Type 0} (c : Channels) (f : Files D) (s : Session) (log : Log)
    (ended : Result (Unit {0}) Status) : Type 0 where
  pub s' : Session
  pub journal : Stored D
  pub journal' : Stored D
  pub script : ServesScript f.disk.tells (λ j. IsOpen f.disk.seen f.disk.images j.log j.disk)
      (λ j. f.disk.moment j.disk)
      (λ j. f.disk.left_since j.disk) (λ j. (j.log.slot, j.log.generation))
      (λ j j' now. IsCheckpointed f.disk.tells f.disk.seen f.disk.images j.log j'.log j'.disk now)
      c.left c.held c.held' s s' journal journal' ended
  pub over : (journal.log ≡ log) × (journal.disk ≡ f.old)
  pub given_back : f.new ≡ journal'.disk

-- A store is opened, which leaves what was there, and a session over its state serves the script. The state is the one
-- that was reached by the records of the store, and to which they lead by the steps of the machine; and the replies are
-- those of the machine.
pub record ServesStoreScript {D : Type 0} (c : Channels) (f : Files D) (ended : Result (Unit {0}) Status) : Type 0 where
  pub s : Session
  pub log : Log
  pub opened : D
  pub keeps : Only (f.disk.seen f.old) (f.disk.images f.old) → KeepsFiles (files f.disk f.old opened)
  pub stood : f.disk.tells → StandsFor (summary s.core) (f.disk.seen f.old)
  pub reached : f.disk.tells → IsOpenedTo (f.disk.seen f.old) s.core
  pub state : f.disk.tells → Replays (f.disk.seen f.old) s.core
  pub outside : unended s ≡ None
  pub whole : f.disk.tells → IsWhole s.core
  pub serves : ServesOver c (files f.disk opened f.new) s log ended
  pub answered : f.disk.tells → AreReplies s serves.script.first serves.script.replies serves.script.last

-- how a script ends the program: as Done where all of it was served, else with the status that stopped it
abbrev pub EndsAs : Result (Unit {0}) Status → Status → Type 0
EndsAs (Ok done) status = status ≡ Done
EndsAs (Err fault) status = (status ≡ fault) × StopsScript fault

-- how a word over a store ends the program
abbrev pub status_of_word : Result Status Status → Status
status_of_word (Ok status) = status
status_of_word (Err status) = status

-- `run`: the store isn't opened, nothing is read, and a crash leaves what was there; or it is opened, and serves the
-- script
abbrev pub RunsStore : {D : Type 0} → Channels → Files D → Status → Type 0
RunsStore c f ended =
    (IsUnserved f c.held c.held' ended × (c.left' ≡ c.left) × IfSettled f (KeepsFiles f))
    ⊎ ((served : Result (Unit {0}) Status) × ServesStoreScript c f served × EndsAs served ended)

-- `try`: a session over the empty history serves the script, and ends the program so
abbrev pub TriesScript : ℕ → ℕ → Option (List ℕ) → Option (List ℕ) → Option (List ℕ) → Status → Type 0
TriesScript queues limit left held held' ended =
    (served : Result (Unit {0}) Status) × IsTried queues limit left held held' served × EndsAs served ended
