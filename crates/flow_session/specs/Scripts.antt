-- A script: inputs that a session serves one after the other, each with its reply.
use Rattle.std.specs.Prelude.{◌≡◌, ℕ, ◌≤◌, List, [], ◌∷◌, ◌++◌, length, take}
use Rattle.worklist_laws.specs.Shelved.{IsRightAndListed}
use Rattle.flow_model.specs.declared.transactions.Transaction.{Transaction}
use Rattle.flow_disk.specs.Images.{Image}
use Rattle.flow_disk.specs.declared.disk.Slot.{Slot}
use Rattle.flow_core.specs.Summaries.{Summary, summary}
use Rattle.flow_session.specs.Asking.{AsksOf}
use Rattle.flow_session.specs.Inputs.{Given, IsServed, AsksCheckpoint}
use Rattle.flow_session.specs.Leading.{LeadsBy}
use Rattle.flow_session.specs.Serving.{Makes}
use Rattle.flow_session.specs.declared.serving.Session.{Session}

-- One input is served: what it does is what its words ask for; it makes transactions that it asks for and that lead
-- from the state before it to the one after it, and whatever a crash during the call leaves stands for the state after
-- a front part of them; before the reply is given all of them are kept. A CHECKPOINT moves the journal, and no other
-- input does.
pub record ServesOne {J : Type 0} (tells : Type 0) (holds : J → Summary → Type 0) (moment : J → ℕ)
    (left_since : J → ℕ → Image → Type 0) (place : J → Slot × ℕ) (moved : J → J → Summary → Type 0)
    (input : Given) (reply : List ℕ) (s s' : Session) (j j' : J) : Type 0 where
  pub served : IsServed s s' input reply
  pub makes : Makes tells moment left_since j j' (summary s.core) (λ ts. LeadsBy s.core ts s'.core)
  pub asked : AsksOf s input makes.transactions
  pub kept : tells → holds j' (summary s'.core)
  pub right : IsRightAndListed s.core → IsRightAndListed s'.core
  pub stays : (AsksCheckpoint s input → ⊥) → place j' ≡ place j
  pub moves : AsksCheckpoint s input → moved j j' (summary s.core)

-- Inputs are served one after the other, with these replies; the session and the journal are these before, and those
-- after.
pub data ServesAll {J : Type 0} (tells : Type 0) (holds : J → Summary → Type 0) (moment : J → ℕ)
    (left_since : J → ℕ → Image → Type 0) (place : J → Slot × ℕ) (moved : J → J → Summary → Type 0)
    (s : Session) (j : J) : List Given → List (List ℕ) → Session → J → Type 0 where
  NoInput : ServesAll tells holds moment left_since place moved s j [] [] s j
  OneMore : {inputs : List Given} {replies : List (List ℕ)} {input : Given} {reply : List ℕ} {s' s'' : Session}
      {j' j'' : J} → ServesAll tells holds moment left_since place moved s j inputs replies s' j'
      → ServesOne tells holds moment left_since place moved input reply s' s'' j' j''
      → ServesAll tells holds moment left_since place moved s j (inputs ++ input ∷ []) (replies ++ reply ∷ []) s'' j''

-- ---- laws

-- The first inputs of a script, as many as there are replies, came to this session and this journal, which kept all
-- that was made by them; from then on the others make some more.
pub record IsKeptFrom {J : Type 0} (tells : Type 0) (holds : J → Summary → Type 0) (moment : J → ℕ)
    (left_since : J → ℕ → Image → Type 0) (place : J → Slot × ℕ) (moved : J → J → Summary → Type 0)
    (s : Session) (j : J) (inputs : List Given) (replies : List (List ℕ)) (s' : Session) (j' : J) : Type 0 where
  pub session : Session
  pub journal : J
  pub served : ServesAll tells holds moment left_since place moved s j inputs replies session journal
  pub kept : tells → holds journal (summary session.core)
  pub goes_on : Makes tells moment left_since journal j' (summary session.core) (λ ts. LeadsBy session.core ts s'.core)

-- What is answered is kept: whatever a crash leaves after the first `n` replies stands for the state after their inputs
-- and a front part of the transactions that are made later, and those lead to the last state.
abbrev pub AnsweredIsKept : {J : Type 0} → Type 0 → (J → Summary → Type 0) → (J → ℕ) → (J → ℕ → Image → Type 0)
    → (J → Slot × ℕ) → (J → J → Summary → Type 0) → Type 0
AnsweredIsKept {J} tells holds moment left_since place moved =
    (s : Session) (j : J) (inputs : List Given) (replies : List (List ℕ)) (s' : Session) (j' : J)
    → (tells → holds j (summary s.core)) → ServesAll tells holds moment left_since place moved s j inputs replies s' j'
    → (n : ℕ) → n ≤ length inputs
    → IsKeptFrom tells holds moment left_since place moved s j (take n inputs) (take n replies) s' j'

-- a script keeps a right state right
abbrev pub ScriptsKeepRight : {J : Type 0} → Type 0 → (J → Summary → Type 0) → (J → ℕ) → (J → ℕ → Image → Type 0)
    → (J → Slot × ℕ) → (J → J → Summary → Type 0) → Type 0
ScriptsKeepRight {J} tells holds moment left_since place moved =
    (s : Session) (j : J) (inputs : List Given) (replies : List (List ℕ)) (s' : Session) (j' : J)
    → ServesAll tells holds moment left_since place moved s j inputs replies s' j'
    → IsRightAndListed s.core → IsRightAndListed s'.core

-- A script makes one list of transactions: they lead from its first state to its last one, so that from a right state
-- they are a run of the machine, and a crash at any moment leaves the history with a front part of them.
abbrev pub ScriptsAreRuns : {J : Type 0} → Type 0 → (J → Summary → Type 0) → (J → ℕ) → (J → ℕ → Image → Type 0)
    → (J → Slot × ℕ) → (J → J → Summary → Type 0) → Type 0
ScriptsAreRuns {J} tells holds moment left_since place moved =
    (s : Session) (j : J) (inputs : List Given) (replies : List (List ℕ)) (s' : Session) (j' : J)
    → (tells → holds j (summary s.core)) → ServesAll tells holds moment left_since place moved s j inputs replies s' j'
    → Makes tells moment left_since j j' (summary s.core) (λ ts. LeadsBy s.core ts s'.core)

-- The inputs of a script ask for these transactions, one input after the other: each in the session to which those
-- before it led.
pub data AskInTurn (s : Session) : List Given → List (List ℕ) → List Transaction → Session → Type 0 where
  AskNothing : AskInTurn s [] [] [] s
  AskMore : {inputs : List Given} {replies : List (List ℕ)} {ts : List Transaction} {s' s'' : Session} (input : Given)
      (us : List Transaction) (reply : List ℕ) → AskInTurn s inputs replies ts s' → AsksOf s' input us
      → IsServed s' s'' input reply
      → AskInTurn s (inputs ++ input ∷ []) (replies ++ reply ∷ []) (ts ++ us) s''

-- A script makes only what its inputs ask for: the transactions that lead from its first state to its last one are
-- those, and a crash leaves a front part of them.
abbrev pub ScriptsMakeAsked : {J : Type 0} → Type 0 → (J → Summary → Type 0) → (J → ℕ) → (J → ℕ → Image → Type 0)
    → (J → Slot × ℕ) → (J → J → Summary → Type 0) → Type 0
ScriptsMakeAsked {J} tells holds moment left_since place moved =
    (s : Session) (j : J) (inputs : List Given) (replies : List (List ℕ)) (s' : Session) (j' : J)
    → (tells → holds j (summary s.core)) → ServesAll tells holds moment left_since place moved s j inputs replies s' j'
    → Makes tells moment left_since j j' (summary s.core)
    (λ ts. AskInTurn s inputs replies ts s' × LeadsBy s.core ts s'.core)
