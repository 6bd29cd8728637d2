-- What a session does with inputs, and what it replies, is what the machine does and replies.
use Rattle.std.specs.Prelude.{◌≡◌, ℕ, List}
use Rattle.flow_core.specs.Summaries.{Summary}
use Rattle.flow_disk.specs.Images.{Image}
use Rattle.flow_disk.specs.declared.disk.Slot.{Slot}
use Rattle.machine.specs.Scripts as machine
use Rattle.machine_laws.specs.Viewed.{view}
use Rattle.machine_laws.specs.WholeStates.{IsWhole}
use Rattle.flow_session.specs.Inputs.{Given, IsServed}
use Rattle.flow_session.specs.Scripts.{ServesAll}
use Rattle.flow_session.specs.declared.serving.Session.{Session}
use Rattle.flow_session.specs.Sittings.{sitting}

-- what an input does to a session, and what is replied, is what it does to the machine and what that replies
abbrev pub InputsAreReplies : Type 0
InputsAreReplies =
    (s s' : Session) (input : Given) (reply : List ℕ) → IsServed s s' input reply → IsWhole s.core
    → machine.ServesInput (sitting s).unended input (view s.core) (view s'.core)
    (sitting s').unended reply

-- the replies of a session to a script are the machine's, and lead the machine to where they lead the session
abbrev pub ScriptsAreReplies : {J : Type 0} → Type 0 → (J → Summary → Type 0) → (J → ℕ) → (J → ℕ → Image → Type 0)
    → (J → Slot × ℕ) → (J → J → Summary → Type 0) → Type 0
ScriptsAreReplies {J} tells holds moment left_since place moved =
    (s : Session) (j : J) (inputs : List Given) (replies : List (List ℕ)) (s' : Session) (j' : J)
    → ServesAll tells holds moment left_since place moved s j inputs replies s' j' → IsWhole s.core
    → machine.Replies (sitting s) inputs replies (sitting s')

-- two sessions that the machine sees as one have one list of replies to a script, and end as one, whatever journals
-- they have
abbrev pub ScriptsHaveOneList : {J K : Type 0} → Type 0 → (J → Summary → Type 0) → (J → ℕ)
    → (J → ℕ → Image → Type 0) → (J → Slot × ℕ) → (J → J → Summary → Type 0) → Type 0 → (K → Summary → Type 0)
    → (K → ℕ) → (K → ℕ → Image → Type 0) → (K → Slot × ℕ) → (K → K → Summary → Type 0) → Type 0
ScriptsHaveOneList {J} {K} tells holds moment left_since place moved tells' holds' moment' left_since' place' moved' =
    (s t s' t' : Session) (j j' : J) (k k' : K) (inputs : List Given)
    (replies replies' : List (List ℕ)) → sitting s ≡ sitting t → IsWhole s.core → IsWhole t.core
    → ServesAll tells holds moment left_since place moved s j inputs replies s' j'
    → ServesAll tells' holds' moment' left_since' place' moved' t k inputs replies' t' k'
    → (replies ≡ replies') × (sitting s' ≡ sitting t')
