-- The state of a store that is opened is the one that its records give by the steps of the machine.
use Rattle.std.proofs.Common.{◌≡◌, ℕ, ◌≤◌, List, [], ◌∷◌, ◌++◌, true, length}
use Rattle.std.proofs.Common.{replicate, option_map, refl, sym, ap, subst, ◌∙◌, ◌==◌, eqb-true, arith}
use Rattle.std.proofs.lemmas.Bool.{and_parts}
use Rattle.std.proofs.lemmas.List.{map-append}
use Rattle.core_laws.proofs.Making.{core_right}
use Rattle.core_laws.specs.RightStates.{IsRightCore}
use Rattle.flow_core.specs.Allowing.{IsBlank}
use Rattle.flow_core.specs.Summaries.{Summary, summary}
use Rattle.flow_core.specs.declared.state.Core.{Core}
use Rattle.flow_disk.specs.Images.{Image}
use Rattle.flow_model.specs.declared.instances.Message.{Message}
use Rattle.flow_model.specs.declared.transactions.Numbered.{Numbered}
use Rattle.flow_txn.specs.Records.{record_bytes}
use Rattle.machine.specs.States.{State, blank}
use Rattle.machine_laws.proofs.AdoptedSteps.{adopted_step}
use Rattle.machine_laws.proofs.Good.{admitted_good}
use Rattle.machine.specs.Scripts.{StepsAs, StateOf}
use Rattle.machine_laws.specs.Viewed.{view, root_of}
use Rattle.machine_laws.proofs.Keyed.{adopted_keyed, admitted_free, blank_keyed}
use Rattle.machine_laws.specs.Keyed.{AreKeyed}
use Rattle.recover_queue.specs.Queues.{is_quiet}
use Rattle.txn_log.specs.Opening.{IsOpened}
use Rattle.txn_log.specs.Stores.{Counts}
use Rattle.txn_log.specs.declared.opening.Opened.{Opened}
use Rattle.worklist_laws.proofs.OpenAsked.{admitted_asks}
use Rattle.flow_session.specs.Histories.{payloads, under}
use Rattle.flow_session.specs.Refusing.{AdmitsOne, Admits, NoRecord, OneRecord, LeadsTo}
use Rattle.flow_session.specs.Replaying.{Replays}
use Rattle.flow_session.proofs.Leading.{holds_asked}
use Rattle.flow_session.proofs.Queued.{has_queue}
use Rattle.flow_session.proofs.Rights.{begun_right}

-- ---- a blank state

no_message : (ms : List Message) → (length ms == 0) ≡ true → ms ≡ []
no_message [] empty = refl
no_message (m ∷ ms) empty =
    absurd (let none : length (m ∷ ms) ≡ 0 = eqb-true (length (m ∷ ms)) 0 empty in omega (arith, none))

-- quiet queues are empty ones
quiet_are : (qs : List (List Message)) → is_quiet qs ≡ true → qs ≡ replicate (length qs) []
quiet_are [] quiet = refl
quiet_are (ms ∷ qs) quiet =
    let both = and_parts (length ms == 0) (is_quiet qs) quiet in
    ap (λ (xs : List Message). xs ∷ qs) (no_message ms both.0)
    ∙ ap (λ (xs : List (List Message)). [] ∷ xs) (quiet_are qs both.1)

-- a blank state with these counts is seen as the one of the machine
pub blank_seen : (c : Core) (s : Summary) → IsBlank c → summary c ≡ s
    → view c ≡ record (blank s.queues s.limit) { transactions = s.transactions; last_root = s.roots }
blank_seen c s is counts =
    let queues : c.queues ≡ replicate s.queues [] =
    quiet_are c.queues is.queues ∙ ap (λ (t : Summary). replicate t.queues []) counts in
    λ i. record {
      library = record { templates = is.library i; people = is.people i };
      clock = is.clock i;
      roots = λ root. option_map root_of (is.roots root i);
      queues = queues i;
      live = is.live i;
      limit = (counts i).limit;
      transactions = (counts i).transactions;
      last_root = (counts i).roots;
    }

-- ---- records

-- one record
one_right : (c c' : Core) (payload : List ℕ) → AdmitsOne c payload c' → IsRightCore c → IsRightCore c'
one_right c c' payload one right =
    core_right c c' one.transaction (record {
      allowed = one.allowed;
      drives = one.adopted.drives;
      counts = one.counts;
      lives = (one.number, ap (λ (s : Summary). s.live) one.adopted.taken);
    }) right

adopts_step : (c c' : Core) (payload : List ℕ) (one : AdmitsOne c payload c') → IsRightCore c
    → StepsAs one.number (view c) one.transaction (view c')
adopts_step c c' payload one right =
    adopted_step c c' one.number one.transaction right.0 right.1 one.allowed
    (holds_asked c one.transaction (admitted_asks c one.number one.transaction one.admitted))
    (admitted_good c one.number one.transaction one.admitted) one.admitted.place one.adopted

one_keyed : (c c' : Core) (payload : List ℕ) → AdmitsOne c payload c' → IsRightCore c → AreKeyed c → AreKeyed c'
one_keyed c c' payload one right keyed =
    adopted_keyed c c' one.number one.transaction right.0 right.1 one.allowed
    (admitted_good c one.number one.transaction one.admitted) (admitted_free c one.number one.transaction one.admitted)
    keyed one.adopted

-- one more behind others
state_more : (s : State) (ns : List Numbered) (n : Numbered) (mid s' : State) → StateOf s ns mid
    → StepsAs n.number mid n.transaction s' → StateOf s (ns ++ n ∷ []) s'
state_more s [] n mid s' all one =
    (s', subst (λ (x : State). StepsAs n.number x n.transaction s') all one, refl)
state_more s (m ∷ ns) n mid s' all one = (all.0, all.1, state_more all.0 ns n mid s' all.2 one)

-- the state to which records with these payloads lead from a right state
record Replayed (c : Core) (bytes : List (List ℕ)) (c' : Core) : Type 0 where
  pub records : List Numbered
  pub spelled : payloads records ≡ bytes
  pub right : IsRightCore c'
  pub keyed : AreKeyed c'
  pub state : StateOf (view c) records (view c')

all_replayed : (c : Core) (bytes : List (List ℕ)) (c' : Core) → Admits c bytes c' → IsRightCore c → AreKeyed c
    → Replayed c bytes c'
all_replayed c _ _ NoRecord right keyed =
    record { records = []; spelled = refl; right = right; keyed = keyed; state = refl }
all_replayed c _ _ (OneRecord {payloads = bytes} {payload} {c'} {c''} admits one) right keyed =
    let before = all_replayed c bytes c' admits right keyed in
    let n : Numbered = record { number = one.number; transaction = one.transaction } in
    record {
      records = before.records ++ n ∷ [];
      spelled = map-append (λ (m : Numbered). record_bytes m.number m.transaction) before.records (n ∷ [])
          ∙ ap (λ (xs : List (List ℕ)). xs ++ record_bytes n.number n.transaction ∷ []) before.spelled
          ∙ ap (λ (x : List ℕ). bytes ++ x ∷ []) one.spelled;
      right = one_right c' c'' payload one before.right;
      keyed = one_keyed c' c'' payload one before.right before.keyed;
      state = state_more (view c) before.records n (view c') (view c'') before.state
          (adopts_step c' c'' payload one before.right);
    }

-- ---- a store that is opened

pub replays : (image : Image) (opened : Opened) (c : Core) → IsOpened image opened
    → LeadsTo opened.header opened.records c → Replays image c
replays image opened c is leads =
    let h = opened.header in
    let first = leads.0 in
    let begins = leads.1 in
    let some_ : 1 ≤ h.queues =
    has_queue image opened.log.slot h opened.records opened.log.end is in
    let right : IsRightCore first =
    (begun_right first (under h) begins.blank begins.kept begins.counts some_).0 in
    let all = all_replayed first opened.records c leads.2 right (blank_keyed first begins.blank) in
    record {
      slot = opened.log.slot;
      header = h;
      records = all.records;
      end = opened.log.end;
      counts = is ∙ ap (λ (ps : List (List ℕ)). Counts opened.log.slot h ps opened.log.end) (sym all.spelled);
      state = subst (λ (s : State). StateOf s all.records (view c)) (blank_seen first (under h) begins.blank begins.counts)
          all.state;
      keyed = all.keyed;
    }
