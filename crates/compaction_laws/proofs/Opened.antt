-- A state of the engine to which the records of a slot lead is compact.
use Rattle.std.proofs.Common.{◌≡◌, ◌<◌, ◌≤◌, inl, inr, ℕ, ◌+◌, ◌-◌, max, Option, Some, None, List}
use Rattle.std.proofs.Common.{refl, ap, sym, subst, ◌∙◌, arith}
use Rattle.std.specs.Prelude.{IfSome}
use Rattle.core_laws.specs.RightStates.{IsRightCore}
use Rattle.core_laws.proofs.Making.{core_right}
use Rattle.flow_core.specs.Admitting.{IsAdmitted, IsPlace}
use Rattle.flow_core.specs.Refusals as tests
use Rattle.flow_core.specs.Summaries.{Summary, summary}
use Rattle.flow_core.specs.declared.state.Core.{Core}
use Rattle.flow_model.specs.declared.transactions.Numbered.{Numbered}
use Rattle.flow_model.specs.declared.transactions.Transaction.{Transaction}
use Rattle.flow_model.specs.declared.transactions.Transaction.TheVariants.{Turn, Delete}
use Rattle.flow_session.specs.Histories.{under}
use Rattle.flow_session.specs.Refusing.{AdmitsOne, Admits, NoRecord, OneRecord, LeadsTo}
use Rattle.flow_session.proofs.Replaying.{blank_seen}
use Rattle.flow_session.proofs.Rights.{begun_right}
use Rattle.machine.specs.Scripts.{StepsAs}
use Rattle.machine.specs.States.{State, blank}
use Rattle.machine.specs.Steps.{Steps, started, last_root_by}
use Rattle.machine_laws.specs.Viewed.{view}
use Rattle.machine_laws.specs.Keyed.{AreKeyed}
use Rattle.machine_laws.proofs.Keyed.{blank_keyed}
use Rattle.machine_laws.proofs.Obeyed.{record_adopted}
use Rattle.reopening_laws.proofs.Admitted.{both_none}
use Rattle.txn_log.specs.declared.header.Header.{Header}
use Rattle.compaction_laws.specs.Checkpoints.{summary_of}
use Rattle.compaction_laws.specs.Compact.{counting, IsInPlace, IsCompact, IsReadyFor}
use Rattle.compaction_laws.proofs.Compact.{places_last, kept_led, step_compact, blank_anew, anew_compact, compact_one}
use Rattle.compaction_laws.proofs.Judged.{takes_front, no_messages}

-- ---- one record

-- what an admitted record leads to: a right state, with the machine's keys, by a step of the machine
pub record StandsBehind (c : Core) (number : ℕ) (t : Transaction) (c' : Core) : Type 0 where
  pub right : IsRightCore c'
  pub keyed : AreKeyed c'
  pub steps : StepsAs number (view c) t (view c')

pub one_adopted : (c c' : Core) (payload : List ℕ) → IsRightCore c → AreKeyed c → (one : AdmitsOne c payload c')
    → StandsBehind c one.number one.transaction c'
one_adopted c c' payload right keyed one =
    let adopted = record_adopted c c' one.number one.transaction right.0 right.1 keyed one.allowed one.admitted
    one.adopted in
    record {
      right = core_right c c' one.transaction (record {
        allowed = one.allowed;
        drives = one.adopted.drives;
        counts = one.counts;
        lives = (one.number, ap (λ (x : Summary). x.live) one.adopted.taken);
      }) right;
      keyed = adopted.1;
      steps = adopted.0;
    }

-- the state is ready for its transaction
admitted_ready : (c : Core) (number : ℕ) (t : Transaction) → IsAdmitted c number t → IsReadyFor (view c) t
admitted_ready c number (Turn queue message) admitted = admitted.due.1
admitted_ready c number (Delete root) admitted =
    let tested = both_none (tests.root_test c tests.is_over root) _ admitted.due in
    no_messages (view c) root (both_none (tests.queued_test c root) None tested.1).0
admitted_ready c number t admitted = tt

-- a step under the next number is the step
next_step : (number : ℕ) (s s' : State) (t : Transaction) → number ≡ s.transactions + 1 → StepsAs number s t s'
    → Steps s t s'
next_step number s s' t is (next, steps, same) =
    let before : number - 1 ≡ s.transactions = omega (arith, is) in
    let made : Steps s t next = subst (λ (k : ℕ). Steps (record s { transactions = k }) t next) before steps in
    let count : next.transactions ≡ s.transactions + 1 = ap (λ (x : State). x.transactions) made.next in
    let most : max number s.transactions ≡ next.transactions = omega (arith, is, count) in
    subst (Steps s t) (sym (same ∙ ap (λ (k : ℕ). record next { transactions = k }) most)) made

counted_root : (c : Core) (o : Option ℕ) → IfSome o (λ root. (c.kept_root < root) × (root ≤ c.roots))
    → last_root_by o c.roots ≡ c.roots
counted_root c None is = refl
counted_root c (Some root) is = let most = is.1 in omega (arith, most)

placed_compact : (c c' : Core) (number : ℕ) (t : Transaction) → IsCompact (view c) → IsReadyFor (view c) t
    → IsPlace c number t → StepsAs number (view c) t (view c') → IsCompact (view c')
placed_compact c c' number t compact ready (inl (kept, kind)) steps =
    let n : Numbered = record { number = number; transaction = t } in
    let most = kept.0 in
    let behind = kept.1 in
    let at = kept.2 in
    let placed : IsInPlace (view c) n = record {
      least = omega (arith, behind);
      counted = omega (arith, most, at);
      stays = kind.0;
      root = counted_root c (started t) kind.1;
      front = takes_front (view c) t ready;
    } in
    kept_led IsInPlace places_last (view c) (view c') n placed steps compact
placed_compact c c' number t compact ready (inr (next, kind)) steps =
    step_compact (view c) (view c') t compact ready (next_step number (view c) (view c') t next.2 steps)

-- ---- all records

-- a right state that is compact
record IsOpened (c : Core) : Type 0 where
  pub right : IsRightCore c
  pub keyed : AreKeyed c
  pub compact : IsCompact (view c)

one_opened : (c c' : Core) (payload : List ℕ) → IsOpened c → AdmitsOne c payload c' → IsOpened c'
one_opened c c' payload opened one =
    let adopted = one_adopted c c' payload opened.right opened.keyed one in
    record {
      right = adopted.right;
      keyed = adopted.keyed;
      compact = placed_compact c c' one.number one.transaction opened.compact
          (admitted_ready c one.number one.transaction one.admitted) one.admitted.place adopted.steps;
    }

all_opened : (c : Core) (bytes : List (List ℕ)) (c' : Core) → Admits c bytes c' → IsOpened c → IsOpened c'
all_opened c _ _ NoRecord opened = opened
all_opened c _ _ (OneRecord {payloads = bytes} {payload} {c'} {c''} admits one) opened =
    one_opened c' c'' payload (all_opened c bytes c' admits opened) one

leads_opened : (h : Header) (bytes : List (List ℕ)) (c : Core) → 1 ≤ h.queues → LeadsTo h bytes c → IsOpened c
leads_opened h bytes c some_ (first, begins, admits) =
    let seen = blank_seen first (under h) begins.blank begins.counts in
    let anew = blank_anew h.queues h.limit h.transactions h.roots in
    let compact = anew_compact (counting h.transactions h.roots (blank h.queues h.limit)) anew in
    all_opened first bytes c admits (record {
      right = (begun_right first (under h) begins.blank begins.kept begins.counts some_).0;
      keyed = blank_keyed first begins.blank;
      compact = subst IsCompact (sym seen) compact;
    })

pub opened_compact : (h : Header) (bytes : List (List ℕ)) (c : Core) → 1 ≤ h.queues → LeadsTo h bytes c
    → IsCompact (view c)
opened_compact h bytes c some_ leads = (leads_opened h bytes c some_ leads).compact

-- and its keys are the machine's
pub opened_keyed : (h : Header) (bytes : List (List ℕ)) (c : Core) → 1 ≤ h.queues → LeadsTo h bytes c → AreKeyed c
opened_keyed h bytes c some_ leads = (leads_opened h bytes c some_ leads).keyed

pub opened_one : (h : Header) (bytes : List (List ℕ)) (c : Core) (s : State) → 1 ≤ h.queues → LeadsTo h bytes c
    → IsCompact s → summary c ≡ summary_of s → view c ≡ s
opened_one h bytes c s some_ leads compact same =
    compact_one s (view c) compact (opened_compact h bytes c some_ leads) same
