-- Transactions that wait in a batch, one after the other.
use Rattle.std.proofs.Common.{◌≡◌, ◌∙◌, ◌⊎◌, inl, inr, ⊎_elim, ℕ, suc, ◌+◌, ◌<◌, ◌≤◌, List, [], ◌∷◌, ◌++◌, length, Option, Result, Ok, Err, IfErr, IfOk, OnOk, refl, sym, ap, subst, arith, append-nil, append_assoc}
use Rattle.core_laws.specs.RightStates.{IsRightCore}
use Rattle.flow_core.specs.Admitting.{IsAdmitted}
use Rattle.flow_core.specs.Summaries.{Summary, summary}
use Rattle.flow_core.specs.declared.state.Core.{Core}
use Rattle.flow_disk.specs.Images.{Image}
use Rattle.flow_disk.specs.Moments.{LeavesOnly}
use Rattle.flow_disk.proofs.Runs.{weaker}
use Rattle.flow_model.specs.declared.transactions.Transaction.{Transaction}
use Rattle.flow_txn.specs.Ranges.{IsInRange}
use Rattle.flow_txn.specs.Records.{record_bytes}
use Rattle.flow_session.specs.Histories.{AreInRangeBehind, StandsFor, after, payloads_behind}
use Rattle.flow_session.specs.Serving.{AllOrNone}
use Rattle.flow_session.specs.Leading.{LeadsBy}
use Rattle.flow_session.specs.declared.serving.Stop.{Stop}
use Rattle.flow_session.specs.declared.serving.Stop.TheVariants as journal
use Rattle.flow_session.proofs.Histories.{after_counts}
use Rattle.standby.specs.Adopting.{EndsTaken, TakesAll}
use Rattle.standby.specs.Readers.{Reader}
use Rattle.standby.specs.Stages.{Adopts, Stage, Reaches, Here, Further, IsRecord, StopsPayload, StopsTaking, Takes, TakesPayload, stage}
use Rattle.standby.specs.Waiting.{IsKeptBy, IsUnchanged, IsUnkept, StandsUpTo, TakesOn, TakesUpTo, Waits, WaitsAt, WaitsBehind}
use Rattle.standby.specs.declared.stops.FollowStop.{FollowStop}
use Rattle.standby.specs.declared.stops.FollowStop.TheVariants.{Store, Frame, Cut, Other, Gap, NotAllowed, ReadFault, TooLong, NoMemory}
use Rattle.standby.proofs.Adopting.{adopts_one, takes_more, takes_none}

-- ---- a batch

pub waits_none : (c : Core) (batch : List (List ℕ)) → Waits c batch c batch
waits_none c batch = record { transactions = []; takes = takes_none c; fits = tt; put = sym (append-nil batch) }

-- the record of the next transaction is put behind the others
pub waits_one : (c c' : Core) (number : ℕ) (t : Transaction) (payload : List ℕ) (old new : List (List ℕ)) → number ≡ c.number + 1
    → record_bytes number t ≡ payload → IsInRange number t → LeadsBy c (t ∷ []) c' →
    (IsRightCore c → Adopts c number t c')
    → new ≡ old ++ payload ∷ [] → Waits c old c' new
waits_one c c' number t payload old new is spelled fit leads adopts put = record {
  transactions = t ∷ [];
  takes = record { leads = leads; adopts = λ right. adopts_one c c' number t is fit (adopts right) };
  fits = (subst (λ (n : ℕ). IsInRange n t) is fit, tt);
  put = put ∙ ap (λ (p : List ℕ). old ++ p ∷ []) (sym spelled ∙ ap (λ (n : ℕ). record_bytes n t) is);
}

behind_append : (k : ℕ) (ts us : List Transaction) → payloads_behind k (ts ++ us) ≡ payloads_behind k ts ++ payloads_behind (k + length ts) us
behind_append k [] us = let same : k ≡ k + 0 = omega arith in ap (λ (n : ℕ). payloads_behind n us) same
behind_append k (t ∷ ts) us =
    let same : k + 1 + length ts ≡ k + suc (length ts) = omega arith in
    ap (λ (ps : List (List ℕ)). record_bytes (k + 1) t ∷ ps)
    (behind_append (k + 1) ts us ∙ ap (λ (n : ℕ). payloads_behind (k + 1) ts ++ payloads_behind n us) same)

fits_append : (k : ℕ) (ts us : List Transaction) → AreInRangeBehind k ts → AreInRangeBehind (k + length ts) us
    → AreInRangeBehind k (ts ++ us)
fits_append k [] us first second =
    let same : k + 0 ≡ k = omega arith in
    subst (λ (n : ℕ). AreInRangeBehind n us) same second
fits_append k (t ∷ ts) us first second =
    let same : k + suc (length ts) ≡ k + 1 + length ts = omega arith in
    (first.0, fits_append (k + 1) ts us first.1 (subst (λ (n : ℕ). AreInRangeBehind n us) same second))

pub waits_more : (c d e : Core) (old mid new : List (List ℕ)) → Waits c old d mid → Waits d mid e new → Waits c old e new
waits_more c d e old mid new first second =
    let counted : d.number ≡ c.number + length first.transactions = ap (λ (s : Summary). s.transactions)
    first.takes.leads.came ∙ after_counts (summary c) first.transactions in
    record {
      transactions = first.transactions ++ second.transactions;
      takes = takes_more c d e first.transactions second.transactions first.takes second.takes;
      fits = fits_append c.number first.transactions second.transactions first.fits
          (subst (λ (n : ℕ). AreInRangeBehind n second.transactions) counted second.fits);
      put = second.put
          ∙ (ap (λ (ps : List (List ℕ)). ps ++ payloads_behind d.number second.transactions) first.put
          ∙ (append_assoc old (payloads_behind c.number first.transactions) (payloads_behind d.number second.transactions)
          ∙ ap (λ (ps : List (List ℕ)). old ++ ps)
          (ap (λ (n : ℕ). payloads_behind c.number first.transactions ++ payloads_behind n second.transactions) counted
          ∙ sym (behind_append c.number first.transactions second.transactions))));
    }

pub waits_behind : {T E : Type 0} (r : Result T E) (c d e : Core) (old mid new : List (List ℕ)) → Waits c old d mid → WaitsBehind d mid e new r → WaitsBehind c old e new r
waits_behind (Ok x) c d e old mid new first second = waits_more c d e old mid new first second
waits_behind (Err x) c d e old mid new first second = (second.0, waits_more c d second.0 old mid new first second.1)

-- what waits where there was nothing before: the payloads of the next transactions, in range, which are taken up to
-- the state where the call succeeds
pub waits_all : {T E : Type 0} (r : Result T E) (c e : Core) (new : List (List ℕ)) → WaitsBehind c [] e new r
    → (ts : List Transaction) × (new ≡ payloads_behind c.number ts) × EndsTaken c e r ts
    × AreInRangeBehind c.number ts
waits_all (Ok x) c e new waits = (
  waits.transactions,
  waits.put,
  record { last = e; takes = waits.takes; done = refl },
  waits.fits,
)
waits_all (Err x) c e new waits = (
  waits.1.transactions,
  waits.1.put,
  record { last = waits.0; takes = waits.1.takes; done = tt },
  waits.1.fits,
)

-- nothing waits, so nothing was adopted
pub waits_nothing : (c e : Core) (new : List (List ℕ)) → new ≡ [] → Waits c [] e new → TakesAll c [] e
waits_nothing c e new none waits = subst (λ (ts : List Transaction). TakesAll c ts e)
    (no_payload c.number waits.transactions (sym waits.put ∙ none)) waits.takes
  where
    no_payload : (k : ℕ) (ts : List Transaction) → payloads_behind k ts ≡ [] → ts ≡ []
    no_payload k [] is = refl
    no_payload k (t ∷ ts) is = absurd (cc)

-- ---- stages

pub reaches_on : (a b c : Stage) → Reaches a b → Reaches b c → Reaches a c
reaches_on a b c first Here = first
reaches_on a b c first (Further second passes) = Further (reaches_on a b _ first second) passes

-- ---- the end of gathering

-- a stop for want of memory, or nothing has changed
pub stop_unchanged : {T : Type 0} (r : Result T FollowStop) (stop : FollowStop) (c c' : Core) (taken taken' : ℕ) → OnOk r ((d d' : Core) (n n' : ℕ) → IsUnchanged stop d n d' n' → (d' ≡ d) × (n' ≡ n)) → IsUnchanged stop c taken c' taken' → OnOk r ((c' ≡ c) × (taken' ≡ taken))
stop_unchanged (Ok x) stop c c' taken taken' so unchanged = so c c' taken taken' unchanged
stop_unchanged (Err e) stop c c' taken taken' so unchanged = tt

pub stop_waits : {T E : Type 0} (r : Result T E) (c d e : Core) (taken taken' : ℕ) (old mid new : List (List ℕ)) → Waits c old d mid → OnOk r ((e ≡ d) × (taken' ≡ taken)) → new ≡ mid → WaitsBehind c old e new r
stop_waits (Ok x) c d e taken taken' old mid new waits same batch = subst (λ (x : Core). Waits c old x new) (sym same.0) (subst (Waits c old d) (sym batch) waits)
stop_waits (Err x) c d e taken taken' old mid new waits same batch = (d, subst (Waits c old d) (sym batch) waits)

pub stop_reaches : {E : Type 0} (r : Result ℕ E) (first : Option (List ℕ) → Stage) (c c' : Core) (taken taken' number : ℕ) (reader : Reader) → OnOk r ((c' ≡ c) × (taken' ≡ taken)) → IfOk r (λ n. n ≡ number) → ((left : Option (List ℕ)) → Reaches (first left) (stage c taken number reader left)) → IfOk r (λ n. (left : Option (List ℕ)) → Reaches (first left) (stage c' taken' n reader left))
stop_reaches (Ok n) first c c' taken taken' number reader same is reached = λ left.
    subst (λ (k : ℕ). Reaches (first left) (stage c' taken' k reader left)) (sym is)
    (subst (λ (k : ℕ). Reaches (first left) (stage c' k number reader left)) (sym same.1)
    (subst (λ (x : Core). Reaches (first left) (stage x taken number reader left)) (sym same.0) (reached left)))
stop_reaches (Err e) first c c' taken taken' number reader same is reached = tt

-- ---- stops

-- why a transaction isn't taken, as why its payload isn't
pub payload_stops : (place number : ℕ) (payload : List ℕ) (c : Core) (t : Transaction) (stop : FollowStop) → IsRecord number t payload → StopsTaking c number t stop → StopsPayload place number payload c stop
payload_stops place number payload c t (Store stop) is stops = (t, is, stops)
payload_stops place number payload c t (Frame at) is stops = absurd stops
payload_stops place number payload c t (Cut n) is stops = absurd stops
payload_stops place number payload c t Other is stops = absurd stops
payload_stops place number payload c t (Gap n) is stops = absurd stops
payload_stops place number payload c t (NotAllowed n) is stops = (t, is, stops)
payload_stops place number payload c t ReadFault is stops = absurd stops
payload_stops place number payload c t TooLong is stops = absurd stops
payload_stops place number payload c t NoMemory is stops = tt

-- what was put in a batch is new, and admitted
pub new_stops : (place number : ℕ) (payload : List ℕ) (c : Core) (taken : ℕ) (c' : Core) (taken' : ℕ) (stop : FollowStop) → TakesPayload number payload c taken c' taken' → (number ≤ c.number → ⊥) → ((t : Transaction) → c.number < number → IsAdmitted c number t → StopsTaking c number t stop) → StopsPayload place number payload c stop
new_stops place number payload c taken c' taken' stop takes fresh stops =
    payload_stops place number payload c takes.transaction stop takes.is
    (⊎_elim (λ had. absurd (fresh had.0)) (λ new. stops takes.transaction new.0.beyond new.0.admitted) takes.takes)

-- ---- a batch that is kept

-- what is kept holds of the state after the call, where it succeeds
pub kept_on : {T E : Type 0} (r : Result T E) (c e : Core) (ts : List Transaction) (IsHeld : Summary → Type 0)
    → IsHeld (after (summary c) ts) → EndsTaken c e r ts → OnOk r (IsHeld (summary e))
kept_on (Ok x) c e ts IsHeld held ends = subst (λ (d : Core). IsHeld (summary d)) ends.done
    (subst IsHeld (sym ends.takes.leads.came) held)
kept_on (Err x) c e ts IsHeld held ends = tt

-- the first frame is taken, and those behind it that are held
pub takes_on : {E : Type 0} (r : Result ℕ E) (last number : ℕ) (payload : List ℕ) (reader reader' : Reader) (c mid c' : Core) (taken count taken' : ℕ)
    → number ≡ last + 1 → TakesPayload number payload c taken mid count
    → IfOk r (λ n. (left : Option (List ℕ)) → Reaches (stage mid count number reader left) (stage c' taken' n reader' left))
    → IfOk r (λ n. TakesOn last payload reader c taken n reader' c' taken')
takes_on (Ok n) last number payload reader reader' c mid c' taken count taken' is first behind = record {
  mid = mid;
  count = count;
  first = subst (λ (k : ℕ). TakesPayload k payload c taken mid count) is first;
  behind = λ left. subst (λ (k : ℕ). Reaches (stage mid count k reader left) (stage c' taken' n reader' left)) is (behind left);
}
takes_on (Err e) last number payload reader reader' c mid c' taken count taken' is first behind = tt

-- the first frame is taken, and those behind it for whose state transactions wait
pub takes_up_to : (last number : ℕ) (payload : List ℕ) (reader reader' : Reader) (c mid : Core) (taken count : ℕ) (old new : List (List ℕ)) (IsSo : Core → Type 0)
    → number ≡ last + 1 → TakesPayload number payload c taken mid count → IsRightCore mid
    → (w : WaitsAt number reader mid count old reader' new) → IsSo w.core → TakesUpTo last payload reader c taken IsSo
takes_up_to last number payload reader reader' c mid taken count old new IsSo is first right w so = record {
  core = w.core;
  count = w.count;
  number = w.number;
  next = reader';
  hands = w.hands;
  takes = record {
    mid = mid;
    count = count;
    first = subst (λ (k : ℕ). TakesPayload k payload c taken mid count) is first;
    behind = λ left. subst (λ (k : ℕ). Reaches (stage mid count k reader left) (stage w.core w.count w.number reader' left)) is (w.reached right left);
  };
  so = so;
}

-- a crash leaves the state before them, or the one for which transactions wait
pub leaves_up_to : {D : Type 0} (moment : D → ℕ) (left_since : D → ℕ → Image → Type 0) (before now : D)
    (last number : ℕ) (payload : List ℕ) (reader reader' : Reader) (c mid : Core) (taken count : ℕ)
    (old new : List (List ℕ)) (ts : List Transaction)
    → number ≡ last + 1 → TakesPayload number payload c taken mid count → IsRightCore mid
    → (w : WaitsAt number reader mid count old reader' new) → summary w.core ≡ after (summary c) ts
    → LeavesOnly moment left_since before now (AllOrNone ts (summary c)) → LeavesOnly moment left_since before now
    (StandsUpTo last payload reader c taken)
leaves_up_to moment left_since before now last number payload reader reader' c mid taken count old new ts is first
    right w came leaves =
    weaker moment left_since (λ disk image. left_since disk 0 image) before now (AllOrNone ts (summary c))
    (StandsUpTo last payload reader c taken) leaves
    (λ image. ⊎_elim
    (λ stands. inl stands)
    (λ stands. inr (takes_up_to last number payload reader reader' c mid taken count old new
    (λ core. StandsFor (summary core) image) is first right w
    (subst (λ (s : Summary). StandsFor s image) (sym came) stands))))

-- where there was no memory to gather more, what waited is kept
pub kept_so : {T : Type 0} (r : Result T FollowStop) (Same : Type 0) (IsOn : (Core → Type 0) → Type 0) (IsKept MayBe : Core → Type 0) → IfErr r (λ end. end ≡ NoMemory) → IsOn IsKept → IfErr r (λ stop. Same ⊎ IsOn (IsKeptBy stop IsKept MayBe))
kept_so (Ok x) Same IsOn IsKept MayBe is on = tt
kept_so (Err stop) Same IsOn IsKept MayBe is on = subst (λ (e : FollowStop). Same ⊎ IsOn (IsKeptBy e IsKept MayBe)) (sym is) (inr on)

-- where the journal doesn't keep what waited, it may after a fault; else nothing was done
pub unkept_so : (stop : Stop) (end : FollowStop) (Same : Type 0) (IsOn : (Core → Type 0) → Type 0) (IsKept MayBe : Core → Type 0) → IsUnkept stop end → (stop ≡ journal.NoMemory → Same) → IsOn MayBe → Same ⊎ IsOn (IsKeptBy end IsKept MayBe)
unkept_so journal.StoreFault end Same IsOn IsKept MayBe is same on = subst (λ (e : FollowStop). Same ⊎ IsOn (IsKeptBy e IsKept MayBe)) (sym is) (inr on)
unkept_so journal.NoMemory end Same IsOn IsKept MayBe is same on = inl (same refl)

-- ---- a payload that was read

-- its transaction is taken
pub payload_taken : {T E : Type 0} (r : Result T E) (read number : ℕ) (t : Transaction) (payload : List ℕ) (c : Core) (taken : ℕ) (c' : Core) (taken' : ℕ)
    → read ≡ number → IsRecord read t payload → OnOk r (Takes read t c taken c' taken') → OnOk r (TakesPayload number payload c taken c' taken')
payload_taken (Ok x) read number t payload c taken c' taken' same is takes = record {
  transaction = t;
  is = subst (λ (n : ℕ). IsRecord n t payload) same is;
  takes = subst (λ (n : ℕ). Takes n t c taken c' taken') same takes;
}
payload_taken (Err e) read number t payload c taken c' taken' same is takes = tt

-- its transaction isn't taken
pub payload_untaken : {T : Type 0} (r : Result T FollowStop) (place read number : ℕ) (t : Transaction) (payload : List ℕ) (c : Core)
    → read ≡ number → IsRecord read t payload → IfErr r (StopsTaking c read t) → IfErr r (StopsPayload place number payload c)
payload_untaken (Ok x) place read number t payload c same is stops = tt
payload_untaken (Err stop) place read number t payload c same is stops =
    payload_stops place number payload c t stop (subst (λ (n : ℕ). IsRecord n t payload) same is) (subst (λ (n : ℕ). StopsTaking c n t stop) same stops)
