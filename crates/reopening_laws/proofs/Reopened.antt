-- The records of a history that commands made are admitted, one after the other.
use Rattle.std.proofs.Common.{◌≡◌, ◌⊎◌, inl, inr, ℕ, ◌+◌, ◌-◌, ◌^◌, ◌<◌, ◌≤◌, max, List, [], ◌∷◌, ◌++◌, length, Some, None, refl, sym, ap, subst, ◌∙◌, arith}
use Rattle.std.specs.List.{All}
use Rattle.std.proofs.lemmas.Option.{none-some}
use Rattle.core_laws.specs.RightStates.{IsRightCore}
use Rattle.core_laws.proofs.Making.{core_right}
use Rattle.flow_core.specs.Admitting.{IsAdmitted, IsRefused}
use Rattle.flow_core.specs.Summaries.{Summary}
use Rattle.flow_core.specs.declared.judging.Verdict.TheVariants.{Do}
use Rattle.flow_core.specs.declared.state.Core.{Core}
use Rattle.flow_model.specs.declared.transactions.Transaction.{Transaction}
use Rattle.flow_model.specs.declared.transactions.Transaction.TheVariants.{Import, Start, Turn, Claim, Release}
use Rattle.flow_model.specs.declared.transactions.Transaction.TheVariants.{Transfer, Take, Done, Force, Restart}
use Rattle.flow_model.specs.declared.transactions.Transaction.TheVariants.{Suspend, Resume, Terminate, Delete, Clock}
use Rattle.flow_session.specs.Histories.{payloads_behind, under}
use Rattle.flow_session.specs.Refusing.{Begins, AdmitsOne, Admits, NoRecord, OneRecord, LeadsTo, IsUnfit, BreaksAt, IsBroken, IsUnopened}
use Rattle.flow_session.specs.Replaying.{blank_under}
use Rattle.flow_session.proofs.Replaying.{blank_seen}
use Rattle.flow_session.proofs.Rights.{begun_right}
use Rattle.flow_txn.specs.Ranges.{IsInRange, TransactionFits}
use Rattle.flow_txn.specs.Records.{record_bytes}
use Rattle.machine.specs.States.{State, templates}
use Rattle.machine.specs.Steps.{Steps}
use Rattle.machine.specs.Scripts.{StepsAs}
use Rattle.machine.specs.Verdicts.{IsVerdict}
use Rattle.machine.proofs.One.{step}
use Rattle.machine_laws.specs.Viewed.{view}
use Rattle.machine_laws.proofs.Judging.{rule_one}
use Rattle.machine_laws.specs.Keyed.{AreKeyed}
use Rattle.machine_laws.proofs.Keyed.{blank_keyed}
use Rattle.machine_laws.proofs.Obeyed.{record_adopted}
use Rattle.flow_disk.specs.Images.{Image}
use Rattle.flow_disk.specs.declared.disk.Slot.{Slot}
use Rattle.txn_log.specs.Stores.{StoreState, NoStore, ForeignIn, DamagedIn, Counts, store_of}
use Rattle.txn_log.specs.declared.header.Header.{Header}
use Rattle.txn_log.specs.declared.stops.LogStop.{LogStop}
use Rattle.txn_log.specs.declared.stops.LogStop.TheVariants as log
use Rattle.std.proofs.lemmas.List.Elements.{All-nil}
use Rattle.flow_model.specs.declared.graphs.Template.{Template}
use Rattle.reopening_laws.specs.Codes.{HasCodes, HaveCodes}
use Rattle.reopening_laws.specs.Making.{MadeByCommands}
use Rattle.reopening_laws.proofs.Admitted.{command_admitted, verdict_room}
use Rattle.reopening_laws.proofs.Codes.{items_have_codes}
use Rattle.reopening_laws.proofs.Limits.{keeps_within}
use Rattle.reopening_laws.proofs.Made.{cut_at, made_at, made_count, made_codes, fits_before}
use Rattle.reopening_laws.proofs.Spelled.{one_record}

-- a number behind none
behind_none : (n : ℕ) → n + 1 ≡ 0 + n + 1
behind_none n = omega arith

-- ---- one record

-- a step under the number that is next is the step
step_next : (number : ℕ) (s next s' : State) (t : Transaction) → number ≡ s.transactions + 1 → Steps s t next
    → StepsAs number s t s' → s' ≡ next
step_next number s next s' t is made shows =
    let before : number - 1 ≡ s.transactions = omega (arith, is) in
    let same : Steps s t shows.0 =
    subst (λ (n : ℕ). Steps (record s { transactions = n }) t shows.0) before shows.1 in
    let one : shows.0 ≡ next = step s shows.0 next t same made in
    let count : next.transactions ≡ s.transactions + 1 = ap (λ (x : State). x.transactions) made.next in
    let most : max number s.transactions ≡ next.transactions = omega (arith, is, count) in
    shows.2 ∙ ap (λ (x : State). record x { transactions = max number s.transactions }) one
    ∙ ap (λ (n : ℕ). record next { transactions = n }) most

-- a state is right, keyed and seen as this one, and stands behind all that was kept
record Reached (c : Core) (s : State) : Type 0 where
  pub right : IsRightCore c
  pub keyed : AreKeyed c
  pub kept : c.kept ≡ 0
  pub seen : view c ≡ s

one_reached : (c c' : Core) (payload : List ℕ) (s next : State) (t : Transaction) → Reached c s
    → (one : AdmitsOne c payload c') → one.number ≡ s.transactions + 1 → one.transaction ≡ t → Steps s t next
    → Reached c' next
one_reached c c' payload s next t reached one number same made =
    let right = reached.right in
    let adopted = record_adopted c c' one.number one.transaction right.0 right.1 reached.keyed one.allowed one.admitted one.adopted in
    let shows : StepsAs one.number s t (view c') =
    subst (λ (u : Transaction). StepsAs one.number s u (view c')) same
    (subst (λ (x : State). StepsAs one.number x one.transaction (view c')) reached.seen adopted.0) in
    record {
      right = core_right c c' one.transaction (record {
        allowed = one.allowed;
        drives = one.adopted.drives;
        counts = one.counts;
        lives = (one.number, ap (λ (x : Summary). x.live) one.adopted.taken);
      }) right;
      keyed = adopted.1;
      kept = one.kept ∙ reached.kept;
      seen = step_next one.number s next (view c') t number made shows;
    }

-- ---- the records before one

empty_is : (ts : List Transaction) (number : ℕ) → payloads_behind number ts ≡ [] → ts ≡ []
empty_is [] number is = refl
empty_is (t ∷ ts) number is = let never : ⊥ = cc in absurd never

-- a transaction of a history under a limit, and its number, are in range
in_range : (s mid : State) (before : List Transaction) (t : Transaction) → s.transactions ≡ 0 → s.limit < 2 ^ 64
    → MadeByCommands s before mid → mid.transactions < mid.limit → TransactionFits t
    → IsInRange (length before + 1) t
in_range s mid before t none limit made room fits =
    let count = made_count s before mid made in
    let least : 1 ≤ length before + 1 = omega arith in
    let most : length before + 1 < 2 ^ 64 = omega (arith, none, limit, room, count.0, count.1) in
    ((least, most), fits)

module _ (s : State) (none : s.transactions ≡ 0) (limit : s.limit < 2 ^ 64) where
  reaches : (first c : Core) (front : List (List ℕ)) → Admits first front c → Reached first s → (ts : List Transaction) (mid : State) → payloads_behind 0 ts ≡ front
      → MadeByCommands s ts mid → All TransactionFits ts → Reached c mid
  reaches first _ _ NoRecord start ts mid is made fits =
      let same : ts ≡ [] = empty_is ts 0 is in
      subst (Reached first) (sym (subst (λ (us : List Transaction). MadeByCommands s us mid) same made)) start
  reaches first _ _ (OneRecord {payloads = bytes} {payload} {c'} {c''} admits one) start ts mid is made fits =
      let cut = cut_at 0 ts bytes payload [] is in
      let last : cut.rest ≡ [] = empty_is cut.rest (0 + length cut.before + 1) cut.behind_is in
      let all : MadeByCommands s (cut.before ++ cut.here ∷ cut.rest) mid =
      subst (λ (us : List Transaction). MadeByCommands s us mid) cut.split made in
      let at = made_at s cut.before cut.here cut.rest mid all in
      let ends : mid ≡ at.next =
      subst (λ (us : List Transaction). MadeByCommands at.next us mid) last at.others in
      let fit = fits_before TransactionFits cut.before cut.here cut.rest
      (subst (All TransactionFits) cut.split fits) in
      let before = reaches first c' bytes admits start cut.before at.mid cut.front_is at.made fit.0 in
      let count = made_count s cut.before at.mid at.made in
      let room : at.mid.transactions < at.mid.limit = verdict_room at.mid at.command cut.here at.judged in
      let ours : IsInRange (length cut.before + 1) cut.here =
      in_range s at.mid cut.before cut.here none limit at.made room fit.1 in
      let same = one_record one.number (length cut.before + 1) one.transaction cut.here one.in_range ours
      (one.spelled ∙ sym (ap (λ n. record_bytes n cut.here) (behind_none (length cut.before)) ∙ cut.here_is)) in
      let number : one.number ≡ at.mid.transactions + 1 = omega (arith, same.0, count.0, none) in
      subst (Reached c'') (sym ends)
      (one_reached c' c'' payload at.mid at.next cut.here before one number same.1 at.step)

-- ---- the record that would be unfit

-- what is admitted isn't refused
not_refused : (c : Core) (number : ℕ) (t : Transaction) → IsAdmitted c number t → IsRefused c number t → ⊥
not_refused c number (Import text) admitted (inl nowhere) = nowhere admitted.place
not_refused c number (Import text) admitted (inr broken) =
    none-some broken.0 (rule_one (view c) text None (Some broken.0) admitted.due broken.1)
not_refused c number (Start root process version starter key settings) admitted refused = refused admitted
not_refused c number (Turn queue message) admitted refused = refused admitted
not_refused c number (Claim item who) admitted refused = refused admitted
not_refused c number (Release item who) admitted refused = refused admitted
not_refused c number (Transfer item who to) admitted refused = refused admitted
not_refused c number (Take item take) admitted refused = refused admitted
not_refused c number (Done item who settings) admitted refused = refused admitted
not_refused c number (Force item settings) admitted refused = refused admitted
not_refused c number (Restart item) admitted refused = refused admitted
not_refused c number (Suspend root) admitted refused = refused admitted
not_refused c number (Resume root) admitted refused = refused admitted
not_refused c number (Terminate root) admitted refused = refused admitted
not_refused c number (Delete root) admitted refused = refused admitted
not_refused c number (Clock minutes) admitted refused = refused admitted

-- a record in range that is admitted isn't unfit
not_unfit : (c : Core) (number : ℕ) (t : Transaction) → IsInRange number t → IsAdmitted c number t
    → IsUnfit c (record_bytes number t) → ⊥
not_unfit c number t range admitted (inl none) = none number t range refl
not_unfit c number t range admitted (inr other) =
    let same = one_record other.0 number other.1 t other.2 range other.3 in
    not_refused c number t admitted
    (subst (λ (u : Transaction). IsRefused c number u) same.1
    (subst (λ (n : ℕ). IsRefused c n other.1) same.0 other.4))

-- ---- a slot

-- a state under a header of which nothing was taken out
begins_reached : (h : Header) (c : Core) → h.transactions ≡ 0 → 1 ≤ h.queues → Begins h c → Reached c (blank_under h)
begins_reached h c none some_ begins = record {
  right = (begun_right c (under h) begins.blank begins.kept begins.counts some_).0;
  keyed = blank_keyed c begins.blank;
  kept = begins.kept ∙ none;
  seen = blank_seen c (under h) begins.blank begins.counts;
}

pub histories_reopen : (h : Header) (ts : List Transaction) (s : State) (place : ℕ) → h.transactions ≡ 0 → 1 ≤ h.queues
    → h.limit < 2 ^ 64 → MadeByCommands (blank_under h) ts s → All TransactionFits ts
    → BreaksAt h (payloads_behind 0 ts) place → ⊥
histories_reopen h ts s place none some_ limit made fits breaks =
    let c = breaks.state in
    let first = breaks.leads.0 in
    let cut = cut_at 0 ts breaks.front breaks.payload breaks.behind breaks.split in
    let at = made_at (blank_under h) cut.before cut.here cut.rest s
    (subst (λ (us : List Transaction). MadeByCommands (blank_under h) us s) cut.split made) in
    let fit = fits_before TransactionFits cut.before cut.here cut.rest
    (subst (All TransactionFits) cut.split fits) in
    let reached = reaches (blank_under h) none limit first c breaks.front breaks.leads.2
    (begins_reached h first none some_ breaks.leads.1) cut.before at.mid cut.front_is at.made fit.0 in
    let room : at.mid.transactions < at.mid.limit = verdict_room at.mid at.command cut.here at.judged in
    let ours : IsInRange (length cut.before + 1) cut.here =
    in_range (blank_under h) at.mid cut.before cut.here none limit at.made room fit.1 in
    let coded : HaveCodes (templates at.mid) =
    made_codes (blank_under h) cut.before at.mid at.made (All-nil (λ (t : Template). HasCodes t.graph)) in
    let judged : IsVerdict (view c) at.command (Do cut.here) =
    subst (λ (x : State). IsVerdict x at.command (Do cut.here)) (sym reached.seen) at.judged in
    let coded_here : HaveCodes (templates (view c)) =
    subst (λ (x : State). HaveCodes (templates x)) (sym reached.seen) coded in
    let kept : c.kept ≤ c.number = let zero_kept = reached.kept in omega (arith, zero_kept) in
    let admitted : IsAdmitted c (c.number + 1) cut.here =
    command_admitted c reached.keyed (items_have_codes (view c) coded_here) kept at.command cut.here judged in
    let count = made_count (blank_under h) cut.before at.mid at.made in
    let seen_count : c.number ≡ at.mid.transactions = ap (λ (x : State). x.transactions) reached.seen in
    let number : c.number + 1 ≡ length cut.before + 1 = omega (arith, seen_count, count.0, none) in
    not_unfit c (length cut.before + 1) cut.here ours
    (subst (λ (n : ℕ). IsAdmitted c n cut.here) number admitted)
    (subst (IsUnfit c)
    (sym (ap (λ n. record_bytes n cut.here) (behind_none (length cut.before)) ∙ cut.here_is)) breaks.unfit)

pub histories_resumed : (h : Header) (ts : List Transaction) (s : State) (c : Core) → h.transactions ≡ 0
    → 1 ≤ h.queues → h.limit < 2 ^ 64 → MadeByCommands (blank_under h) ts s → All TransactionFits ts
    → LeadsTo h (payloads_behind 0 ts) c → view c ≡ s
histories_resumed h ts s c none some_ limit made fits leads =
    (reaches (blank_under h) none limit leads.0 c (payloads_behind 0 ts) leads.2
    (begins_reached h leads.0 none some_ leads.1) ts s refl made fits).seen

-- ---- a store

-- a store that counts has one slot that does
counts_header : (slot slot' : Slot) (h h' : Header) (ps ps' : List (List ℕ)) (end end' : ℕ)
    → Counts slot h ps end ≡ Counts slot' h' ps' end' → (h ≡ h') × (ps ≡ ps')
counts_header slot slot' h h' ps ps' end end' same = (cc, cc)

module _ (image : Image) (slot : Slot) (h : Header) (ts : List Transaction) (end : ℕ) (s : State)
    (counts : store_of image ≡ Counts slot h (payloads_behind 0 ts) end) (none : h.transactions ≡ 0)
    (made : MadeByCommands (blank_under h) ts s) (fits : All TransactionFits ts) where
  never : {X : Type 0} (state : StoreState) → store_of image ≡ state
      → (Counts slot h (payloads_behind 0 ts) end ≡ state → ⊥) → X
  never state is other = absurd (other (sym counts ∙ is))

  unbroken : (other : Slot) (place : ℕ) → IsBroken other place image → ⊥
  unbroken other place broken =
      let same = counts_header slot other h broken.header (payloads_behind 0 ts) broken.payloads end broken.end
      (sym counts ∙ broken.counts) in
      let breaks : BreaksAt h (payloads_behind 0 ts) place =
      subst (λ (ps : List (List ℕ)). BreaksAt h ps place) (sym same.1)
      (subst (λ (k : Header). BreaksAt k broken.payloads place) (sym same.0) broken.breaks) in
      let keeps = keeps_within image slot h (payloads_behind 0 ts) end counts in
      let limit : h.limit < 2 ^ 64 = omega (arith, keeps.limit) in
      histories_reopen h ts s place none keeps.some_ limit made fits breaks

  pub stores_reopen : (stop : LogStop) → IsUnopened image stop → (stop ≡ log.StoreFault) ⊎ (stop ≡ log.NoMemory)
  stores_reopen log.Unmade is = never NoStore is (λ e. cc)
  stores_reopen log.Made is = absurd is
  stores_reopen (log.Foreign other) is = never (ForeignIn other) is (λ e. cc)
  stores_reopen (log.Damaged other place) (inl is) = never (DamagedIn other place) is (λ e. cc)
  stores_reopen (log.Damaged other place) (inr broken) = absurd (unbroken other place broken)
  stores_reopen log.StoreFault is = inl refl
  stores_reopen log.NoMemory is = inr refl
