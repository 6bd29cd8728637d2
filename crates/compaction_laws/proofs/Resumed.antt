-- The state to which the records of a checkpoint lead, and where they break.
use Rattle.std.proofs.Common.{◌≡◌, inl, inr, ℕ, ◌+◌, ◌^◌, ◌<◌, ◌≤◌, List, [], ◌∷◌, ◌++◌, Some, None, refl, sym, ap}
use Rattle.std.proofs.Common.{subst, ◌∙◌, arith}
use Rattle.std.specs.List.{All}
use Rattle.std.proofs.lemmas.List.Elements.{All-nil}
use Rattle.std.proofs.lemmas.Option.{none-some}
use Rattle.core_laws.specs.RightStates.{IsRightCore}
use Rattle.flow_core.specs.Admitting.{IsAdmitted, IsRefused}
use Rattle.flow_core.specs.declared.judging.Verdict.TheVariants.{Do}
use Rattle.flow_core.specs.declared.state.Core.{Core}
use Rattle.flow_model.specs.declared.graphs.Template.{Template}
use Rattle.flow_model.specs.declared.transactions.Numbered.{Numbered}
use Rattle.flow_model.specs.declared.transactions.Transaction.{Transaction}
use Rattle.flow_model.specs.declared.transactions.Transaction.TheVariants.{Import, Start, Turn, Claim, Release}
use Rattle.flow_model.specs.declared.transactions.Transaction.TheVariants.{Transfer, Take, Done, Force, Restart}
use Rattle.flow_model.specs.declared.transactions.Transaction.TheVariants.{Suspend, Resume, Terminate, Delete, Clock}
use Rattle.flow_session.specs.Histories.{IsHeaderOf, payloads, under}
use Rattle.flow_session.specs.Refusing.{Begins, AdmitsOne, Admits, NoRecord, OneRecord, LeadsTo, IsUnfit, BreaksAt}
use Rattle.flow_session.specs.Replaying.{blank_under}
use Rattle.flow_session.proofs.Replaying.{blank_seen}
use Rattle.flow_session.proofs.Rights.{begun_right}
use Rattle.flow_txn.specs.Ranges.{TransactionFits}
use Rattle.flow_txn.specs.Records.{record_bytes}
use Rattle.machine.specs.Scripts.{StepsAs, StateOf}
use Rattle.machine.specs.States.{State, blank, templates}
use Rattle.machine.specs.Verdicts.{IsVerdict}
use Rattle.machine_laws.specs.Viewed.{view}
use Rattle.machine_laws.proofs.Judging.{rule_one}
use Rattle.machine_laws.specs.Keyed.{AreKeyed}
use Rattle.machine_laws.proofs.Keyed.{blank_keyed}
use Rattle.reopening_laws.proofs.Admitted.{command_admitted}
use Rattle.reopening_laws.proofs.Codes.{items_have_codes}
use Rattle.reopening_laws.proofs.Spelled.{one_record}
use Rattle.reopening_laws.specs.Codes.{HasCodes, HaveCodes}
use Rattle.reopening_laws.specs.Making.{MadeByCommands}
use Rattle.txn_log.specs.declared.header.Header.{Header}
use Rattle.compaction_laws.specs.Compact.{counting, IsRemade, counted_blank}
use Rattle.compaction_laws.specs.Checkpoints.{summary_of}
use Rattle.compaction_laws.specs.Resuming.{IsCheckpointOf, records_since, IsBehindKept}
use Rattle.compaction_laws.proofs.Compact.{one_state}
use Rattle.compaction_laws.proofs.Kept.{kept_admitted}
use Rattle.compaction_laws.proofs.Opened.{one_adopted}
use Rattle.compaction_laws.proofs.Since.{all_since, since_payloads, IsMade, AreMade, since_made, states_made, Ranged}
use Rattle.compaction_laws.proofs.Since.{all_ranged}
use Rattle.compaction_laws.proofs.Since.{since_fit, Cut, cut, made_at, ranged_before}
use Rattle.std.specs.Prelude.{nat_le, IfSome, unwrap_or}
use Rattle.std.proofs.Common.{◌⊎◌, Option, true, if◌then◌else◌, le-leb}
use Rattle.machine.specs.Steps.{started, last_root_by}
use Rattle.flow_session.specs.Refusing.{IsBroken, IsUnopened}
use Rattle.flow_disk.specs.Images.{Image}
use Rattle.flow_disk.specs.declared.disk.Slot.{Slot}
use Rattle.txn_log.specs.Stores.{Counts, store_of}
use Rattle.txn_log.specs.declared.stops.LogStop.{LogStop}
use Rattle.txn_log.specs.declared.stops.LogStop.TheVariants as log
use Rattle.compaction_laws.specs.Compact.{AreRising}
use Rattle.compaction_laws.proofs.Compact.{anew_compact}
use Rattle.compaction_laws.proofs.Rising.{last_after, last_more, behind_before, numbers_within, rising_front}
use Rattle.compaction_laws.proofs.Rising.{rising_append}
use Rattle.compaction_laws.proofs.Rising.{last_counted, rising_made, all_before}
use Rattle.compaction_laws.proofs.Since.{numbered}
use Rattle.compaction_laws.proofs.Unopened.{fit_opens}

-- ---- records that are admitted

-- a state to which records lead from another
record Reached (first : Core) (ns : List Numbered) (c : Core) : Type 0 where
  pub right : IsRightCore c
  pub keyed : AreKeyed c
  pub kept : c.kept ≡ first.kept
  pub state : StateOf (view first) ns (view c)

state_more : (s : State) (ns : List Numbered) (n : Numbered) (mid s' : State) → StateOf s ns mid
    → StepsAs n.number mid n.transaction s' → StateOf s (ns ++ n ∷ []) s'
state_more s [] n mid s' all one =
    (s', subst (λ (x : State). StepsAs n.number x n.transaction s') all one, refl)
state_more s (m ∷ ns) n mid s' (next, steps, all) one = (next, steps, state_more next ns n mid s' all one)

one_reached : (first c c' : Core) (payload : List ℕ) (ns : List Numbered) (n : Numbered) → Reached first ns c
    → (one : AdmitsOne c payload c') → one.number ≡ n.number → one.transaction ≡ n.transaction
    → Reached first (ns ++ n ∷ []) c'
one_reached first c c' payload ns n reached one number transaction =
    let adopted = one_adopted c c' payload reached.right reached.keyed one in
    record {
      right = adopted.right;
      keyed = adopted.keyed;
      kept = one.kept ∙ reached.kept;
      state = state_more (view first) ns n (view c) (view c') reached.state
          (subst (λ (k : ℕ). StepsAs k (view c) n.transaction (view c')) number
          (subst (λ (u : Transaction). StepsAs one.number (view c) u (view c')) transaction adopted.steps));
    }

-- there is no payload only where there is no record
pub empty_is : (ns : List Numbered) → payloads ns ≡ [] → ns ≡ []
empty_is [] is = refl
empty_is (n ∷ ns) is = let never : ⊥ = cc in absurd never

reaches : (first c : Core) (bytes : List (List ℕ)) → Admits first bytes c → IsRightCore first → AreKeyed first
    → (ns : List Numbered) → payloads ns ≡ bytes → All Ranged ns → Reached first ns c
reaches first _ _ NoRecord right keyed ns is ranged =
    subst (λ (ms : List Numbered). Reached first ms first) (sym (empty_is ns is))
    (record { right = right; keyed = keyed; kept = refl; state = refl })
reaches first _ _ (OneRecord {payloads = bytes} {payload} {c'} {c''} admits one) right keyed ns is ranged =
    let at = cut ns bytes payload [] is in
    let whole : ns ≡ at.before ++ at.here ∷ [] = at.split
    ∙ ap (λ (ms : List Numbered). at.before ++ at.here ∷ ms) (empty_is at.rest at.behind_is) in
    let range = ranged_before at.before at.here [] (subst (All Ranged) whole ranged) in
    let same = one_record one.number at.here.number one.transaction at.here.transaction one.in_range range.1
    (one.spelled ∙ sym at.here_is) in
    let before = reaches first c' bytes admits right keyed at.before at.front_is range.0 in
    subst (λ (ms : List Numbered). Reached first ms c'') (sym whole)
    (one_reached first c' c'' payload at.before at.here before one same.0 same.1)

-- ---- the last kept record

-- a state has the number and the root of the last kept record
record HasLast (c : Core) (kept : ℕ) (ns : List Numbered) : Type 0 where
  pub kept_is : c.kept ≡ kept
  pub number : c.kept_number ≡ (last_after 0 0 ns).0
  pub root : c.kept_root ≡ (last_after 0 0 ns).1

kept_root_is : (o : Option ℕ) (root last : ℕ) → root ≡ last → IfSome o (λ other. last < other)
    → unwrap_or o root ≡ last_root_by o last
kept_root_is None root last same behind = same
kept_root_is (Some other) root last same behind = omega arith

one_last : (c c' : Core) (payload : List ℕ) (kept : ℕ) (ns : List Numbered) (n : Numbered) → HasLast c kept ns
    → (one : AdmitsOne c payload c') → one.number ≡ n.number → one.transaction ≡ n.transaction → n.number ≤ kept
    → IfSome (started n.transaction) (λ root. (last_after 0 0 ns).1 < root) → HasLast c' kept (ns ++ n ∷ [])
one_last c c' payload kept ns n last one number transaction within behind =
    let was = last.kept_is in
    let low : one.number ≤ c.kept = omega (arith, was, number, within) in
    let test : nat_le one.number c.kept ≡ true = le-leb one.number c.kept low in
    record {
      kept_is = one.kept ∙ last.kept_is;
      number = one.adopted.kept_number ∙ ap (λ b. if b then one.number else c.kept_number) test ∙ number
          ∙ sym (ap (λ (x : ℕ × ℕ). x.0) (last_more 0 0 ns n));
      root = one.adopted.kept_root
          ∙ ap (λ b. if b then unwrap_or (started one.transaction) c.kept_root else c.kept_root) test
          ∙ ap (λ (u : Transaction). unwrap_or (started u) c.kept_root) transaction
          ∙ kept_root_is (started n.transaction) c.kept_root (last_after 0 0 ns).1 last.root behind
          ∙ sym (ap (λ (x : ℕ × ℕ). x.1) (last_more 0 0 ns n));
    }

has_last : (first c : Core) (bytes : List (List ℕ)) → Admits first bytes c
    → (first.kept_number ≡ 0) × (first.kept_root ≡ 0) → (ns : List Numbered) → payloads ns ≡ bytes → All Ranged ns
    → All (λ (n : Numbered). n.number ≤ first.kept) ns → AreRising 0 0 ns → HasLast c first.kept ns
has_last first _ _ NoRecord none ns is ranged within rising =
    subst (λ (ms : List Numbered). HasLast first first.kept ms) (sym (empty_is ns is))
    (record { kept_is = refl; number = none.0; root = none.1 })
has_last first _ _ (OneRecord {payloads = bytes} {payload} {c'} {c''} admits one) none ns is ranged within rising =
    let at = cut ns bytes payload [] is in
    let whole : ns ≡ at.before ++ at.here ∷ [] = at.split
    ∙ ap (λ (ms : List Numbered). at.before ++ at.here ∷ ms) (empty_is at.rest at.behind_is) in
    let range = ranged_before at.before at.here [] (subst (All Ranged) whole ranged) in
    let small = all_before (λ (n : Numbered). n.number ≤ first.kept) at.before at.here []
    (subst (All (λ (n : Numbered). n.number ≤ first.kept)) whole within) in
    let rises : AreRising 0 0 (at.before ++ at.here ∷ []) = subst (AreRising 0 0) whole rising in
    let same = one_record one.number at.here.number one.transaction at.here.transaction one.in_range range.1
    (one.spelled ∙ sym at.here_is) in
    let before = has_last first c' bytes admits none at.before at.front_is range.0 small.0
    (rising_front 0 0 at.before (at.here ∷ []) rises) in
    subst (λ (ms : List Numbered). HasLast c'' first.kept ms) (sym whole)
    (one_last c' c'' payload first.kept at.before at.here before one same.0 same.1 small.1
    (behind_before 0 0 at.before at.here [] rises).1)

-- ---- a record that is admitted isn't unfit

not_refused : (c : Core) (number : ℕ) (t : Transaction) → IsAdmitted c number t → IsRefused c number t → ⊥
not_refused c number (Import text) admitted (inl nowhere) = nowhere admitted.place
not_refused c number (Import text) admitted (inr broken) =
    none-some broken.0 (rule_one (view c) text None (Some broken.0) admitted.due broken.1)
not_refused c number (Start root process version starter key settings) admitted refused = refused admitted
not_refused c number (Turn queue message) admitted refused = refused admitted
not_refused c number (Claim item who) admitted refused = refused admitted
not_refused c number (Release item who) admitted refused = refused admitted
not_refused c number (Transfer item who to) admitted refused = refused admitted
not_refused c number (Take item take) admitted refused = refused admitted
not_refused c number (Done item who settings) admitted refused = refused admitted
not_refused c number (Force item settings) admitted refused = refused admitted
not_refused c number (Restart item) admitted refused = refused admitted
not_refused c number (Suspend root) admitted refused = refused admitted
not_refused c number (Resume root) admitted refused = refused admitted
not_refused c number (Terminate root) admitted refused = refused admitted
not_refused c number (Delete root) admitted refused = refused admitted
not_refused c number (Clock minutes) admitted refused = refused admitted

pub not_unfit : (c : Core) (n : Numbered) (payload : List ℕ) → record_bytes n.number n.transaction ≡ payload → Ranged n
    → IsUnfit c payload → IsAdmitted c n.number n.transaction → ⊥
not_unfit c n payload is range (inl none) admitted = none n.number n.transaction range is
not_unfit c n payload is range (inr other) admitted =
    let same = one_record other.0 n.number other.1 n.transaction other.2 range (other.3 ∙ sym is) in
    not_refused c n.number n.transaction admitted
    (subst (λ (u : Transaction). IsRefused c n.number u) same.1
    (subst (λ (k : ℕ). IsRefused c k other.1) same.0 other.4))

-- ---- a checkpoint

counts_blank : (h : Header) (s : State) → IsHeaderOf h (summary_of s) → blank_under h ≡ counted_blank s
counts_blank h s is = λ i. counting (is.transactions i) (is.roots i) (blank (is.queues i) (is.limit i))

module _ (h : Header) (s s' : State) (ts : List Transaction) (is : IsCheckpointOf h s) (made : MadeByCommands s ts s')
    (fits : All TransactionFits ts) where
  abbrev records : List Numbered
  records = all_since s ts

  all_made : AreMade s.transactions (counted_blank s) records s'
  all_made = since_made s (counted_blank s) s' ts refl is.anew.remade made

  in_range : All Ranged records
  in_range = all_ranged s.transactions records (counted_blank s) s'
      (subst (λ (k : ℕ). k < 2 ^ 64) is.counts.limit is.limit) all_made (since_fit s ts is.fit fits)

  module _ (first : Core) (begins : Begins h first) where
    first_right : IsRightCore first
    first_right = (begun_right first (under h) begins.blank begins.kept begins.counts is.some_).0

    first_keyed : AreKeyed first
    first_keyed = blank_keyed first begins.blank

    first_seen : view first ≡ counted_blank s
    first_seen = blank_seen first (under h) begins.blank begins.counts ∙ counts_blank h s is.counts

    -- where some of the records lead
    seen_at : (ns : List Numbered) (c : Core) (x : State) → Reached first ns c → StateOf (counted_blank s) ns x
        → view c ≡ x
    seen_at ns c x reached leads =
        one_state ns (counted_blank s) (view c) x
        (subst (λ (y : State). StateOf y ns (view c)) first_seen reached.state) leads

  pub resumed : (c : Core) → LeadsTo h (records_since s ts) c → view c ≡ s'
  resumed c (first, begins, admits) =
      seen_at first begins records c s'
      (reaches first c (records_since s ts) admits (first_right first begins) (first_keyed first begins) records
      (since_payloads s ts) in_range)
      (states_made s.transactions records (counted_blank s) s' all_made)

  -- a record that is unfit is a kept one, and doesn't stand behind those that were taken up
  broken_at : (c : Core) (payload : List ℕ) (n : Numbered) (mid : State) → view c ≡ mid → AreKeyed c
      → c.kept ≡ s.transactions → HaveCodes (templates mid) → record_bytes n.number n.transaction ≡ payload → Ranged n
      → IsUnfit c payload → IsMade s.transactions mid n → (n.number ≤ h.transactions) × (IsBehindKept c n → ⊥)
  broken_at c payload n mid seen keyed kept coded spelled range unfit (inl (remade, count)) =
      let number : c.number ≡ mid.transactions = ap (λ (x : State). x.transactions) seen in
      let counted = remade.placed.counted in
      let header = is.counts.transactions in
      let coded_here : HaveCodes (templates (view c)) =
      subst (λ (x : State). HaveCodes (templates x)) (sym seen) coded in
      let again : IsRemade (view c) n = subst (λ (x : State). IsRemade x n) (sym seen) remade in (
        omega (arith, counted, count, header),
        λ behind.
            not_unfit c n payload spelled range unfit
            (kept_admitted c n keyed coded_here (number ∙ count ∙ sym kept) again behind),
      )
  broken_at c payload n mid seen keyed kept coded spelled range unfit (inr (command, judged, next, few)) =
      let number : c.number ≡ mid.transactions = ap (λ (x : State). x.transactions) seen in
      let coded_here : HaveCodes (templates (view c)) =
      subst (λ (x : State). HaveCodes (templates x)) (sym seen) coded in
      let judged_here : IsVerdict (view c) command (Do n.transaction) =
      subst (λ (x : State). IsVerdict x command (Do n.transaction)) (sym seen) judged in
      let behind : c.kept ≤ c.number = omega (arith, kept, few, number) in
      let admitted : IsAdmitted c (c.number + 1) n.transaction =
      command_admitted c keyed (items_have_codes (view c) coded_here) behind command n.transaction judged_here in
      let here : c.number + 1 ≡ n.number = omega (arith, next, number) in
      absurd (not_unfit c n payload spelled range unfit
      (subst (λ (k : ℕ). IsAdmitted c k n.transaction) here admitted))

  module _ (place : ℕ) (breaks : BreaksAt h (records_since s ts) place) where
    -- the record at which they break
    abbrev broken_cut : Cut records breaks.front breaks.payload breaks.behind
    broken_cut = cut records breaks.front breaks.payload breaks.behind (since_payloads s ts ∙ breaks.split)

    broken_here : (broken_cut.here.number ≤ h.transactions) × (IsBehindKept breaks.state broken_cut.here → ⊥)
    broken_here =
        let first = breaks.leads.0 in
        let begins = breaks.leads.1 in
        let at = broken_cut in
        let range = ranged_before at.before at.here at.rest (subst (All Ranged) at.split in_range) in
        let there = made_at s.transactions at.before at.here at.rest (counted_blank s) s'
        (subst (λ (ms : List Numbered). AreMade s.transactions (counted_blank s) ms s') at.split all_made) in
        let reached = reaches first breaks.state breaks.front breaks.leads.2 (first_right first begins)
        (first_keyed first begins) at.before at.front_is range.0 in
        let seen = seen_at first begins at.before breaks.state there.mid reached there.state in
        let kept : breaks.state.kept ≡ s.transactions = reached.kept ∙ begins.kept ∙ is.counts.transactions in
        broken_at breaks.state breaks.payload at.here there.mid seen reached.keyed kept
        (there.coded (All-nil (λ (t : Template). HasCodes t.graph))) at.here_is range.1 breaks.unfit there.is

    pub broken : (n : Numbered) × (record_bytes n.number n.transaction ≡ breaks.payload) × (n.number ≤ h.transactions)
        × (IsBehindKept breaks.state n → ⊥)
    broken = (broken_cut.here, broken_cut.here_is, broken_here.0, broken_here.1)

  -- all of them rise
  all_rise : AreRising 0 0 records
  all_rise =
      let last = last_counted 0 0 s.live (counted_blank s) s (anew_compact s is.anew) (omega arith) (omega arith) in
      rising_append 0 0 s.live (numbered s.transactions ts) is.anew.rising
      (rising_made (last_after 0 0 s.live).0 (last_after 0 0 s.live).1 ts s s' last.0 last.1 made)

  -- so none breaks
  pub unbroken : (place : ℕ) → BreaksAt h (records_since s ts) place → ⊥
  unbroken place breaks =
      let first = breaks.leads.0 in
      let begins = breaks.leads.1 in
      let at = broken_cut place breaks in
      let here = broken_here place breaks in
      let kept = begins.kept in
      let low : at.here.number ≤ first.kept = let most = here.0 in omega (arith, most, kept) in
      let range = ranged_before at.before at.here at.rest (subst (All Ranged) at.split in_range) in
      let rises : AreRising 0 0 (at.before ++ at.here ∷ at.rest) = subst (AreRising 0 0) at.split all_rise in
      let behind = behind_before 0 0 at.before at.here at.rest rises in
      let last = has_last first breaks.state breaks.front breaks.leads.2 begins.none_taken at.before at.front_is range.0
      (numbers_within first.kept 0 0 at.before at.here at.rest low rises)
      (rising_front 0 0 at.before (at.here ∷ at.rest) rises) in
      here.1 (
        subst (λ (k : ℕ). k < at.here.number) (sym last.number) behind.0,
        subst (λ (k : ℕ). IfSome (started at.here.transaction) (λ root. k < root)) (sym last.root) behind.1,
      )

-- ---- a store

-- a store that counts has one slot that does
pub counts_header : (slot slot' : Slot) (h h' : Header) (ps ps' : List (List ℕ)) (end end' : ℕ)
    → Counts slot h ps end ≡ Counts slot' h' ps' end' → (h ≡ h') × (ps ≡ ps')
counts_header slot slot' h h' ps ps' end end' same = (cc, cc)

module _ (image : Image) (slot : Slot) (h : Header) (s s' : State) (ts : List Transaction) (end : ℕ)
    (counts : store_of image ≡ Counts slot h (records_since s ts) end) (is : IsCheckpointOf h s)
    (made : MadeByCommands s ts s') (fits : All TransactionFits ts) where
  pub unbroken_image : (other : Slot) (place : ℕ) → IsBroken other place image → ⊥
  unbroken_image other place broken =
      let same = counts_header slot other h broken.header (records_since s ts) broken.payloads end broken.end
      (sym counts ∙ broken.counts) in
      let breaks : BreaksAt h (records_since s ts) place =
      subst (λ (ps : List (List ℕ)). BreaksAt h ps place) (sym same.1)
      (subst (λ (k : Header). BreaksAt k broken.payloads place) (sym same.0) broken.breaks) in
      unbroken h s s' ts is made fits place breaks

  pub stores_reopen : (stop : LogStop) → IsUnopened image stop → (stop ≡ log.StoreFault) ⊎ (stop ≡ log.NoMemory)
  stores_reopen stop shows = fit_opens image slot h (records_since s ts) end counts unbroken_image stop shows
