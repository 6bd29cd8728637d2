-- A DRAIN, which takes messages from the queues in turn.
use Rattle.std.proofs.Common.{◌≡◌, ◌⊎◌, inl, inr, subst, Result, Ok, Err, IfOk, Some, None, ℕ, suc, ◌+◌, ◌-◌, ◌^◌, ◌<◌, ◌≤◌, ◌==◌, min, true, false, List, [], ◌∷◌, length, refl, sym, ap, ◌∙◌, arith, true≢false}
use Rattle.std.specs.Prelude.{◌&&◌, nat_le, nat_lt, if◌then◌else◌, is_some, slice_get, slice_index_or}
use Rattle.std.specs.Global.{Vec}
use Rattle.std.proofs.lemmas.Bool.{and_parts, leb-true}
use Rattle.std.proofs.lemmas.Bool.Decides.{leb_tells}
use Rattle.flow_model.specs.declared.commands.Command.TheVariants.{Turn as TurnCommand}
use Rattle.flow_model.specs.declared.instances.Message.{Message}
use Rattle.flow_model.specs.declared.transactions.Transaction.{Transaction}
use Rattle.recover_queue.specs.Queues.{queue, is_quiet}
use Rattle.flow_core.specs.Answers.{has_message}
use Rattle.flow_core.specs.Refusals.{first_of, queue_test, message_test, full_test}
use Rattle.flow_core.specs.declared.refusals.Refusal.{Refusal}
use Rattle.flow_core.specs.declared.state.Core.{Core}
use Rattle.flow_core.specs.Summaries.{Summary}
use Rattle.flow_core.specs.Judgements.{IsVerdict}
use Rattle.flow_core.specs.declared.judging.Verdict.{Verdict}
use Rattle.flow_core.specs.declared.judging.Verdict.TheVariants.{Do}
use Rattle.machine_laws.specs.Applied.{Applied}
use Rattle.worklist_laws.specs.Shelved.{IsRightAndListed}
use Rattle.flow_session.specs.Asking.{IsTurnOf}
use Rattle.flow_session.specs.Leading.{LeadsBy}
use Rattle.flow_session.specs.Draining.{IsNextQueue, TakesFront, TakesInTurn, NoTurn, OneTurn, IsDrained, queues_before, queue_behind, turns_text, full_text}

-- ---- which queue is next

le_test : (a b : ℕ) → a ≤ b → nat_le a b ≡ true
le_test a b le = go (leb_tells a b)
  where
    go : ((nat_le a b ≡ true) × (a ≤ b)) ⊎ ((nat_le a b ≡ false) × (b < a)) → nat_le a b ≡ true
    go (inl is) = is.0
    go (inr is) = absurd (omega (arith, le, is.1))

-- a queue that has a message is one of the queues
has_place : (c : Core) (q : ℕ) → has_message c q ≡ true → (1 ≤ q) × (q ≤ length c.queues)
has_place c q has =
    let outer = and_parts (nat_le 1 q && nat_le q (length c.queues)) (is_some (slice_get (queue c.queues q) 0)) has in
    let inner = and_parts (nat_le 1 q) (nat_le q (length c.queues)) outer.0 in
    (leb-true 1 q inner.0, leb-true q (length c.queues) inner.1)

-- how many queues come before one at or behind the turn, and before one that the turn has passed
before_at : (count from q : ℕ) → from ≤ q → queues_before count from q ≡ q - from
before_at count from q le = go (leb_tells from q)
  where
    go : ((nat_le from q ≡ true) × (from ≤ q)) ⊎ ((nat_le from q ≡ false) × (q < from)) → (if nat_le from q then q - from else q + count - from) ≡ q - from
    go (inl is) = rw is.0 refl
    go (inr is) = absurd (omega (arith, le, is.1))

before_past : (count from q : ℕ) → q < from → queues_before count from q ≡ q + count - from
before_past count from q lt = go (leb_tells from q)
  where
    go : ((nat_le from q ≡ true) × (from ≤ q)) ⊎ ((nat_le from q ≡ false) × (q < from)) → (if nat_le from q then q - from else q + count - from) ≡ q + count - from
    go (inl is) = absurd (omega (arith, lt, is.1))
    go (inr is) = rw is.0 refl

-- no later queue comes first
module _ (c : Core) (from q other : ℕ) (here : (1 ≤ q) × (q ≤ length c.queues)) (there : (1 ≤ other) × (other ≤ length c.queues)) where
  first_behind : from ≤ q → (from ≤ other → q ≤ other) → queues_before (length c.queues) from q ≤ queues_before (length c.queues) from other
  first_behind le later = go (leb_tells from other)
    where
      go : ((nat_le from other ≡ true) × (from ≤ other)) ⊎ ((nat_le from other ≡ false) × (other < from)) → queues_before (length c.queues) from q ≤ queues_before (length c.queues) from other
      go (inl is) = rw (before_at (length c.queues) from q le) (rw (before_at (length c.queues) from other is.1) (omega (arith, later is.1)))
      go (inr is) = rw (before_at (length c.queues) from q le) (rw (before_past (length c.queues) from other is.1) (omega (arith, here.1, there.0, le)))

  first_around : q < from → other < from → q ≤ other → queues_before (length c.queues) from q ≤ queues_before (length c.queues) from other
  first_around lt past le = rw (before_past (length c.queues) from q lt) (rw (before_past (length c.queues) from other past) (omega (arith, le)))

not_both : (c : Core) (other : ℕ) → has_message c other ≡ true → has_message c other ≡ false → ⊥
not_both c other has none = true≢false (sym has ∙ none)

later_or_none : (c : Core) (low q other : ℕ) → has_message c other ≡ true → low ≤ other → ((k : ℕ) → low ≤ k → k < q → has_message c k ≡ false) → q ≤ other
later_or_none c low q other has le none = go (leb_tells q other)
  where
    go : ((nat_le q other ≡ true) × (q ≤ other)) ⊎ ((nat_le q other ≡ false) × (other < q)) → q ≤ other
    go (inl is) = is.1
    go (inr is) = absurd (not_both c other has (none other le is.1))

-- the first from the turn on is the next
pub next_at : (c : Core) (from q : ℕ) → from ≤ q → has_message c q ≡ true → ((k : ℕ) → from ≤ k → k < q → has_message c k ≡ false) → IsNextQueue c from q
next_at c from q le has none = record {
  has = has;
  first = λ other has_other. first_behind c from q other (has_place c q has) (has_place c other has_other) le (λ behind. later_or_none c from q other has_other behind none);
}

-- where none is left from the turn on, the first of the others is
pub next_around : (c : Core) (from q : ℕ) → q < from → has_message c q ≡ true → ((k : ℕ) → 1 ≤ k → k < q → has_message c k ≡ false) → ((k : ℕ) → from ≤ k → k < length c.queues + 1 → has_message c k ≡ false) → IsNextQueue c from q
next_around c from q lt has none none_behind = record {
  has = has;
  first = λ other has_other. go other has_other (leb_tells from other);
}
  where
    go : (other : ℕ) → has_message c other ≡ true → ((nat_le from other ≡ true) × (from ≤ other)) ⊎ ((nat_le from other ≡ false) × (other < from)) → queues_before (length c.queues) from q ≤ queues_before (length c.queues) from other
    go other has_other (inl is) = absurd (not_both c other has_other (none_behind other is.1 (let place = has_place c other has_other in omega (arith, place.1))))
    go other has_other (inr is) =
        let place = has_place c other has_other in
        first_around c from q other (has_place c q has) place lt is.1 (later_or_none c 1 q other has_other place.0 none)

-- ---- all queues are empty

-- what is no message is no queue's front
no_front : (ms : List Message) → is_some (slice_get ms 0) ≡ false → (length ms == 0) ≡ true
no_front [] none = refl
no_front (m ∷ ms) none = absurd (let e : true ≡ false = none in cc)

fronts : (qs : List (List Message)) → ((k : ℕ) → k < length qs → is_some (slice_get (slice_index_or qs k []) 0) ≡ false) → is_quiet qs ≡ true
fronts [] none = refl
fronts (ms ∷ qs) none =
    let here = no_front ms (none 0 (omega arith)) in
    let rest = fronts qs (λ k less. none (suc k) (omega (arith, less))) in
    rw here rest

one_back : (k : ℕ) → suc k - 1 ≡ k
one_back k = omega arith

front_of_none : (c : Core) (k : ℕ) → k < length c.queues → has_message c (suc k) ≡ false → is_some (slice_get (slice_index_or c.queues k []) 0) ≡ false
front_of_none c k less none =
    let here = rw (le_test 1 (suc k) (omega arith), le_test (suc k) (length c.queues) (omega (arith, less))) at none in
    subst (λ (i : ℕ). is_some (slice_get (slice_index_or c.queues i []) 0) ≡ false) (one_back k) here

pub all_quiet : (c : Core) (from : ℕ) → ((k : ℕ) → from ≤ k → k < length c.queues + 1 → has_message c k ≡ false) → ((k : ℕ) → 1 ≤ k → k < from → has_message c k ≡ false) → is_quiet c.queues ≡ true
all_quiet c from behind before = fronts c.queues (λ k less. front_of_none c k less (go k less (leb_tells from (suc k))))
  where
    go : (k : ℕ) → k < length c.queues → ((nat_le from (suc k) ≡ true) × (from ≤ suc k)) ⊎ ((nat_le from (suc k) ≡ false) × (suc k < from)) → has_message c (suc k) ≡ false
    go k less (inl is) = behind (suc k) is.1 (omega (arith, less))
    go k less (inr is) = before (suc k) (omega arith) is.1

-- ---- a TURN of a queue that has a message is not refused

pub no_refusal : (c : Core) (q : ℕ) (r : Refusal) → has_message c q ≡ true → c.number < c.limit → Some r ≡ first_of (queue_test c q ∷ message_test c q ∷ full_test c ∷ []) → ⊥
no_refusal c q r has room is =
    let outer = and_parts (nat_le 1 q && nat_le q (length c.queues)) (is_some (slice_get (queue c.queues q) 0)) has in
    let inner = and_parts (nat_le 1 q) (nat_le q (length c.queues)) outer.0 in
    let below : nat_lt c.number c.limit ≡ true = le_test (suc c.number) c.limit (omega (arith, room)) in
    let none : Some r ≡ None = rw (inner.0, inner.1, outer.1, below) at is in
    cc

-- ---- the DRAIN

pub behind_some : (count q : ℕ) → 1 ≤ queue_behind count q
behind_some count q = go (leb_tells (suc q) count)
  where
    go : ((nat_le (suc q) count ≡ true) × (suc q ≤ count)) ⊎ ((nat_le (suc q) count ≡ false) × (count < suc q)) → 1 ≤ (if nat_lt q count then q + 1 else 1)
    go (inl is) = rw is.0 (omega arith)
    go (inr is) = rw is.0 (omega arith)

-- the transaction to which a TURN is judged takes the front of its queue
pub takes_front : (old new : Core) (q : ℕ) (v : Verdict) (t : Transaction)
    → IsVerdict old (TurnCommand q) v → v ≡ Do t → Applied old t new → LeadsBy old (t ∷ []) new
    → (IsRightAndListed old → IsRightAndListed new) → IsTurnOf old new q (t ∷ [])
takes_front old new q v t verdict is applied leads right =
    let judged = subst (IsVerdict old (TurnCommand q)) is verdict in
    let made = judged.1 in
    let taken : TakesFront old new q = record {
      message = made.0;
      front = made.1;
      room = judged.0;
      applied = subst (λ (u : Transaction). Applied old u new) made.2 applied;
      leads = subst (λ (u : Transaction). LeadsBy old (u ∷ []) new) made.2 leads;
      right = right;
    } in
    (taken, ap (λ u. u ∷ []) made.2)

-- a turn leaves one less up to the limit
pub one_less : (old new : Core) (q : ℕ) → TakesFront old new q → (new.number ≡ old.number + 1) × (new.limit ≡ old.limit)
one_less old new q takes = (ap (λ (s : Summary). s.transactions) takes.applied.came, ap (λ (s : Summary). s.limit) takes.applied.came)

-- the turns so far, counted as far as 64 bits go
pub record HasTaken (old now : Core) (n turn : ℕ) : Type 0 where
  pub turns : ℕ
  pub taken : TakesInTurn old turns turn now
  pub counted : n ≡ min turns (2 ^ 64 - 1)

pub taken_none : (c : Core) → HasTaken c c 0 1
taken_none c = record { turns = 0; taken = NoTurn; counted = refl }

pub taken_more : (old now new : Core) (n m from q : ℕ) → HasTaken old now n from → IsNextQueue now from q → TakesFront now new q → m ≡ min (n + 1) (2 ^ 64 - 1) → HasTaken old new m (queue_behind (length now.queues) q)
taken_more old now new n m from q h next takes is = record { turns = h.turns + 1; taken = OneTurn h.taken next takes; counted = omega (arith, is, h.counted) }

-- the reply of a DRAIN
pub drained : {E : Type 0} (old new : Core) (n turn : ℕ) (r : Result (Vec ℕ) E) → HasTaken old new n turn → (is_quiet new.queues ≡ false → new.limit ≤ new.number)
    → IfOk r (λ reply. reply.items ≡ (if is_quiet new.queues then turns_text n else full_text new.limit n)) → IfOk r (λ reply. IsDrained old new reply.items)
drained old new n turn (Ok reply) h ended told = record {
  turns = h.turns;
  turn = turn;
  taken = h.taken;
  ended = ended;
  told = subst (λ k. reply.items ≡ (if is_quiet new.queues then turns_text k else full_text new.limit k)) h.counted told;
}
drained old new n turn (Err e) h ended told = tt
