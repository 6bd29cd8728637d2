-- A DRAIN leads to one state and has one reply.
use Rattle.std.proofs.Common.{◌≡◌, ◌⊎◌, inl, inr, ℕ, zero, suc, ◌+◌, ◌-◌, ◌^◌, ◌<◌, ◌≤◌, Bool, true, false, List, [], ◌∷◌, ◌++◌, length}
use Rattle.std.proofs.Common.{Some, refl, sym, ap, subst, ◌∙◌, arith, true≢false}
use Rattle.std.specs.Prelude.{min, nat_le, is_some, slice_get, slice_index_or, if◌then◌else◌, ◌&&◌, drop}
use Rattle.std.proofs.lemmas.Bool.{and_parts, leb-true, lt-ltb, le-ltb, cases_lt}
use Rattle.std.proofs.lemmas.Bool.Decides.{leb_tells, eqb_tells}
use Rattle.std.proofs.lemmas.List.{length-set}
use Rattle.flow_model.specs.declared.instances.Message.{Message}
use Rattle.flow_model.specs.declared.transactions.Transaction.TheVariants.{Turn}
use Rattle.machine.specs.Queues.{put_in, taken_by}
use Rattle.machine.specs.States.{State, templates}
use Rattle.machine.specs.Steps.{Steps, queue_then, roots_after, given_by, root_about}
use Rattle.machine.proofs.One.{step}
use Rattle.recover_queue.specs.Queues.{is_quiet, queue, with_queue}
use Rattle.machine.specs.Scripts.{IsDrained, TakesInTurn, NoTurn, OneTurn, IsNextQueue, TakesFront, has_message}
use Rattle.machine.specs.Scripts.{queues_before, queue_behind, turns_text, full_text}

-- ---- one turn

-- a queue that has a message is one of the queues, and has a first message
record HasFirst (c : State) (q : ℕ) : Type 0 where
  least : 1 ≤ q
  most : q ≤ length c.queues
  first : is_some (slice_get (queue c.queues q) 0) ≡ true

has_first : (c : State) (q : ℕ) → has_message c q ≡ true → HasFirst c q
has_first c q has =
    let outer = and_parts (nat_le 1 q && nat_le q (length c.queues)) (is_some (slice_get (queue c.queues q) 0)) has in
    let inner = and_parts (nat_le 1 q) (nat_le q (length c.queues)) outer.0 in
    record { least = leb-true 1 q inner.0; most = leb-true q (length c.queues) inner.1; first = outer.1 }

before_at : (count from q : ℕ) → from ≤ q → queues_before count from q ≡ q - from
before_at count from q le = go (leb_tells from q)
  where
    go : ((nat_le from q ≡ true) × (from ≤ q)) ⊎ ((nat_le from q ≡ false) × (q < from))
        → (if nat_le from q then q - from else q + count - from) ≡ q - from
    go (inl is) = rw is.0 refl
    go (inr is) = absurd (omega (arith, le, is.1))

before_past : (count from q : ℕ) → q < from → queues_before count from q ≡ q + count - from
before_past count from q lt = go (leb_tells from q)
  where
    go : ((nat_le from q ≡ true) × (from ≤ q)) ⊎ ((nat_le from q ≡ false) × (q < from))
        → (if nat_le from q then q - from else q + count - from) ≡ q + count - from
    go (inl is) = absurd (omega (arith, lt, is.1))
    go (inr is) = rw is.0 refl

-- two queues before which as many come are one
before_one : (count from p q : ℕ) → from ≤ count → (1 ≤ p) × (p ≤ count) → (1 ≤ q) × (q ≤ count)
    → queues_before count from p ≡ queues_before count from q → p ≡ q
before_one count from p q le here there same = go (cases_lt p from) (cases_lt q from)
  where
    go : (p < from) ⊎ (from ≤ p) → (q < from) ⊎ (from ≤ q) → p ≡ q
    go (inl past) (inl past') =
        let sums = sym (before_past count from p past) ∙ same ∙ before_past count from q past' in
        omega (arith, le, here.0, there.0, sums, past, past')
    go (inl past) (inr at) =
        let sums = sym (before_past count from p past) ∙ same ∙ before_at count from q at in
        absurd (omega (arith, le, here.0, there.1, sums, past, at))
    go (inr at) (inl past) =
        let sums = sym (before_at count from p at) ∙ same ∙ before_past count from q past in
        absurd (omega (arith, le, here.1, there.0, sums, past, at))
    go (inr at) (inr at') =
        let sums = sym (before_at count from p at) ∙ same ∙ before_at count from q at' in
        omega (arith, sums, at, at')

next_one : (c : State) (from p q : ℕ) → from ≤ length c.queues → IsNextQueue c from p → IsNextQueue c from q → p ≡ q
next_one c from p q le a b =
    let here = has_first c p a.has in
    let there = has_first c q b.has in
    let less = a.first q b.has in
    let more = b.first p a.has in
    before_one (length c.queues) from p q le (here.least, here.most) (there.least, there.most) (omega (arith, less, more))

message_one : (c : State) (q : ℕ) (m n : Message) → slice_get (queue c.queues q) 0 ≡ Some m
    → slice_get (queue c.queues q) 0 ≡ Some n → m ≡ n
message_one c q m n a b = let both : Some m ≡ Some n = sym a ∙ b in cc

front_one : (c c' c'' : State) (q : ℕ) → TakesFront c c' q → TakesFront c c'' q → c' ≡ c''
front_one c c' c'' q a b =
    let same = message_one c q a.message b.message a.front.1 b.front.1 in
    step c c' c'' (Turn q b.message) (subst (λ m. Steps c (Turn q m) c') same a.steps) b.steps

-- ---- as many queues stay

put_length : (f : Message → ℕ) (given : List Message) (qs : List (List Message)) → length (put_in f given qs) ≡ length qs
put_length f [] qs = refl
put_length f (m ∷ given) qs =
    put_length f given (with_queue qs (f m) (queue qs (f m) ++ m ∷ []))
    ∙ length-set qs (f m - 1) (queue qs (f m) ++ m ∷ [])

turn_length : (c c' : State) (q : ℕ) → TakesFront c c' q → length c'.queues ≡ length c.queues
turn_length c c' q a =
    let t = Turn q a.message in
    ap (λ (s : State). length s.queues) a.steps.next
    ∙ put_length (queue_then (templates c) (length c.queues) (roots_after c t)) (given_by c t (root_about t))
    (taken_by t c.queues)
    ∙ length-set c.queues (q - 1) (drop 1 (queue c.queues q))

-- the queue behind another one is one of the queues
behind_within : (count q many : ℕ) → many ≡ count → 1 ≤ many → queue_behind count q ≤ many
behind_within count q many same some = go (leb_tells count q)
  where
    go : ((nat_le count q ≡ true) × (count ≤ q)) ⊎ ((nat_le count q ≡ false) × (q < count))
        → queue_behind count q ≤ many
    go (inl past) = rw (le-ltb q count past.1) some
    go (inr less) = rw (lt-ltb q count less.1) (omega (arith, less.1, same))

-- the turn is at one of the queues, where there is one
from_within : (c : State) (n from : ℕ) (c' : State) → TakesInTurn c n from c' → 1 ≤ length c'.queues
    → from ≤ length c'.queues
from_within c _ _ _ NoTurn some = some
from_within c _ _ _ (OneTurn {n} {from} {queue} {c'} {c''} takes next front) some =
    behind_within (length c'.queues) queue (length c''.queues) (turn_length c' c'' queue front) some

-- ---- as many turns lead to one state

-- as many turns lead to one state, and the turn is then at one queue
turns_one : (c : State) (n m from from' : ℕ) (c' c'' : State) → n ≡ m → TakesInTurn c n from c'
    → TakesInTurn c m from' c'' → (from ≡ from') × (c' ≡ c'')
turns_one c _ _ _ _ _ _ same NoTurn NoTurn = (refl, refl)
turns_one c _ _ _ _ _ _ same NoTurn (OneTurn {n} {from} {queue} {c'} {c''} takes next front) = absurd (omega arith)
turns_one c _ _ _ _ _ _ same (OneTurn {n} {from} {queue} {c'} {c''} takes next front) NoTurn = absurd (omega arith)
turns_one c _ _ _ _ _ _ same (OneTurn {n} {from} {queue = p} {c'} {c'' = d'} takes next front)
    (OneTurn {n = m} {from = from'} {queue = q} {c' = c''} {c'' = d''} takes' next' front') =
    let before = turns_one c n m from from' c' c'' (omega arith) takes takes' in
    let next'' : IsNextQueue c' from q
    = subst (λ f. IsNextQueue c' f q) (sym before.0) (subst (λ s. IsNextQueue s from' q) (sym before.1) next') in
    let some = has_first c' p next.has in
    let queues : p ≡ q = next_one c' from p q (from_within c n from c' takes
    (omega (arith, some.least, some.most))) next next'' in
    let front'' : TakesFront c' d'' p
    = subst (λ r. TakesFront c' d'' r) (sym queues) (subst (λ s. TakesFront s d'' q) (sym before.1) front') in (
      ap (queue_behind (length c'.queues)) queues ∙ ap (λ (s : State). queue_behind (length s.queues) q) before.1,
      front_one c' d' d'' p front front'',
    )

-- the state after fewer turns, and that one more follows
record Before (c : State) (k : ℕ) : Type 0 where
  from : ℕ
  state : State
  taken : TakesInTurn c k from state
  queue : ℕ
  next : IsNextQueue state from queue
  after : State
  front : TakesFront state after queue

fewer : (c : State) (k n from : ℕ) (c' : State) → k < n → TakesInTurn c n from c' → Before c k
fewer c k _ _ _ less NoTurn = absurd (omega arith)
fewer c k _ _ _ less (OneTurn {n} {from} {queue} {c'} {c''} takes next front) = elim (cases_lt k n) [
  | inl fewer_ ↦ fewer c k n from c' fewer_ takes
  | inr all ↦
      let same : n ≡ k = omega (arith, less, all) in
      record {
        from = from;
        state = c';
        taken = subst (λ m. TakesInTurn c m from c') same takes;
        queue = queue;
        next = next;
        after = c'';
        front = front;
      }
]

-- ---- where a DRAIN ends

quiet_empty : (qs : List (List Message)) → is_quiet qs ≡ true → (k : ℕ) → slice_index_or qs k [] ≡ []
quiet_empty [] quiet k = refl
quiet_empty ([] ∷ qs) quiet zero = refl
quiet_empty ([] ∷ qs) quiet (suc k) = quiet_empty qs quiet k
quiet_empty ((m ∷ ms) ∷ qs) quiet k = elim (eqb_tells (length (m ∷ ms)) 0) [
  | inl is ↦ let e = is.1 in absurd (omega arith)
  | inr other ↦ let never : false ≡ true = sym (ap (λ b. b && is_quiet qs) other.0) ∙ quiet in cc
]

quiet_or_not : (b : Bool) → (b ≡ true) ⊎ (b ≡ false)
quiet_or_not true = inl refl
quiet_or_not false = inr refl

-- no turn follows where a DRAIN has ended
no_more : (c : State) (from queue : ℕ) (after : State) → (is_quiet c.queues ≡ false → c.limit ≤ c.transactions)
    → IsNextQueue c from queue → TakesFront c after queue → ⊥
no_more c from q after ended next front = elim (quiet_or_not (is_quiet c.queues)) [
  | inl quiet ↦
      let some = (has_first c q next.has).first in
      let none : is_some (slice_get (queue c.queues q) 0) ≡ false
      = ap (λ ms. is_some (slice_get ms 0)) (quiet_empty c.queues quiet (q - 1)) in
      true≢false (sym some ∙ none)
  | inr loud ↦
      let full = ended loud in
      let room = front.room in
      omega arith
]

not_longer : (c c' c'' : State) (r r' : List ℕ) (d : IsDrained c c' r) (e : IsDrained c c'' r') → d.turns < e.turns → ⊥
not_longer c c' c'' r r' d e less =
    let more = fewer c d.turns e.turns e.turn c'' less e.taken in
    let same = turns_one c d.turns d.turns d.turn more.from c' more.state refl d.taken more.taken in
    no_more more.state more.from more.queue more.after
    (subst (λ (s : State). is_quiet s.queues ≡ false → s.limit ≤ s.transactions) same.1 d.ended) more.next more.front

pub drain_one : (c c' c'' : State) (r r' : List ℕ) → IsDrained c c' r → IsDrained c c'' r' → (c' ≡ c'') × (r ≡ r')
drain_one c c' c'' r r' d e = go (cases_lt d.turns e.turns) (cases_lt e.turns d.turns)
  where
    go : (d.turns < e.turns) ⊎ (e.turns ≤ d.turns) → (e.turns < d.turns) ⊎ (d.turns ≤ e.turns) → (c' ≡ c'') × (r ≡ r')
    go (inl less) other = absurd (not_longer c c' c'' r r' d e less)
    go (inr most) (inl less) = absurd (not_longer c c'' c' r' r e d less)
    go (inr most) (inr least) =
        let turns : d.turns ≡ e.turns = omega (arith, most, least) in
        let state = (turns_one c d.turns e.turns d.turn e.turn c' c'' turns d.taken e.taken).1 in (
          state,
          d.told
              ∙ ap (λ (s : State). if is_quiet s.queues then turns_text (min d.turns (2 ^ 64 - 1))
              else full_text s.limit (min d.turns (2 ^ 64 - 1))) state
              ∙ ap (λ n. if is_quiet c''.queues then turns_text (min n (2 ^ 64 - 1))
              else full_text c''.limit (min n (2 ^ 64 - 1))) turns ∙ sym e.told,
        )
