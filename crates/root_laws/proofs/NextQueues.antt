-- The queues after one more event: a message that it takes leaves the front of its queue, and what it puts goes to the backs.
use Rattle.std.proofs.Common.{◌≡◌, ℕ, ◌+◌, ◌≤◌, ◌==◌, Bool, true, false, not, ◌&&◌, ◌||◌, if◌then◌else◌, List, [], ◌∷◌, ◌++◌, drop, Some, None, refl, ap, sym, ◌∙◌, arith}
use Rattle.std.proofs.lemmas.List.Elements.{filter-append}
use Rattle.std.proofs.lemmas.Option.{none-some}
use Rattle.std.specs.List.{filter}
use Rattle.fate_laws.proofs.Extends.{and_true}
use Rattle.fate_laws.proofs.Items.{eqb_itself, eqb_one}
use Rattle.fate_laws.specs.WellFormed.{Well}
use Rattle.view_laws.proofs.Counting.{has_times, times_has, times-append, front_passes, front_waits, spent_once}
use Rattle.view_laws.proofs.NothingDue.{nothing}
use Rattle.view_laws.proofs.SameNotes.{itself, one}
use Rattle.view_laws.proofs.WholeRuns.{note_once}
use Rattle.view_laws.specs.Messages.{Note, same_note}
use Rattle.view_laws.specs.Queues.{Engine, has, times, by_kind, put, all_put, with_taken, spent, queue, first, TakesFronts}
use Rattle.view_laws.specs.Runs.{Root, Event, turned, due, engine}

and_yes : (b : Bool) → (b && true) ≡ b
and_yes true = refl
and_yes false = refl

module _ (r : Root) (q : Note → ℕ) where
  abbrev x : Engine Note Event
  x = engine r q

  -- ---- lists

  -- two tests that agree on the elements pass the same
  filter_same : (p p' : Note → Bool) (ms : List Note) → ((m : Note) → 1 ≤ times x ms m → p' m ≡ p m) → filter p' ms ≡ filter p ms
  filter_same p p' [] same = refl
  filter_same p p' (n ∷ ms) same = go (p n) refl (filter_same p p' ms (λ m some. same m (omega arith)))
    where
      first_same : p' n ≡ p n
      first_same = same n (let here : times x (n ∷ ms) n ≡ 1 + times x ms n = rw (itself n) refl in omega arith)

      go : (b : Bool) → p n ≡ b → filter p' ms ≡ filter p ms → filter p' (n ∷ ms) ≡ filter p (n ∷ ms)
      go true is rest = rw (first_same, is) (ap (λ l. n ∷ l) rest)
      go false is rest = rw (first_same, is) rest

  none_pass : (ms : List Note) → filter (λ m. false) ms ≡ []
  none_pass [] = refl
  none_pass (m ∷ ms) = none_pass ms

  -- where nothing more is due, an event puts nothing
  pub puts_nothing : (e : Event) (h : List Event) → due r (e ∷ h) ≡ due r h → put x e h ≡ []
  puts_nothing e h same =
      ap (λ l. by_kind x (filter (λ m. not (has x (due r h) m)) l)) same
      ∙ ap (by_kind x)
      (filter_same (λ m. false) (λ m. not (has x (due r h) m)) (due r h) (λ m some. ap not (times_has x itself one (due r h) m some)) ∙ none_pass (due r h))

  -- the front is gone from what passes a test, where it is there but once
  front_gone : (p : Note → Bool) (n : Note) (ms : List Note) → times x ms n ≤ 1 → first (filter p ms) ≡ Some n
      → filter (λ m. p m && not (same_note m n)) ms ≡ drop 1 (filter p ms)
  front_gone p n [] once front = absurd (none-some n front)
  front_gone p n (m ∷ ms) once front = go (p m) refl (front_gone p n ms)
    where
      go : (b : Bool) → p m ≡ b → (times x ms n ≤ 1 → first (filter p ms) ≡ Some n → filter (λ m. p m && not (same_note m n)) ms ≡ drop 1 (filter p ms))
          → filter (λ m. p m && not (same_note m n)) (m ∷ ms) ≡ drop 1 (filter p (m ∷ ms))
      go false is rest = rw is (rest (omega arith) (rw is at front))
      go true is rest =
          let some : Some m ≡ Some n = rw is at front in
          let same : m ≡ n = cc in
          let met : same_note m n ≡ true = ap (λ u. same_note u n) same ∙ itself n in
          let met' : same_note n m ≡ true = ap (same_note n) same ∙ itself n in
          let none : times x ms n ≡ 0 = (let here : times x (m ∷ ms) n ≡ 1 + times x ms n = rw met' refl in omega arith) in
          rw (is, met) (filter_same p (λ u. p u && not (same_note u n)) ms (λ u some'. kept none u some' (same_note u n) refl))
        where
          kept : times x ms n ≡ 0 → (u : Note) → 1 ≤ times x ms u → (b : Bool) → same_note u n ≡ b → (p u && not (same_note u n)) ≡ p u
          kept none u some' false is' = rw is' (and_yes (p u))
          kept none u some' true is' =
              let same' : u ≡ n = one u n is' in
              let again : times x ms u ≡ times x ms n = ap (times x ms) same' in
              absurd (omega arith)

  -- ---- queues

  -- a message stands in a queue where it wasn't taken
  abbrev waits_in : ℕ → List Note → Note → Bool
  waits_in k taken m = (q m == k) && not (has x taken m)

  module _ (well : Well r.templates r.depth r.graph) where
    -- what an event puts wasn't put before
    put_new : (e : Event) (h : List Event) → TakesFronts x (e ∷ h) → (m : Note) → 1 ≤ times x (put x e h) m → times x (all_put x h) m ≡ 0
    put_new e h fronts m some =
        let once = (note_once r q well (e ∷ h) fronts (nothing r q) m).put_once in
        let both = times-append x itself one (all_put x h) (put x e h) m in
        omega arith

    unspent : (e : Event) (h : List Event) → TakesFronts x (e ∷ h) → (m : Note) → 1 ≤ times x (put x e h) m → has x (spent x h) m ≡ false
    unspent e h fronts m some = go (has x (spent x h) m) refl
      where
        go : (b : Bool) → has x (spent x h) m ≡ b → has x (spent x h) m ≡ false
        go false is = is
        go true is =
            let taken = has_times x itself one (spent x h) m is in
            let less = spent_once x itself one h fronts.0 m in
            let new = put_new e h fronts m some in
            absurd (omega arith)

    -- an event that takes no message puts what it puts at the backs
    pub queue_put : (e : Event) (h : List Event) → TakesFronts x (e ∷ h) → turned e ≡ None → (k : ℕ)
        → queue x (e ∷ h) k ≡ queue x h k ++ filter (λ m. q m == k) (put x e h)
    queue_put e h fronts idle k =
        ap (λ t. filter (λ m. (q m == k) && not (has x (with_taken t (spent x h)) m)) (all_put x h ++ put x e h)) idle
        ∙ filter-append (λ m. (q m == k) && not (has x (spent x h) m)) (all_put x h) (put x e h)
        ∙ ap (λ l. queue x h k ++ l)
        (filter_same (λ m. q m == k) (λ m. (q m == k) && not (has x (spent x h) m)) (put x e h)
        (λ m some. ap (λ b. (q m == k) && not b) (unspent e h fronts m some) ∙ and_yes (q m == k)))

    -- an event that takes the front of a queue leaves the rest there, and puts what it puts at the backs
    pub queue_taken : (e : Event) (h : List Event) → TakesFronts x (e ∷ h) → (n : Note) → turned e ≡ Some n → (j : ℕ) → first (queue x h j) ≡ Some n → (k : ℕ)
        → queue x (e ∷ h) k ≡ (if k == j then drop 1 (queue x h k) else queue x h k) ++ filter (λ m. q m == k) (put x e h)
    queue_taken e h fronts n takes j front k =
        ap (λ t. filter (λ m. (q m == k) && not (has x (with_taken t (spent x h)) m)) (all_put x h ++ put x e h)) takes
        ∙ filter-append (waits_in k (n ∷ spent x h)) (all_put x h) (put x e h)
        ∙ ap (λ l. l ++ filter (waits_in k (n ∷ spent x h)) (put x e h)) (old (k == j) refl)
        ∙ ap (λ l. (if k == j then drop 1 (queue x h k) else queue x h k) ++ l)
        (filter_same (λ m. q m == k) (waits_in k (n ∷ spent x h)) (put x e h) (λ m some. new m some))
      where
        waits : (has x (all_put x h) n ≡ true) × (has x (spent x h) n ≡ false)
        waits = front_waits x itself one h j n front

        stood : q n ≡ j
        stood =
            let passes = front_passes x itself one (λ m. (q m == j) && not (has x (spent x h) m)) (all_put x h) n front in
            eqb_one (q n) j (and_true (q n == j) _ passes.0).0

        split : (a b c : Bool) → (a && not (b || c)) ≡ ((a && not c) && not b)
        split true true true = refl
        split true true false = refl
        split true false true = refl
        split true false false = refl
        split false b c = refl

        -- no other queue has it
        elsewhere : (k == j) ≡ false → (m : Note) → (b : Bool) → same_note m n ≡ b → waits_in k (n ∷ spent x h) m ≡ waits_in k (spent x h) m
        elsewhere other m false is = rw is refl
        elsewhere other m true is =
            let place : q m ≡ j = ap q (one m n is) ∙ stood in
            go (q m == k) refl place
          where
            go : (b : Bool) → (q m == k) ≡ b → q m ≡ j → waits_in k (n ∷ spent x h) m ≡ waits_in k (spent x h) m
            go false is' place = rw is' refl
            go true is' place =
                let met : k ≡ j = sym (eqb_one (q m) k is') ∙ place in
                let yes : (k == j) ≡ true = ap (λ u. u == j) met ∙ eqb_itself j in
                let never : true ≡ false = sym yes ∙ other in
                cc

        old : (b : Bool) → (k == j) ≡ b → filter (waits_in k (n ∷ spent x h)) (all_put x h) ≡ (if k == j then drop 1 (queue x h k) else queue x h k)
        old false is = rw is (filter_same (waits_in k (spent x h)) (waits_in k (n ∷ spent x h)) (all_put x h) (λ m some. elsewhere is m (same_note m n) refl))
        old true is =
            let met : k ≡ j = eqb_one k j is in
            let once = (note_once r q well h fronts.0 (nothing r q) n).put_once in
            rw is
            (filter_same (λ m. waits_in k (spent x h) m && not (same_note m n)) (waits_in k (n ∷ spent x h)) (all_put x h) (λ m some. split (q m == k) (same_note m n) (has x (spent x h) m))
            ∙ front_gone (waits_in k (spent x h)) n (all_put x h) once (ap (λ u. first (queue x h u)) met ∙ front))

        new : (m : Note) → 1 ≤ times x (put x e h) m → waits_in k (n ∷ spent x h) m ≡ (q m == k)
        new m some =
            rw (fresh (same_note m n) refl, unspent e h fronts m some) (and_yes (q m == k))
          where
            fresh : (b : Bool) → same_note m n ≡ b → same_note m n ≡ false
            fresh false is = is
            fresh true is =
                let same : m ≡ n = one m n is in
                let was = has_times x itself one (all_put x h) n waits.0 in
                let again : times x (all_put x h) m ≡ times x (all_put x h) n = ap (times x (all_put x h)) same in
                let none = put_new e h fronts m some in
                absurd (omega arith)
