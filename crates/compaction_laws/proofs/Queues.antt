-- The queues with the messages alone that pass a test: what is put and taken, and where all pass.
use Rattle.std.proofs.Common.{◌≡◌, ℕ, zero, suc, ◌-◌, ◌==◌, Bool, true, false, not, cond, List, [], ◌∷◌, ◌++◌, map}
use Rattle.std.proofs.Common.{length, drop, replicate, Some, refl, ap, sym, ◌∙◌, arith, inl, inr, append-nil}
use Rattle.std.proofs.lemmas.Bool.Decides.{eqb_tells}
use Rattle.std.proofs.lemmas.List.Elements.{filter-append}
use Rattle.std.proofs.lemmas.List.Sums.{sum_by-cons}
use Rattle.std.proofs.lemmas.Option.{none-some}
use Rattle.std.specs.List.{filter}
use Rattle.std.specs.Prelude.{slice_get, slice_index_or, slice_set}
use Rattle.flow_model.specs.declared.instances.Message.{Message}
use Rattle.machine.specs.Queues.{put_in}
use Rattle.recover_queue.specs.Queues.{queue, with_queue, root_of, count_in, count_of_root}

-- the queues with the messages alone that pass
abbrev pub passing : (Message → Bool) → List (List Message) → List (List Message)
passing p qs = map (filter p) qs

-- messages pass, and two ways to choose a queue agree on them
abbrev pub PassAlike : (Message → Bool) → (Message → ℕ) → (Message → ℕ) → List Message → Type 0
PassAlike p f f' [] = Unit {0}
PassAlike p f f' (m ∷ ms) = (p m ≡ true) × (f m ≡ f' m) × PassAlike p f f' ms

-- no message passes
abbrev pub NonePass : (Message → Bool) → List Message → Type 0
NonePass p [] = Unit {0}
NonePass p (m ∷ ms) = (p m ≡ false) × NonePass p ms

set_same : (qs : List (List Message)) (k : ℕ) → slice_set qs k (slice_index_or qs k []) ≡ qs
set_same [] k = refl
set_same (x ∷ qs) zero = refl
set_same (x ∷ qs) (suc k) = ap (λ xs. x ∷ xs) (set_same qs k)

pub set_length : (qs : List (List Message)) (k : ℕ) (ms : List Message) → length (slice_set qs k ms) ≡ length qs
set_length [] k ms = refl
set_length (x ∷ qs) zero ms = refl
set_length (x ∷ qs) (suc k) ms = ap suc (set_length qs k ms)

pub put_length : (f : Message → ℕ) (ms : List Message) (qs : List (List Message)) → length (put_in f ms qs) ≡ length qs
put_length f [] qs = refl
put_length f (m ∷ ms) qs =
    put_length f ms (with_queue qs (f m) (queue qs (f m) ++ m ∷ []))
    ∙ set_length qs (f m - 1) (queue qs (f m) ++ m ∷ [])

module _ (p : Message → Bool) where
  pub passing_length : (qs : List (List Message)) → length (passing p qs) ≡ length qs
  passing_length [] = refl
  passing_length (x ∷ qs) = ap suc (passing_length qs)

  passing_at : (qs : List (List Message)) (k : ℕ)
      → slice_index_or (passing p qs) k [] ≡ filter p (slice_index_or qs k [])
  passing_at [] k = refl
  passing_at (x ∷ qs) zero = refl
  passing_at (x ∷ qs) (suc k) = passing_at qs k

  passing_set : (qs : List (List Message)) (k : ℕ) (ms : List Message)
      → passing p (slice_set qs k ms) ≡ slice_set (passing p qs) k (filter p ms)
  passing_set [] k ms = refl
  passing_set (x ∷ qs) zero ms = refl
  passing_set (x ∷ qs) (suc k) ms = ap (λ xs. filter p x ∷ xs) (passing_set qs k ms)

  pub passing_none : (n : ℕ) → passing p (replicate n []) ≡ replicate n []
  passing_none zero = refl
  passing_none (suc n) = ap (λ xs. [] ∷ xs) (passing_none n)

  -- ---- what is put

  put_one : (qs : List (List Message)) (m : Message) (n : ℕ) → p m ≡ true
      → passing p (with_queue qs n (queue qs n ++ m ∷ []))
      ≡ with_queue (passing p qs) n (queue (passing p qs) n ++ m ∷ [])
  put_one qs m n passes =
      passing_set qs (n - 1) (queue qs n ++ m ∷ [])
      ∙ ap (with_queue (passing p qs) n) (filter-append p (queue qs n) (m ∷ [])
      ∙ ap (λ b. filter p (queue qs n) ++ cond b (m ∷ []) []) passes
      ∙ ap (λ ms. ms ++ m ∷ []) (sym (passing_at qs (n - 1))))

  skip_one : (qs : List (List Message)) (m : Message) (n : ℕ) → p m ≡ false
      → passing p (with_queue qs n (queue qs n ++ m ∷ [])) ≡ passing p qs
  skip_one qs m n fails =
      passing_set qs (n - 1) (queue qs n ++ m ∷ [])
      ∙ ap (with_queue (passing p qs) n) (filter-append p (queue qs n) (m ∷ [])
      ∙ ap (λ b. filter p (queue qs n) ++ cond b (m ∷ []) []) fails
      ∙ append-nil (filter p (queue qs n)) ∙ sym (passing_at qs (n - 1)))
      ∙ set_same (passing p qs) (n - 1)

  pub put_all : (f f' : Message → ℕ) (ms : List Message) (qs : List (List Message)) → PassAlike p f f' ms
      → passing p (put_in f ms qs) ≡ put_in f' ms (passing p qs)
  put_all f f' [] qs pass = refl
  put_all f f' (m ∷ ms) qs pass =
      put_all f f' ms (with_queue qs (f m) (queue qs (f m) ++ m ∷ [])) pass.2
      ∙ ap (put_in f' ms) (put_one qs m (f m) pass.0
      ∙ ap (λ n. with_queue (passing p qs) n (queue (passing p qs) n ++ m ∷ [])) pass.1)

  pub skip_all : (f : Message → ℕ) (ms : List Message) (qs : List (List Message)) → NonePass p ms
      → passing p (put_in f ms qs) ≡ passing p qs
  skip_all f [] qs fail = refl
  skip_all f (m ∷ ms) qs fail =
      skip_all f ms (with_queue qs (f m) (queue qs (f m) ++ m ∷ [])) fail.1 ∙ skip_one qs m (f m) fail.0

  -- ---- what is taken

  front_passes : (ms : List Message) (m : Message) → slice_get ms 0 ≡ Some m → p m ≡ true
      → slice_get (filter p ms) 0 ≡ Some m
  front_passes [] m front passes = absurd (none-some m front)
  front_passes (u ∷ ms) m front passes =
      let same : u ≡ m = cc in
      ap (λ b. slice_get (cond b (u ∷ filter p ms) (filter p ms)) 0) (ap p same ∙ passes) ∙ front

  drop_passing : (ms : List Message) (m : Message) → slice_get ms 0 ≡ Some m → p m ≡ true
      → filter p (drop 1 ms) ≡ drop 1 (filter p ms)
  drop_passing [] m front passes = absurd (none-some m front)
  drop_passing (u ∷ ms) m front passes =
      let same : u ≡ m = cc in
      sym (ap (λ b. drop 1 (cond b (u ∷ filter p ms) (filter p ms))) (ap p same ∙ passes))

  drop_failing : (ms : List Message) (m : Message) → slice_get ms 0 ≡ Some m → p m ≡ false
      → filter p (drop 1 ms) ≡ filter p ms
  drop_failing [] m front fails = absurd (none-some m front)
  drop_failing (u ∷ ms) m front fails =
      let same : u ≡ m = cc in
      sym (ap (λ b. cond b (u ∷ filter p ms) (filter p ms)) (ap p same ∙ fails))

  module _ (qs : List (List Message)) (n : ℕ) (m : Message) (front : slice_get (queue qs n) 0 ≡ Some m) where
    pub front_kept : p m ≡ true → slice_get (queue (passing p qs) n) 0 ≡ Some m
    front_kept passes =
        ap (λ ms. slice_get ms 0) (passing_at qs (n - 1)) ∙ front_passes (queue qs n) m front passes

    pub taken_passing : p m ≡ true → passing p (with_queue qs n (drop 1 (queue qs n)))
        ≡ with_queue (passing p qs) n (drop 1 (queue (passing p qs) n))
    taken_passing passes =
        passing_set qs (n - 1) (drop 1 (queue qs n))
        ∙ ap (with_queue (passing p qs) n) (drop_passing (queue qs n) m front passes
        ∙ ap (drop 1) (sym (passing_at qs (n - 1))))

    pub taken_failing : p m ≡ false → passing p (with_queue qs n (drop 1 (queue qs n))) ≡ passing p qs
    taken_failing fails =
        passing_set qs (n - 1) (drop 1 (queue qs n))
        ∙ ap (with_queue (passing p qs) n) (drop_failing (queue qs n) m front fails ∙ sym (passing_at qs (n - 1)))
        ∙ set_same (passing p qs) (n - 1)

-- ---- the messages of other roots

-- a message is of another root
abbrev pub is_of_other : ℕ → Message → Bool
is_of_other root m = not (root_of m == root)

abbrev counts : Bool → ℕ
counts b = cond b 1 0

none_in : (root : ℕ) (ms : List Message) → count_in root ms ≡ 0 → filter (is_of_other root) ms ≡ ms
none_in root [] none = refl
none_in root (m ∷ ms) none =
    let more = sum_by-cons (λ (u : Message). counts (root_of u == root)) m ms in
    elim (eqb_tells (root_of m) root) [
      | inl is ↦
          let here : counts (root_of m == root) ≡ 1 = ap counts is.0 in
          absurd (omega (arith, more, none, here))
      | inr other ↦
          let here : counts (root_of m == root) ≡ 0 = ap counts other.0 in
          ap (λ b. cond (not b) (m ∷ filter (is_of_other root) ms) (filter (is_of_other root) ms)) other.0
          ∙ ap (λ us. m ∷ us) (none_in root ms (omega (arith, more, none, here)))
    ]

-- where no message of a root is queued, all pass
pub all_pass : (root : ℕ) (qs : List (List Message)) → count_of_root root qs ≡ 0 → passing (is_of_other root) qs ≡ qs
all_pass root [] none = refl
all_pass root (ms ∷ qs) none =
    let more = sum_by-cons (count_in root) ms qs in
    λ i. none_in root ms (omega (arith, more, none)) i ∷ all_pass root qs (omega (arith, more, none)) i
