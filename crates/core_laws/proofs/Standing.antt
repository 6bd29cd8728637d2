-- The messages of one root in the queues, through what is put and taken.
use Rattle.std.proofs.Common.{◌≡◌, ℕ, zero, suc, ◌-◌, ◌<◌, ◌≤◌, ◌==◌, ◌&&◌, Bool, true, false, cond, if◌then◌else◌, List, [], ◌∷◌, ◌++◌, length, drop, Some, refl, ap, sym, subst, ◌∙◌, arith, inl, inr, append-nil}
use Rattle.std.proofs.lemmas.Bool.Decides.{eqb_tells}
use Rattle.std.proofs.lemmas.List.{append_assoc, length-set, get_or-set_same, get_or-set_other}
use Rattle.std.proofs.lemmas.List.Elements.{filter-append}
use Rattle.std.proofs.lemmas.Option.{none-some}
use Rattle.std.specs.List.{filter}
use Rattle.std.specs.Prelude.{slice_get, slice_index_or}
use Rattle.flow_core.specs.Driving.{put_in}
use Rattle.flow_model.specs.declared.instances.Message.{Message}
use Rattle.recover_queue.specs.Queues.{queue, with_queue, root_of, is_quiet}
use Rattle.root_laws.specs.RightRoots.{after_put, after_taken}
use Rattle.core_laws.proofs.Asked.{AreOf}
use Rattle.core_laws.specs.RightStates.{messages_in}

-- ---- one message in a filter

keep_one : (q : Message → Bool) (m : Message) → q m ≡ true → (b : Bool) → filter q (cond b (m ∷ []) []) ≡ cond b (m ∷ []) []
keep_one q m yes_ true = ap (λ b. cond b (m ∷ []) []) yes_
keep_one q m yes_ false = refl

drop_one : (q : Message → Bool) (m : Message) → q m ≡ false → (b : Bool) → filter q (cond b (m ∷ []) []) ≡ []
drop_one q m no_ true = ap (λ b. cond b (m ∷ []) []) no_
drop_one q m no_ false = refl

-- ---- what is put

module _ (p : Message → Bool) (f : Message → ℕ) where
  put_message : (qs : List (List Message)) (m : Message) (n : ℕ) → 1 ≤ f m → f m - 1 < length qs
      → filter p (queue (with_queue qs (f m) (queue qs (f m) ++ m ∷ [])) (suc n)) ≡ filter p (queue qs (suc n)) ++ filter (λ u. f u == suc n) (filter p (m ∷ []))
  put_message qs m n low high = elim (eqb_tells (f m) (suc n)) [
    | inl is ↦
        ap (λ j. filter p (queue (with_queue qs j (queue qs j ++ m ∷ [])) (suc n))) is.1
        ∙ ap (filter p) (get_or-set_same qs (suc n - 1) (queue qs (suc n) ++ m ∷ []) [] (subst (λ j. j - 1 < length qs) is.1 high))
        ∙ filter-append p (queue qs (suc n)) (m ∷ [])
        ∙ ap (λ l. filter p (queue qs (suc n)) ++ l) (sym (keep_one (λ u. f u == suc n) m is.0 (p m)))
    | inr other ↦
        let apart : suc n - 1 ≡ f m - 1 → ⊥ = λ e. other.1 (omega arith) in
        ap (filter p) (get_or-set_other qs (f m - 1) (suc n - 1) (queue qs (f m) ++ m ∷ []) [] apart)
        ∙ sym (append-nil (filter p (queue qs (suc n))))
        ∙ ap (λ l. filter p (queue qs (suc n)) ++ l) (sym (drop_one (λ u. f u == suc n) m other.0 (p m)))
  ]

  put_messages : (given : List Message) (qs : List (List Message)) → ((m : Message) → 1 ≤ f m) → ((m : Message) → f m - 1 < length qs) → (n : ℕ)
      → filter p (queue (put_in f given qs) (suc n)) ≡ filter p (queue qs (suc n)) ++ filter (λ u. f u == suc n) (filter p given)
  put_messages [] qs low high n = sym (append-nil (filter p (queue qs (suc n))))
  put_messages (m ∷ given) qs low high n =
      let qs' = with_queue qs (f m) (queue qs (f m) ++ m ∷ []) in
      let many : length qs' ≡ length qs = length-set qs (f m - 1) (queue qs (f m) ++ m ∷ []) in
      let here = filter (λ u. f u == suc n) (filter p (m ∷ [])) in
      let behind = filter (λ u. f u == suc n) (filter p given) in
      put_messages given qs' low (λ u. subst (λ j. f u - 1 < j) (sym many) (high u)) n
      ∙ ap (λ l. l ++ behind) (put_message qs m n (low m) (high m))
      ∙ append_assoc (filter p (queue qs (suc n))) here behind
      ∙ ap (λ l. filter p (queue qs (suc n)) ++ l)
      (sym (filter-append (λ u. f u == suc n) (filter p (m ∷ [])) (filter p given)) ∙ ap (filter (λ u. f u == suc n)) (sym (filter-append p (m ∷ []) given)))

  none_at_zero : ((m : Message) → 1 ≤ f m) → (given : List Message) → filter (λ u. f u == 0) given ≡ []
  none_at_zero low [] = refl
  none_at_zero low (m ∷ given) = elim (eqb_tells (f m) 0) [
    | inl is ↦ let low' = low m in let e = is.1 in absurd (omega arith)
    | inr other ↦ ap (λ b. cond b (m ∷ filter (λ u. f u == 0) given) (filter (λ u. f u == 0) given)) other.0 ∙ none_at_zero low given
  ]

-- the messages of a root after messages are put are those before, and its own among those that are put
pub messages_put : (root : ℕ) (f : Message → ℕ) (given : List Message) (qs : List (List Message)) → ((m : Message) → 1 ≤ f m) → ((m : Message) → f m - 1 < length qs) → (n : ℕ)
    → messages_in (put_in f given qs) root n ≡ after_put f (filter (λ m. root_of m == root) given) (messages_in qs root) n
messages_put root f given qs low high zero = sym (none_at_zero (λ m. root_of m == root) f low (filter (λ m. root_of m == root) given))
messages_put root f given qs low high (suc n) = put_messages (λ m. root_of m == root) f given qs low high n

pub all_kept : (root : ℕ) (given : List Message) → AreOf root given → filter (λ m. root_of m == root) given ≡ given
all_kept root [] of = refl
all_kept root (m ∷ given) of = elim (eqb_tells (root_of m) root) [
  | inl is ↦
      ap (λ b. cond b (m ∷ filter (λ m. root_of m == root) given) (filter (λ m. root_of m == root) given)) is.0
      ∙ ap (λ l. m ∷ l) (all_kept root given (λ k. of (suc k)))
  | inr other ↦ absurd (other.1 (of 0 m refl))
]

pub none_kept : (root other : ℕ) → (other ≡ root → ⊥) → (given : List Message) → AreOf root given → filter (λ m. root_of m == other) given ≡ []
none_kept root other apart [] of = refl
none_kept root other apart (m ∷ given) of = elim (eqb_tells (root_of m) other) [
  | inl is ↦ absurd (apart (sym is.1 ∙ of 0 m refl))
  | inr no_ ↦
      ap (λ b. cond b (m ∷ filter (λ m. root_of m == other) given) (filter (λ m. root_of m == other) given)) no_.0
      ∙ none_kept root other apart given (λ k. of (suc k))
]

-- ---- what is taken

module _ (p : Message → Bool) where
  front_kept : (ms : List Message) (m : Message) → slice_get ms 0 ≡ Some m → p m ≡ true → slice_get (filter p ms) 0 ≡ Some m
  front_kept [] m front yes_ = absurd (none-some m front)
  front_kept (u ∷ ms) m front yes_ =
      let same : u ≡ m = cc in
      ap (λ b. slice_get (cond b (u ∷ filter p ms) (filter p ms)) 0) (ap p same ∙ yes_) ∙ front

  drop_front : (ms : List Message) (m : Message) → slice_get ms 0 ≡ Some m → p m ≡ true → filter p (drop 1 ms) ≡ drop 1 (filter p ms)
  drop_front [] m front yes_ = absurd (none-some m front)
  drop_front (u ∷ ms) m front yes_ =
      let same : u ≡ m = cc in
      sym (ap (λ b. drop 1 (cond b (u ∷ filter p ms) (filter p ms))) (ap p same ∙ yes_))

  drop_other : (ms : List Message) (m : Message) → slice_get ms 0 ≡ Some m → p m ≡ false → filter p (drop 1 ms) ≡ filter p ms
  drop_other [] m front no_ = absurd (none-some m front)
  drop_other (u ∷ ms) m front no_ =
      let same : u ≡ m = cc in
      sym (ap (λ b. cond b (u ∷ filter p ms) (filter p ms)) (ap p same ∙ no_))

within : (qs : List (List Message)) (k : ℕ) (m : Message) → slice_get (slice_index_or qs k []) 0 ≡ Some m → k < length qs
within [] k m front = absurd (none-some m front)
within (x ∷ qs) zero m front = omega arith
within (x ∷ qs) (suc k) m front = let before = within qs k m front in omega arith

abbrev nobody : List Message
nobody = []

no_front : (b : Bool) → nobody ≡ (if b then drop 1 nobody else nobody)
no_front true = refl
no_front false = refl

module _ (root : ℕ) (qs : List (List Message)) (number : ℕ) (m : Message) (low : 1 ≤ number) (front : slice_get (queue qs number) 0 ≡ Some m) where
  abbrev pub left : List (List Message)
  left = with_queue qs number (drop 1 (queue qs number))

  -- the front of a queue is the front of what stands there of its root
  pub front_of_root : root_of m ≡ root → slice_get (messages_in qs root number) 0 ≡ Some m
  front_of_root of = go number low front
    where
      go : (j : ℕ) → 1 ≤ j → slice_get (queue qs j) 0 ≡ Some m → slice_get (messages_in qs root j) 0 ≡ Some m
      go zero low' front' = absurd (omega arith)
      go (suc n) low' front' = elim (eqb_tells (root_of m) root) [
        | inl is ↦ front_kept (λ u. root_of u == root) (queue qs (suc n)) m front' is.0
        | inr other ↦ absurd (other.1 of)
      ]

  here_taken : (n : ℕ) → number ≡ suc n → queue left (suc n) ≡ drop 1 (queue qs (suc n))
  here_taken n e =
      let high : number - 1 < length qs = within qs (number - 1) m front in
      ap (λ j. queue (with_queue qs j (drop 1 (queue qs j))) (suc n)) e
      ∙ get_or-set_same qs (suc n - 1) (drop 1 (queue qs (suc n))) [] (subst (λ j. j - 1 < length qs) e high)

  there_left : (n : ℕ) → (suc n ≡ number → ⊥) → queue left (suc n) ≡ queue qs (suc n)
  there_left n apart = get_or-set_other qs (number - 1) (suc n - 1) (drop 1 (queue qs number)) [] (λ e. apart (omega arith))

  -- taking it takes the front of what stands there of its root
  pub taken_here : root_of m ≡ root → (n : ℕ) → messages_in left root n ≡ after_taken number (messages_in qs root) n
  taken_here of zero = no_front (0 == number)
  taken_here of (suc n) = elim (eqb_tells (suc n) number) [
    | inl is ↦
        let front' : slice_get (queue qs (suc n)) 0 ≡ Some m = ap (λ j. slice_get (queue qs j) 0) is.1 ∙ front in
        ap (filter (λ u. root_of u == root)) (here_taken n (sym is.1))
        ∙ (elim (eqb_tells (root_of m) root) [
          | inl yes_ ↦ drop_front (λ u. root_of u == root) (queue qs (suc n)) m front' yes_.0
          | inr other ↦ absurd (other.1 of)
        ])
        ∙ sym (ap (λ b. if b then drop 1 (messages_in qs root (suc n)) else messages_in qs root (suc n)) is.0)
    | inr other ↦
        ap (filter (λ u. root_of u == root)) (there_left n other.1)
        ∙ sym (ap (λ b. if b then drop 1 (messages_in qs root (suc n)) else messages_in qs root (suc n)) other.0)
  ]

  -- and leaves what stands of any other
  pub taken_there : (root_of m ≡ root → ⊥) → (n : ℕ) → messages_in left root n ≡ messages_in qs root n
  taken_there apart zero = refl
  taken_there apart (suc n) = elim (eqb_tells (suc n) number) [
    | inl is ↦
        let front' : slice_get (queue qs (suc n)) 0 ≡ Some m = ap (λ j. slice_get (queue qs j) 0) is.1 ∙ front in
        ap (filter (λ u. root_of u == root)) (here_taken n (sym is.1))
        ∙ (elim (eqb_tells (root_of m) root) [
          | inl yes_ ↦ absurd (apart yes_.1)
          | inr other ↦ drop_other (λ u. root_of u == root) (queue qs (suc n)) m front' other.0
        ])
    | inr other ↦ ap (filter (λ u. root_of u == root)) (there_left n other.1)
  ]

-- ---- queues with no message

empty_queue : (qs : List (List Message)) → is_quiet qs ≡ true → (k : ℕ) → slice_index_or qs k [] ≡ []
empty_queue [] quiet k = refl
empty_queue ([] ∷ qs) quiet zero = refl
empty_queue ([] ∷ qs) quiet (suc k) = empty_queue qs quiet k
empty_queue ((m ∷ ms) ∷ qs) quiet k = elim (eqb_tells (length (m ∷ ms)) 0) [
  | inl is ↦ let e = is.1 in absurd (omega arith)
  | inr other ↦ let never : false ≡ true = sym (ap (λ b. b && is_quiet qs) other.0) ∙ quiet in cc
]

pub none_stand : (root : ℕ) (qs : List (List Message)) → is_quiet qs ≡ true → (n : ℕ) → messages_in qs root n ≡ []
none_stand root qs quiet zero = refl
none_stand root qs quiet (suc n) = ap (filter (λ m. root_of m == root)) (empty_queue qs quiet (suc n - 1))
