-- Counting messages: none is put twice, and each that is taken was put and was not taken before.
use Rattle.fate_laws.proofs.Extends.{and_true}
use Rattle.std.proofs.Common.{◌≡◌, ℕ, zero, suc, ◌+◌, ◌≤◌, ◌<◌, ◌==◌, Bool, true, false, not, ◌&&◌, ◌||◌, if◌then◌else◌, List, [], ◌∷◌, ◌++◌, length, refl, sym, ap, ◌∙◌, Option, Some, None, arith, inl, inr}
use Rattle.std.proofs.lemmas.Bool.Decides.{eqb_tells}
use Rattle.std.specs.List.{filter}
use Rattle.view_laws.specs.Queues.{put, Engine, has, times, of_kind, by_kind, all_put, with_taken, spent, queue, first, TakesFronts}

not_true : (a : Bool) → not a ≡ true → a ≡ false
not_true true h = cc
not_true false h = refl

module _ {M E : Type 0} (x : Engine M E) (itself : (m : M) → x.same m m ≡ true) (one : (m n : M) → x.same m n ≡ true → m ≡ n) where
  pub has_times : (ms : List M) (m : M) → has x ms m ≡ true → 1 ≤ times x ms m
  has_times [] m h = cc
  has_times (n ∷ ms) m h = go (has_times ms m) (x.same m n) refl
    where
      go : (has x ms m ≡ true → 1 ≤ times x ms m) → (b : Bool) → x.same m n ≡ b → 1 ≤ times x (n ∷ ms) m
      go rest true is = rw is (omega arith)
      go rest false is = let r = rest (rw is at h) in rw is (omega arith)

  pub has_none : (ms : List M) (m : M) → has x ms m ≡ false → times x ms m ≡ 0
  has_none [] m h = refl
  has_none (n ∷ ms) m h = go (has_none ms m) (x.same m n) refl
    where
      go : (has x ms m ≡ false → times x ms m ≡ 0) → (b : Bool) → x.same m n ≡ b → times x (n ∷ ms) m ≡ 0
      go rest true is = let no_ : true ≡ false = rw is at h in cc
      go rest false is = let r = rest (rw is at h) in rw is (omega arith)

  pub times_has : (ms : List M) (m : M) → 1 ≤ times x ms m → has x ms m ≡ true
  times_has ms m h = go (has x ms m) refl
    where
      go : (b : Bool) → has x ms m ≡ b → has x ms m ≡ true
      go true is = is
      go false is = let none = has_none ms m is in absurd (omega arith)

  pub times-append : (ms ns : List M) (m : M) → times x (ms ++ ns) m ≡ times x ms m + times x ns m
  times-append [] ns m = omega arith
  times-append (n ∷ ms) ns m = let rest = times-append ms ns m in omega arith

  pub times_filter_yes : (p : M → Bool) (ms : List M) (m : M) → p m ≡ true → times x (filter p ms) m ≡ times x ms m
  times_filter_yes p [] m yes_ = refl
  times_filter_yes p (n ∷ ms) m yes_ = go (times_filter_yes p ms m yes_) (p n) refl (x.same m n) refl
    where
      go : times x (filter p ms) m ≡ times x ms m → (b : Bool) → p n ≡ b → (c : Bool) → x.same m n ≡ c → times x (filter p (n ∷ ms)) m ≡ times x (n ∷ ms) m
      go rest true is c same = rw is (ap (λ r. (if x.same m n then 1 else 0) + r) rest)
      go rest false is true same =
          let e = one m n same in
          let no_ : true ≡ false = sym yes_ ∙ ap p e ∙ is in
          cc
      go rest false is false same = rw (is, same) (rest ∙ omega arith)

  pub times_filter_no : (p : M → Bool) (ms : List M) (m : M) → p m ≡ false → times x (filter p ms) m ≡ 0
  times_filter_no p [] m none = refl
  times_filter_no p (n ∷ ms) m none = go (times_filter_no p ms m none) (p n) refl (x.same m n) refl
    where
      go : times x (filter p ms) m ≡ 0 → (b : Bool) → p n ≡ b → (c : Bool) → x.same m n ≡ c → times x (filter p (n ∷ ms)) m ≡ 0
      go rest false is c same = rw is rest
      go rest true is true same =
          let e = one m n same in
          let no_ : false ≡ true = sym none ∙ ap p e ∙ is in
          cc
      go rest true is false same = rw (is, same) (omega arith)

  kind_test : (m : M) (n : ℕ) → (x.kind m ≡ n → ⊥) → (x.kind m == n) ≡ false
  kind_test m n ne = elim (eqb_tells (x.kind m) n) [ inl is ↦ absurd (ne is.1) | inr other ↦ other.0 ]

  kind_hit : (m : M) (n : ℕ) → x.kind m ≡ n → (x.kind m == n) ≡ true
  kind_hit m n h = elim (eqb_tells (x.kind m) n) [ inl is ↦ is.0 | inr other ↦ absurd (other.1 h) ]

  pub times_by_kind : (ms : List M) (m : M) → x.kind m < 3 → times x (by_kind x ms) m ≡ times x ms m
  times_by_kind ms m small =
      let a = times-append (of_kind x 0 ms ++ of_kind x 1 ms) (of_kind x 2 ms) m in
      let b = times-append (of_kind x 0 ms) (of_kind x 1 ms) m in
      let hit : (n : ℕ) → x.kind m ≡ n → times x (of_kind x n ms) m ≡ times x ms m = λ n e. times_filter_yes (λ k. x.kind k == n) ms m (kind_hit m n e) in
      let miss : (n : ℕ) → (x.kind m ≡ n → ⊥) → times x (of_kind x n ms) m ≡ 0 = λ n ne. times_filter_no (λ k. x.kind k == n) ms m (kind_test m n ne) in
      elim (eqb_tells (x.kind m) 0) [
        | inl zero_ ↦ (let e = zero_.1 in let p = hit 0 e in let q = miss 1 (λ f. omega arith) in let r = miss 2 (λ f. omega arith) in omega arith)
        | inr other ↦ elim (eqb_tells (x.kind m) 1) [
          | inl one_ ↦ (let e = one_.1 in let p = miss 0 other.1 in let q = hit 1 e in let r = miss 2 (λ f. omega arith) in omega arith)
          | inr more ↦
              let o = other.1 in
              let u = more.1 in
              let two : x.kind m ≡ 2 = rest (x.kind m) small o u in
              let p = miss 0 other.1 in let q = miss 1 more.1 in let r = hit 2 two in
              omega arith
        ]
      ]
    where
      rest : (n : ℕ) → n < 3 → (n ≡ 0 → ⊥) → (n ≡ 1 → ⊥) → n ≡ 2
      rest zero l a b = absurd (a refl)
      rest (suc zero) l a b = absurd (b refl)
      rest (suc (suc n)) l a b = omega arith

  -- each step leaves what is due due, and no message is due twice
  abbrev pub Stays : List E → Type 0
  Stays [] = (m : M) → times x (x.due []) m ≡ 0
  Stays (e ∷ h) = Stays h × ((m : M) → (times x (x.due h) m ≤ times x (x.due (e ∷ h)) m) × (times x (x.due (e ∷ h)) m ≤ 1))

  pub put_once : ((n : M) → x.kind n < 3) → (h : List E) → Stays h → (m : M) → times x (all_put x h) m ≡ times x (x.due h) m
  put_once kinds [] s m = sym (s m)
  put_once kinds (e ∷ h) s m = times-append (all_put x h) (put x e h) m ∙ go (put_once kinds h s.0 m) (has x (x.due h) m) refl
    where
      go : times x (all_put x h) m ≡ times x (x.due h) m → (b : Bool) → has x (x.due h) m ≡ b
          → times x (all_put x h) m + times x (put x e h) m ≡ times x (x.due (e ∷ h)) m
      go before true is =
          let none = times_filter_no (λ n. not (has x (x.due h) n)) (x.due (e ∷ h)) m (rw is refl) in
          let sorted = times_by_kind (filter (λ n. not (has x (x.due h) n)) (x.due (e ∷ h))) m (kinds m) in
          let some = has_times (x.due h) m is in
          let step = s.1 m in
          omega (arith, step.0, step.1)
      go before false is =
          let all = times_filter_yes (λ n. not (has x (x.due h) n)) (x.due (e ∷ h)) m (rw is refl) in
          let sorted = times_by_kind (filter (λ n. not (has x (x.due h) n)) (x.due (e ∷ h))) m (kinds m) in
          let none = has_none (x.due h) m is in
          omega arith

  pub front_passes : (p : M → Bool) (ms : List M) (m : M) → first (filter p ms) ≡ Some m → (p m ≡ true) × (has x ms m ≡ true)
  front_passes p [] m h = cc
  front_passes p (n ∷ ms) m h = go (front_passes p ms m) (p n) refl
    where
      go : (first (filter p ms) ≡ Some m → (p m ≡ true) × (has x ms m ≡ true)) → (b : Bool) → p n ≡ b → (p m ≡ true) × (has x (n ∷ ms) m ≡ true)
      go rest true is =
          let front : Some n ≡ Some m = rw is at h in
          let e : n ≡ m = cc in
          (ap p (sym e) ∙ is, rw (e, itself m) refl)
      go rest false is =
          let r = rest (rw is at h) in
          (r.0, or_right (x.same m n) _ r.1)
        where
          or_right : (a b : Bool) → b ≡ true → (a || b) ≡ true
          or_right true b h = refl
          or_right false b h = h

  -- a front was put and isn't taken
  pub front_waits : (h : List E) (q : ℕ) (m : M) → first (queue x h q) ≡ Some m → (has x (all_put x h) m ≡ true) × (has x (spent x h) m ≡ false)
  front_waits h q m front =
      let r = front_passes (λ n. (x.queue_of n == q) && not (has x (spent x h) n)) (all_put x h) m front in
      (r.1, not_true _ (and_true (x.queue_of m == q) _ r.0).1)

  pub spent_once : (h : List E) → TakesFronts x h → (m : M) → times x (spent x h) m ≤ times x (all_put x h) m
  spent_once [] f m = omega arith
  spent_once (e ∷ h) f m = go (spent_once h f.0 m) (times-append (all_put x h) (put x e h) m) (x.turned e) refl
    where
      go : times x (spent x h) m ≤ times x (all_put x h) m → times x (all_put x (e ∷ h)) m ≡ times x (all_put x h) m + times x (put x e h) m
          → (t : Option M) → x.turned e ≡ t → times x (with_taken (x.turned e) (spent x h)) m ≤ times x (all_put x (e ∷ h)) m
      go before more None is = rw is (omega arith)
      go before more (Some n) is =
          let front = f.1 n is in
          let w = front_waits h front.0 n front.1 in
          rw is (at_message n w.0 w.1 (x.same m n) refl)
        where
          at_message : (n : M) → has x (all_put x h) n ≡ true → has x (spent x h) n ≡ false → (b : Bool) → x.same m n ≡ b
              → times x (n ∷ spent x h) m ≤ times x (all_put x (e ∷ h)) m
          at_message n was fresh true same =
              let e' = one m n same in
              let some : 1 ≤ times x (all_put x h) m = has_times (all_put x h) m (ap (has x (all_put x h)) e' ∙ was) in
              let none : times x (spent x h) m ≡ 0 = has_none (spent x h) m (ap (has x (spent x h)) e' ∙ fresh) in
              rw same (omega arith)
          at_message n was fresh false same = rw same (omega arith)

  -- ---- a list of no more of each message isn't longer

  without : M → List M → List M
  without m [] = []
  without m (n ∷ ms) = if x.same m n then ms else n ∷ without m ms

  same_comm : (m n : M) → x.same m n ≡ true → x.same n m ≡ true
  same_comm m n h = let e = one m n h in rw e (itself n)

  length_without : (ms : List M) (m : M) → has x ms m ≡ true → length ms ≡ length (without m ms) + 1
  unfolding without
  length_without [] m h = cc
  length_without (n ∷ ms) m h = go (length_without ms m) (x.same m n) refl
    where
      go : (has x ms m ≡ true → length ms ≡ length (without m ms) + 1) → (b : Bool) → x.same m n ≡ b → length (n ∷ ms) ≡ length (without m (n ∷ ms)) + 1
      go rest true is = rw is (omega arith)
      go rest false is = let r = rest (rw is at h) in rw is (omega arith)

  times_without : (ms : List M) (m k : M) → has x ms m ≡ true → times x ms k ≡ times x (without m ms) k + (if x.same k m then 1 else 0)
  unfolding without
  times_without [] m k h = cc
  times_without (n ∷ ms) m k h = go (times_without ms m k) (x.same m n) refl
    where
      go : (has x ms m ≡ true → times x ms k ≡ times x (without m ms) k + (if x.same k m then 1 else 0)) → (b : Bool) → x.same m n ≡ b
          → times x (n ∷ ms) k ≡ times x (without m (n ∷ ms)) k + (if x.same k m then 1 else 0)
      go rest true is = let e = one m n is in rw (is, e) (omega arith)
      go rest false is = let r = rest (rw is at h) in rw is (omega arith)

  pub no_longer : (ms ns : List M) → ((m : M) → times x ms m ≤ times x ns m) → length ms ≤ length ns
  no_longer [] ns h = omega arith
  no_longer (m ∷ ms) ns h =
      let here = h m in
      let some : has x ns m ≡ true = times_has ns m (let t : times x (m ∷ ms) m ≡ 1 + times x ms m = rw (itself m) refl in omega arith) in
      let less = no_longer ms (without m ns) (λ k. let a = h k in let b = times_without ns m k some in omega arith) in
      let l = length_without ns m some in
      omega arith
