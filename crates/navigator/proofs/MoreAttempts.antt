-- One more attempt gives an output: the outputs and the starts of attempts are one longer, or only the outputs where it is the last.
use Rattle.std.proofs.Common.{◌≡◌, ℕ, zero, suc, ◌+◌, ◌<◌, Bool, true, false, List, [], ◌∷◌, ◌++◌, length, Option, Some, None, cond, refl, ap, sym, ◌∙◌, arith, inl, inr}
use Rattle.std.specs.Prelude.{◌≢◌, slice_get}
use Rattle.fate_laws.proofs.Attempts.{closed}
use Rattle.fate_laws.specs.StartedScopes.{Reaches}
use Rattle.flow_model.specs.Conditions.{holds}
use Rattle.flow_model.specs.Scopes.{Gives, Trial, Start, and_then, tries, then_start, starts}
use Rattle.flow_model.specs.declared.graphs.Container.{Container}
use Rattle.flow_model.specs.declared.graphs.Expr.{Expr}

no_more : (exit : Option Expr) (x : Container) (rest : List Container) → closed exit (x ∷ rest) ≡ false → closed exit rest ≡ false
no_more exit x [] fails = refl
no_more exit x (y ∷ ys) fails = fails

more_goes : (exit : Option Expr) (x : Container) (rest : List Container) → holds exit x ≡ false → closed exit rest ≡ false → closed exit (x ∷ rest) ≡ false
more_goes exit x [] fails goes = fails
more_goes exit x (y ∷ ys) fails goes = goes

-- where the attempts so far didn't end, the next one has started
pub reached_next : (n : ℕ) (give : Gives) (t : Trial) (j : ℕ) (input : Container) (c : ℕ) → closed t.exit (tries n give t j input) ≡ false
    → length (tries n give t j input) + j ≡ c → c < n + j → (x : Container) × Reaches (suc n) give t j input c x
reached_next zero give t j input c goes counted less = absurd (omega arith)
reached_next (suc n) give t j input c goes counted less =
    go (give j input) refl goes counted (λ out. reached_next n give t (j + 1) (t.loops out) c)
  where
    Rest : Container → Type 0
    Rest out = closed t.exit (tries n give t (j + 1) (t.loops out)) ≡ false → length (tries n give t (j + 1) (t.loops out)) + (j + 1) ≡ c → c < n + (j + 1)
        → (x : Container) × Reaches (suc n) give t (j + 1) (t.loops out) c x

    on : (out : Container) → give j input ≡ Some out → (b : Bool) → holds t.exit out ≡ b
        → closed t.exit (out ∷ cond b [] (tries n give t (j + 1) (t.loops out))) ≡ false
        → length (out ∷ cond b [] (tries n give t (j + 1) (t.loops out))) + j ≡ c → Rest out → (x : Container) × Reaches (suc (suc n)) give t j input c x
    on out gave true is fails long rest = let never : true ≡ false = sym is ∙ fails in absurd (no_end never)
      where
        no_end : true ≡ false → ⊥
        no_end h = cc
    on out gave false is fails long rest =
        let count : length (tries n give t (j + 1) (t.loops out)) + (j + 1) ≡ c = omega (arith, long) in
        let within : c < n + (j + 1) = omega arith in
        let next = rest (no_more t.exit out (tries n give t (j + 1) (t.loops out)) fails) count within in
        (next.0, inr (out, gave, is, next.1))

    go : (o : Option Container) → give j input ≡ o → closed t.exit (and_then t o (λ out. tries n give t (j + 1) (t.loops out))) ≡ false
        → length (and_then t o (λ out. tries n give t (j + 1) (t.loops out))) + j ≡ c → ((out : Container) → Rest out) → (x : Container) × Reaches (suc (suc n)) give t j input c x
    go None is fails long rest = let e : j ≡ c = omega (arith, long) in (input, inl (e, refl))
    go (Some out) is fails long rest = on out is (holds t.exit out) refl fails long (rest out)

-- an attempt among those that start is reached
pub reached_start : (n : ℕ) (give : Gives) (t : Trial) (j : ℕ) (input : Container) (i : ℕ) (start : Start) → slice_get (starts n give t j input) i ≡ Some start
    → Reaches n give t j input start.attempt start.input
reached_start zero give t j input i start at = let never : None ≡ Some start = at in absurd (no_start never)
  where
    no_start : None ≡ Some start → ⊥
    no_start h = cc
reached_start (suc n) give t j input zero start at =
    let same : record { attempt = j; input = input } ≡ start = cc in
    inl (ap (λ (s : Start). s.attempt) same, ap (λ (s : Start). s.input) same)
reached_start (suc n) give t j input (suc i) start at = go (give j input) refl at (λ out there. reached_start n give t (j + 1) (t.loops out) i start there)
  where
    Goal : Type 0
    Goal = Reaches (suc n) give t j input start.attempt start.input

    no_start : None ≡ Some start → ⊥
    no_start h = cc

    later : (out : Container) → give j input ≡ Some out → (b : Bool) → holds t.exit out ≡ b → slice_get (cond b [] (starts n give t (j + 1) (t.loops out))) i ≡ Some start
        → (slice_get (starts n give t (j + 1) (t.loops out)) i ≡ Some start → Reaches n give t (j + 1) (t.loops out) start.attempt start.input) → Goal
    later out gave true is none rest = absurd (no_start none)
    later out gave false is there rest = inr (out, gave, is, rest there)

    go : (o : Option Container) → give j input ≡ o → slice_get (then_start t o (λ out. starts n give t (j + 1) (t.loops out))) i ≡ Some start
        → ((out : Container) → slice_get (starts n give t (j + 1) (t.loops out)) i ≡ Some start → Reaches n give t (j + 1) (t.loops out) start.attempt start.input) → Goal
    go None is none rest = absurd (no_start none)
    go (Some out) is there rest = later out is (holds t.exit out) refl there (rest out)

-- the attempt that starts after this one, where this one isn't the last
abbrev pub next_start : Trial → ℕ → Container → List Start
next_start t c out = cond (holds t.exit out) [] (record { attempt = c + 1; input = t.loops out } ∷ [])

-- attempts from j on, before and after attempt c gives an output
pub record IsLonger (n : ℕ) (give give' : Gives) (t : Trial) (j : ℕ) (input : Container) (c : ℕ) (out : Container) : Type 0 where
  pub outputs : tries n give' t j input ≡ tries n give t j input ++ out ∷ []
  pub begins : starts (suc n) give' t j input ≡ starts (suc n) give t j input ++ next_start t c out
  pub tried : length (tries n give t j input) + j ≡ c
  pub started : length (starts (suc n) give t j input) + j ≡ c + 1
  pub goes : closed t.exit (tries n give t j input) ≡ false

-- attempt c gave nothing, gives an output on this input now, and the attempt after it gives nothing
pub record GivesMore (give give' : Gives) (c : ℕ) (x out : Container) : Type 0 where
  pub others : (j : ℕ) (i : Container) → j ≢ c → give' j i ≡ give j i
  pub before : (i : Container) → give c i ≡ None
  pub now : give' c x ≡ Some out
  pub next : (i : Container) → give' (c + 1) i ≡ None

module _ (give give' : Gives) (t : Trial) (c : ℕ) (x out : Container) (more : GivesMore give give' c x out) where
  none_next : (n : ℕ) (i : Container) → tries n give' t (c + 1) i ≡ []
  none_next zero i = refl
  none_next (suc n) i = rw (more.next i) refl

  one_next : (n : ℕ) (i : Container) → starts (suc n) give' t (c + 1) i ≡ record { attempt = c + 1; input = i } ∷ []
  one_next n i = rw (more.next i) refl

  abbrev Longer : ℕ → ℕ → Container → Type 0
  Longer n j input = IsLonger n give give' t j input c out

  here : (n : ℕ) → Longer (suc n) c x
  here n = record {
    outputs = rw (more.before x, more.now) (ap (λ os. out ∷ cond (holds t.exit out) [] os) (none_next n (t.loops out)) ∙ ap (λ os. out ∷ os) (either (holds t.exit out)));
    begins = rw (more.before x, more.now) (ap (λ os. record { attempt = c; input = x } ∷ cond (holds t.exit out) [] os) (one_next n (t.loops out)));
    tried = rw (more.before x) (omega arith);
    started = rw (more.before x) (omega arith);
    goes = rw (more.before x) refl;
  }
    where
      either : (b : Bool) → cond {A = List Container} b [] [] ≡ []
      either true = refl
      either false = refl

  further : (n j : ℕ) (input gave : Container) → give j input ≡ Some gave → holds t.exit gave ≡ false → j ≢ c → Longer n (j + 1) (t.loops gave) → Longer (suc n) j input
  further n j input gave is goes other rest =
      let is' : give' j input ≡ Some gave = more.others j input other ∙ is in
      let tried = rest.tried in
      let started = rest.started in
      record {
        outputs = rw (is, is', goes) (ap (λ os. gave ∷ os) rest.outputs);
        begins = rw (is, is', goes) (ap (λ os. record { attempt = j; input = input } ∷ os) rest.begins);
        tried = rw (is, goes) (omega (arith, tried));
        started = rw (is, goes) (omega (arith, started));
        goes = rw (is, goes) (more_goes t.exit gave (tries n give t (j + 1) (t.loops gave)) goes rest.goes);
      }

  -- so the attempts are longer by attempt c
  pub longer : (n j : ℕ) (input : Container) → Reaches (suc n) give t j input c x → c < n + j → Longer n j input
  longer n j input (inl at) less = start n at.0 at.1 less
    where
      start : (n : ℕ) → j ≡ c → input ≡ x → c < n + j → Longer n j input
      start zero same alike less = absurd (omega arith)
      start (suc m) same alike less = rw (same, alike) (here m)
  longer zero j input (inr later) less = absurd later.3
  longer (suc n) j input (inr later) less =
      further n j input later.0 later.1 later.2 (other later.0 later.1) (longer n (j + 1) (t.loops later.0) later.3 (omega arith))
    where
      other : (gave : Container) → give j input ≡ Some gave → j ≢ c
      other gave is same = no_some gave (sym (more.before input) ∙ ap (λ (m : ℕ). give m input) (sym same) ∙ is)
        where
          no_some : (o : Container) → None ≡ Some o → ⊥
          no_some o h = cc
