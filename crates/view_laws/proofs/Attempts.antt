-- The attempts that start, and what is known of an attempt where a later one has started.
use Rattle.fate_laws.proofs.Attempts.{closed, closed_tail, Keeps}
use Rattle.fate_laws.specs.Equations.{GoesOn}
use Rattle.fate_laws.specs.StartedScopes.{Reaches}
use Rattle.flow_model.specs.Conditions.{holds}
use Rattle.flow_model.specs.Scopes.{Gives, Trial, Start, and_then, tries, then_start, starts}
use Rattle.flow_model.specs.declared.graphs.Container.{Container}
use Rattle.flow_model.specs.declared.graphs.Expr.{Expr}
use Rattle.std.proofs.Common.{◌≡◌, ℕ, zero, suc, ◌+◌, ◌≤◌, ◌<◌, Bool, true, false, List, [], ◌∷◌, length, refl, sym, ap, ◌∙◌, Option, Some, None, arith, inl, inr, subst}
use Rattle.std.specs.Prelude.{slice_get}
use Rattle.view_laws.proofs.DueOnce.{reaches_from}

-- ---- by the list of starts, and by steps

-- an attempt in the list of those that start is reached
pub found_reaches : (n : ℕ) (gives : Gives) (t : Trial) (j : ℕ) (i : Container) (number : ℕ) (s : Start)
    → slice_get (starts n gives t j i) number ≡ Some s → Reaches n gives t j i s.attempt s.input
found_reaches zero gives t j i number s is = absurd (none_some is)
  where
    none_some : None ≡ Some s → ⊥
    none_some h = cc
found_reaches (suc n) gives t j i zero s is =
    let same : record { attempt = j; input = i } ≡ s = cc in
    inl (ap (λ u. u.attempt) same, ap (λ u. u.input) same)
found_reaches (suc n) gives t j i (suc number) s is = go (gives j i) refl (λ out. found_reaches n gives t (j + 1) (t.loops out) number s)
  where
    none_some : None ≡ Some s → ⊥
    none_some h = cc

    Rest : Container → Type 0
    Rest out = slice_get (starts n gives t (j + 1) (t.loops out)) number ≡ Some s → Reaches n gives t (j + 1) (t.loops out) s.attempt s.input

    by_exit : (out : Container) → Rest out → gives j i ≡ Some out
        → slice_get (then_start t (Some out) (λ o. starts n gives t (j + 1) (t.loops o))) number ≡ Some s
        → (b : Bool) → holds t.exit out ≡ b → Reaches (suc n) gives t j i s.attempt s.input
    by_exit out rest gave there true exits = absurd (none_some (rw exits at there))
    by_exit out rest gave there false exits = inr (out, gave, exits, rest (rw exits at there))

    go : (o : Option Container) → gives j i ≡ o → ((out : Container) → Rest out) → Reaches (suc n) gives t j i s.attempt s.input
    go None gave rest = absurd (none_some (rw gave at is))
    go (Some out) gave rest = by_exit out (rest out) gave (rw gave at is) (holds t.exit out) refl

-- an attempt that is reached stands in the list
pub reaches_found : (n : ℕ) (gives : Gives) (t : Trial) (j : ℕ) (i : Container) (c : ℕ) (i' : Container) → Reaches n gives t j i c i'
    → (number : ℕ) × (slice_get (starts n gives t j i) number ≡ Some (record { attempt = c; input = i' }))
reaches_found zero gives t j i c i' r = absurd r
reaches_found (suc n) gives t j i c i' (inl r) = (0, ap (λ b. Some (record { attempt = b; input = i })) r.0 ∙ ap (λ b. Some (record { attempt = c; input = b })) r.1)
reaches_found (suc n) gives t j i c i' (inr r) =
    let rest = reaches_found n gives t (j + 1) (t.loops r.0) c i' r.3 in
    (suc rest.0, rw (r.1, r.2) rest.1)

-- ---- facts of reached attempts

-- an attempt is reached on one input
pub reaches_one : (n m : ℕ) (gives : Gives) (t : Trial) (j : ℕ) (i : Container) (c : ℕ) (a b : Container) → Reaches n gives t j i c a → Reaches m gives t j i c b → a ≡ b
reaches_one zero m gives t j i c a b r s = absurd r
reaches_one (suc n) zero gives t j i c a b r s = absurd s
reaches_one (suc n) (suc m) gives t j i c a b (inl r) (inl s) = sym r.1 ∙ s.1
reaches_one (suc n) (suc m) gives t j i c a b (inl r) (inr s) =
    let e = r.0 in
    let later = reaches_from m gives t (j + 1) (t.loops s.0) c b s.3 in
    absurd (omega arith)
reaches_one (suc n) (suc m) gives t j i c a b (inr r) (inl s) =
    let e = s.0 in
    let later = reaches_from n gives t (j + 1) (t.loops r.0) c a r.3 in
    absurd (omega arith)
reaches_one (suc n) (suc m) gives t j i c a b (inr r) (inr s) =
    let same_out : Some r.0 ≡ Some s.0 = sym r.1 ∙ s.1 in
    let out : r.0 ≡ s.0 = cc in
    reaches_one n m gives t (j + 1) (t.loops r.0) c a b r.3 (rw out s.3)

-- the attempt before one that is reached gave something
pub reaches_gave : (n : ℕ) (gives : Gives) (t : Trial) (j : ℕ) (i : Container) (c : ℕ) (i' : Container) → j ≤ c → Reaches n gives t j i (c + 1) i'
    → (b out : Container) × (gives c b ≡ Some out)
reaches_gave zero gives t j i c i' le r = absurd r
reaches_gave (suc n) gives t j i c i' le (inl r) = let e = r.0 in absurd (omega arith)
reaches_gave (suc n) gives t j i c i' le (inr r) = at_next n r.3 (λ more. reaches_gave n gives t (j + 1) (t.loops r.0) c i' more r.3)
  where
    here : j ≡ c → (b out : Container) × (gives c b ≡ Some out)
    here e = (i, r.0, ap (λ a. gives a i) (sym e) ∙ r.1)

    at_next : (m : ℕ) → Reaches m gives t (j + 1) (t.loops r.0) (c + 1) i' → (j + 1 ≤ c → (b out : Container) × (gives c b ≡ Some out))
        → (b out : Container) × (gives c b ≡ Some out)
    at_next zero s rest = absurd s
    at_next (suc m) (inl s) rest = let e = s.0 in here (omega arith)
    at_next (suc m) (inr s) rest = let later = reaches_from m gives t (j + 1 + 1) (t.loops s.0) (c + 1) i' s.3 in rest (omega arith)

-- who gives more, reaches more
pub reaches_grow : (n m : ℕ) (gives gives' : Gives) (t : Trial) → ((j : ℕ) (i : Container) → Keeps gives gives' j i) → (j : ℕ) (i : Container) (c : ℕ) (i' : Container)
    → n ≤ m → Reaches n gives t j i c i' → Reaches m gives' t j i c i'
reaches_grow zero m gives gives' t keeps j i c i' le r = absurd r
reaches_grow (suc n) zero gives gives' t keeps j i c i' le r = absurd (omega arith)
reaches_grow (suc n) (suc m) gives gives' t keeps j i c i' le (inl r) = inl r
reaches_grow (suc n) (suc m) gives gives' t keeps j i c i' le (inr r) =
    inr (r.0, keeps j i r.0 r.1, r.2, reaches_grow n m gives gives' t keeps (j + 1) (t.loops r.0) c i' (omega arith) r.3)

-- ---- attempts that go on

-- where an attempt that is reached gives nothing, the attempts have not ended
pub reached_open : (n : ℕ) (gives : Gives) (t : Trial) (j : ℕ) (i : Container) (c : ℕ) (i' : Container) → Reaches (suc n) gives t j i c i' → gives c i' ≡ None
    → closed t.exit (tries n gives t j i) ≡ true → ⊥
reached_open zero gives t j i c i' r none done = no_end done
  where
    no_end : false ≡ true → ⊥
    no_end h = cc
reached_open (suc n) gives t j i c i' (inl r) none done =
    let nothing : gives j i ≡ None = ap (λ a. gives a i) r.0 ∙ ap (gives c) r.1 ∙ none in
    no_end (rw nothing at done)
  where
    no_end : false ≡ true → ⊥
    no_end h = cc
reached_open (suc n) gives t j i c i' (inr r) none done =
    reached_open n gives t (j + 1) (t.loops r.0) c i' r.3 none
    (closed_tail t.exit r.0 (tries n gives t (j + 1) (t.loops r.0)) r.2 (rw (r.1, r.2) at done))

goes_on_tail : (exit : Option Expr) (x : Container) (xs : List Container) → GoesOn exit (x ∷ xs) → GoesOn exit xs
goes_on_tail exit x [] on = λ o h. let n : ⊥ = cc in absurd n
goes_on_tail exit x (y ∷ ys) on = λ o h. on o h

-- what happens to the attempt after those that gave something
pub record IsNextAttempt (n : ℕ) (gives : Gives) (t : Trial) (j : ℕ) (i : Container) : Type 0 where
  pub input : Container
  pub reach : Reaches (suc n) gives t j i (j + length (tries n gives t j i)) input
  pub open_ : length (tries n gives t j i) < n → gives (j + length (tries n gives t j i)) input ≡ None

-- where the attempts go on, the next one is reached
pub next_attempt : (n : ℕ) (gives : Gives) (t : Trial) (j : ℕ) (i : Container) → GoesOn t.exit (tries n gives t j i) → IsNextAttempt n gives t j i
next_attempt zero gives t j i on = record { input = i; reach = inl (omega arith, refl); open_ = λ less. absurd (omega arith) }
next_attempt (suc n) gives t j i on = go (gives j i) refl (λ out. next_attempt n gives t (j + 1) (t.loops out))
  where
    plain : j + 0 ≡ j
    plain = omega arith

    shifted : (m : ℕ) → j + suc m ≡ j + 1 + m
    shifted m = omega arith

    Next : List Container → Type 0
    Next outs = (input : Container) × Reaches (suc (suc n)) gives t j i (j + length outs) input × (length outs < suc n → gives (j + length outs) input ≡ None)

    by_exit : (out : Container) → (GoesOn t.exit (tries n gives t (j + 1) (t.loops out)) → IsNextAttempt n gives t (j + 1) (t.loops out)) → gives j i ≡ Some out
        → (b : Bool) → holds t.exit out ≡ b
        → GoesOn t.exit (and_then t (Some out) (λ o. tries n gives t (j + 1) (t.loops o)))
        → Next (and_then t (Some out) (λ o. tries n gives t (j + 1) (t.loops o)))
    by_exit out rest gave true exits on' =
        let fails : holds t.exit out ≡ false = (let ends : GoesOn t.exit (out ∷ []) = rw exits at on' in ends out refl) in
        let wrong : true ≡ false = sym exits ∙ fails in
        let n : ⊥ = cc in
        absurd n
    by_exit out rest gave false exits on' =
        let tail : GoesOn t.exit (tries n gives t (j + 1) (t.loops out)) = goes_on_tail t.exit out (tries n gives t (j + 1) (t.loops out)) (rw exits at on') in
        let r = rest tail in
        let whole : length (tries n gives t (j + 1) (t.loops out)) + 1 ≡ length (out ∷ tries n gives t (j + 1) (t.loops out)) = omega arith in
        rw exits
        (rw (shifted (length (tries n gives t (j + 1) (t.loops out))))
        (r.input, inr (out, gave, exits, r.reach), λ less. r.open_ (omega arith)))

    go : (o : Option Container) → gives j i ≡ o → ((out : Container) → GoesOn t.exit (tries n gives t (j + 1) (t.loops out)) → IsNextAttempt n gives t (j + 1) (t.loops out))
        → IsNextAttempt (suc n) gives t j i
    go None gave rest =
        let list : tries (suc n) gives t j i ≡ [] = rw gave refl in
        let done : Next (tries (suc n) gives t j i) = subst Next (sym list) (rw plain (i, inl (refl, refl), λ less. gave)) in
        record { input = done.0; reach = done.1; open_ = done.2 }
    go (Some out) gave rest =
        let list : tries (suc n) gives t j i ≡ and_then t (Some out) (λ o. tries n gives t (j + 1) (t.loops o)) = rw gave refl in
        let done : Next (tries (suc n) gives t j i) = subst Next (sym list) (by_exit out (rest out) gave (holds t.exit out) refl (subst (GoesOn t.exit) list on)) in
        record { input = done.0; reach = done.1; open_ = done.2 }

-- no more attempts are tried than are looked at
pub tries_at_most : (n : ℕ) (gives : Gives) (t : Trial) (j : ℕ) (i : Container) → length (tries n gives t j i) ≤ n
tries_at_most zero gives t j i = omega arith
tries_at_most (suc n) gives t j i = go (gives j i) refl (λ out. tries_at_most n gives t (j + 1) (t.loops out))
  where
    by_exit : (out : Container) → length (tries n gives t (j + 1) (t.loops out)) ≤ n → (b : Bool) → holds t.exit out ≡ b
        → length (and_then t (Some out) (λ o. tries n gives t (j + 1) (t.loops o))) ≤ suc n
    by_exit out rest true exits = rw exits (omega arith)
    by_exit out rest false exits = rw exits (omega arith)

    go : (o : Option Container) → gives j i ≡ o → ((out : Container) → length (tries n gives t (j + 1) (t.loops out)) ≤ n) → length (tries (suc n) gives t j i) ≤ suc n
    go None gave rest = rw gave (omega arith)
    go (Some out) gave rest = rw gave (by_exit out (rest out) (holds t.exit out) refl)
