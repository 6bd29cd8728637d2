-- Completions seen from the scope of an attempt.
use Rattle.std.proofs.Common.{◌≡◌, ℕ, suc, get_or, ◌+◌, ◌<◌, Bool, true, false, ◌&&◌, List, [], ◌∷◌, ◌++◌, length, take, Option, Some, None, cond, refl, ap, sym, ◌∙◌, ◌≤◌, ◌⊎◌, inl, inr, zero, arith}
use Rattle.std.specs.Prelude.{◌==◌, nat_le, slice_get}
use Rattle.fate_laws.proofs.Items.{parts_itself}
use Rattle.std.specs.Option.{option_map, option_map_or, option_or}
use Rattle.std.proofs.lemmas.List.{take_more, length-take-le}
use Rattle.std.proofs.lemmas.Bool.Decides.{nat_tests, leb_tells}
use Rattle.flow_model.specs.Rows.{same_part, same_parts, output_of}
use Rattle.flow_model.specs.declared.graphs.Container.{Container}
use Rattle.flow_model.specs.declared.instances.Fact.{Fact}
use Rattle.flow_model.specs.declared.instances.Part.{Part}
use Rattle.fate_eval.specs.Entries.{Dated, dated, dated_in, dated_from, by_then, parts_behind}
use Rattle.fate_eval.specs.declared.accepted.Entry.{Entry}

no_zero : (n : ℕ) → false ≡ (suc n == 0)
no_zero n = grind (arith, nat_tests)

pub same_none : (ps : List Part) → same_parts ps [] ≡ (length ps == 0)
same_none [] = refl
same_none (p ∷ ps) = no_zero (length ps)

same_behind : (ps : List Part) (q : Part) (qs : List Part) → same_parts ps (q ∷ qs) ≡ option_map_or (λ rest. same_parts rest qs) (parts_behind q ps) false
same_behind [] q qs = refl
same_behind (p ∷ ps) q qs = go (same_part p q)
  where
    go : (b : Bool) → (b && same_parts ps qs) ≡ option_map_or (λ rest. same_parts rest qs) (cond b (Some ps) None) false
    go true = refl
    go false = refl

or_cond : {X : Type 0} (b : Bool) (x : X) (o p : Option X) → cond b (Some x) (option_or o p) ≡ option_or (cond b (Some x) o) p
or_cond true x o p = refl
or_cond false x o p = refl

-- the first wins
pub output_append : (es fs : List Entry) (p : List Part) → dated_in (es ++ fs) p ≡ option_or (dated_in es p) (dated_in fs p)
output_append [] fs p = refl
output_append (e ∷ es) fs p =
    ap (cond (same_parts e.parts.now p) (Some (dated e))) (output_append es fs p)
    ∙ or_cond (same_parts e.parts.now p) (dated e) (dated_in es p) (dated_in fs p)

below_one : (e e' : Entry) (q : Part) (p : List Part) → Some e'.parts.now ≡ parts_behind q e.parts.now → dated e' ≡ dated e
    → dated_in (e' ∷ []) p ≡ dated_in (e ∷ []) (q ∷ p)
below_one e e' q p is same = rw (same_behind e.parts.now q p, ← is, same) refl

-- one more completion below
pub one_below : (es : List Entry) (e e' : Entry) (q : Part) (p : List Part) → Some e'.parts.now ≡ parts_behind q e.parts.now → dated e' ≡ dated e
    → dated_in (es ++ e' ∷ []) p ≡ option_or (dated_in es p) (dated_in (e ∷ []) (q ∷ p))
one_below es e e' q p is same = output_append es (e' ∷ []) p ∙ ap (option_or (dated_in es p)) (below_one e e' q p is same)

-- the first n, and one more
pub output_more : (es : List Entry) (i : ℕ) (e : Entry) (p : List Part) → i < length es → e ≡ get_or es i e
    → option_or (dated_in (take i es) p) (dated_in (e ∷ []) p) ≡ dated_in (take (i + 1) es) p
output_more es i e p less is =
    sym (output_append (take i es) (e ∷ []) p)
    ∙ ap (λ fs. dated_in fs p) (rw (take_more es i e less) (ap (λ f. take i es ++ f ∷ []) is))

facts_append : (n : ℕ) (es fs : List Fact) (p : List Part) → dated_from n (es ++ fs) p ≡ option_or (dated_from n es p) (dated_from (n + length es) fs p)
facts_append n [] fs p = let e : n + zero ≡ n = omega arith in rw e refl
facts_append n (f ∷ es) fs p =
    let e : n + suc (length es) ≡ n + 1 + length es = omega arith in
    rw e
    (ap (cond (same_parts f.item.parts p) (Some (record { after = n + 1; output = f.output }))) (facts_append (n + 1) es fs p)
    ∙ or_cond (same_parts f.item.parts p) (record { after = n + 1; output = f.output }) (dated_from (n + 1) es p) (dated_from (n + 1 + length es) fs p))

-- an entry of the next completion
pub fact_more : (es : List Entry) (fs : List Fact) (i : ℕ) (e : Entry) (f : Fact) (p : List Part) → i < length fs → f ≡ get_or fs i f
    → e.parts.now ≡ f.item.parts → e.output.now ≡ f.output → e.after ≡ i + 1 → dated_in es p ≡ dated_from 0 (take i fs) p
    → dated_in (es ++ e ∷ []) p ≡ dated_from 0 (take (i + 1) fs) p
fact_more es fs i e f p less is parts out after before =
    let more : take i fs ++ f ∷ [] ≡ take (i + 1) fs = rw (take_more fs i f less) (ap (λ g. take i fs ++ g ∷ []) is) in
    let taken : length (take i fs) ≡ i = length-take-le i fs (omega arith) in
    let long : 0 + length (take i fs) ≡ i = omega arith in
    output_append es (e ∷ []) p ∙ rw (before, parts, out, after, ← more) (sym (rw long at (facts_append 0 (take i fs) (f ∷ []) p)))

-- ---- the completions of a root, of which the first n came

pub outputs_from : (fs : List Fact) (p : List Part) (m : ℕ) → option_map (λ d. d.output) (dated_from m fs p) ≡ output_of fs p
outputs_from [] p m = refl
outputs_from (f ∷ fs) p m = go (same_parts f.item.parts p) (outputs_from fs p (m + 1))
  where
    go : (b : Bool) → option_map (λ d. d.output) (dated_from (m + 1) fs p) ≡ output_of fs p
        → option_map (λ d. d.output) (cond b (Some (record { after = m + 1; output = f.output })) (dated_from (m + 1) fs p)) ≡ cond b (Some f.output) (output_of fs p)
    go true rest = refl
    go false rest = rest

abbrev date : ℕ → Container → Dated
date n out = record { after = n; output = out }

pub dated_later : (n m : ℕ) (out : Container) → n ≤ m → by_then n (Some (date (m + 1) out)) ≡ None
dated_later n m out less = go (leb_tells (m + 1) n)
  where
    go : ((nat_le (m + 1) n ≡ true) × (m + 1 ≤ n)) ⊎ ((nat_le (m + 1) n ≡ false) × (n < m + 1)) → by_then n (Some (date (m + 1) out)) ≡ None
    go (inl u) = absurd (omega (arith, u.1))
    go (inr u) = rw u.0 refl

dated_before : (n m : ℕ) (out : Container) → m + 1 ≤ n → by_then n (Some (date (m + 1) out)) ≡ Some out
dated_before n m out less = go (leb_tells (m + 1) n)
  where
    go : ((nat_le (m + 1) n ≡ true) × (m + 1 ≤ n)) ⊎ ((nat_le (m + 1) n ≡ false) × (n < m + 1)) → by_then n (Some (date (m + 1) out)) ≡ Some out
    go (inl u) = rw u.0 refl
    go (inr u) = absurd (omega (arith, u.1))

-- those that come later are not known before
later_from : (fs : List Fact) (p : List Part) (m n : ℕ) → n ≤ m → by_then n (dated_from m fs p) ≡ None
later_from [] p m n less = refl
later_from (f ∷ fs) p m n less = go (same_parts f.item.parts p) (later_from fs p (m + 1) n (omega arith))
  where
    go : (b : Bool) → by_then n (dated_from (m + 1) fs p) ≡ None → by_then n (cond b (Some (date (m + 1) f.output)) (dated_from (m + 1) fs p)) ≡ None
    go true rest = dated_later n m f.output less
    go false rest = rest

pub known_from : (fs : List Fact) (p : List Part) (m c : ℕ) → by_then (m + c) (dated_from m fs p) ≡ output_of (take c fs) p
known_from [] p m zero = refl
known_from [] p m (suc c) = refl
known_from (f ∷ fs) p m zero = later_from (f ∷ fs) p m (m + 0) (omega arith)
known_from (f ∷ fs) p m (suc c) =
    let e : m + suc c ≡ m + 1 + c = omega arith in
    go (same_parts f.item.parts p) (rw e (known_from fs p (m + 1) c))
  where
    go : (b : Bool) → by_then (m + suc c) (dated_from (m + 1) fs p) ≡ output_of (take c fs) p
        → by_then (m + suc c) (cond b (Some (date (m + 1) f.output)) (dated_from (m + 1) fs p)) ≡ cond b (Some f.output) (output_of (take c fs) p)
    go false rest = rest
    go true rest = dated_before (m + suc c) m f.output (omega arith)

-- a completion that is the first of an item by its number is of this item
pub fact_at : (fs : List Fact) (p : List Part) (m : ℕ) (i : ℕ) (out : Container) → dated_from m fs p ≡ Some (date (i + 1) out)
    → (j : ℕ) × (i ≡ m + j) × (f : Fact) × (slice_get fs j ≡ Some f) × (same_parts f.item.parts p ≡ true)
fact_at [] p m i out is = absurd (no_some is)
  where
    no_some : None ≡ Some (date (i + 1) out) → ⊥
    no_some h = cc
fact_at (f ∷ fs) p m i out is = go (same_parts f.item.parts p) refl (fact_at fs p (m + 1) i out)
  where
    go : (b : Bool) → same_parts f.item.parts p ≡ b
        → (dated_from (m + 1) fs p ≡ Some (date (i + 1) out) → (j : ℕ) × (i ≡ m + 1 + j) × (g : Fact) × (slice_get fs j ≡ Some g) × (same_parts g.item.parts p ≡ true))
        → (j : ℕ) × (i ≡ m + j) × (g : Fact) × (slice_get (f ∷ fs) j ≡ Some g) × (same_parts g.item.parts p ≡ true)
    go true same rest =
        let here : Some (date (m + 1) f.output) ≡ Some (date (i + 1) out) = rw same at is in
        let number : m + 1 ≡ i + 1 = ap (λ o. option_map_or (λ (d : Dated). d.after) o 0) here in
        (0, omega arith, f, refl, same)
    go false other rest = let r = rest (rw other at is) in (suc r.0, omega (arith, r.1), r.2, r.3, r.4)

-- the first completion of its item is known by its number
pub first_dated : (fs : List Fact) (n : ℕ) (f : Fact) (m : ℕ) → slice_get fs n ≡ Some f → output_of (take n fs) f.item.parts ≡ None
    → dated_from m fs f.item.parts ≡ Some (record { after = m + n + 1; output = f.output })
first_dated [] n f m is none = absurd (no_some is)
  where
    no_some : None ≡ Some f → ⊥
    no_some h = cc
first_dated (e ∷ fs) zero f m is none =
    let same : e ≡ f = cc in
    let number : m + 0 + 1 ≡ m + 1 = omega arith in
    rw (number, same) (rw (parts_itself f.item.parts) refl)
first_dated (e ∷ fs) (suc n) f m is none = go (same_parts e.item.parts f.item.parts) refl (first_dated fs n f (m + 1) is)
  where
    go : (b : Bool) → same_parts e.item.parts f.item.parts ≡ b
        → (output_of (take n fs) f.item.parts ≡ None → dated_from (m + 1) fs f.item.parts ≡ Some (record { after = m + 1 + n + 1; output = f.output }))
        → dated_from m (e ∷ fs) f.item.parts ≡ Some (record { after = m + suc n + 1; output = f.output })
    go true same rest = let wrong : Some e.output ≡ None = rw same at none in let x : ⊥ = cc in absurd x
    go false other rest =
        let number : m + suc n + 1 ≡ m + 1 + n + 1 = omega arith in
        rw (number, other) (rest (rw other at none))
