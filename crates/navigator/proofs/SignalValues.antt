-- A SIGNAL tells one of the values of the connectors that lead to its activity, and no other value.
use Rattle.std.proofs.Common.{◌≡◌, ℕ, zero, suc, Bool, true, false, ◌&&◌, List, [], ◌∷◌, ◌++◌, map, Option, Some, None, refl, ap, sym, ◌∙◌, inl, inr}
use Rattle.std.specs.Prelude.{◌==◌, ◌≢◌, slice_get}
use Rattle.std.specs.List.{filter, list_any}
use Rattle.std.proofs.lemmas.Bool.Decides.{eqb_tells}
use Rattle.fate_laws.proofs.Extends.{or_false, both_true}
use Rattle.fate_laws.specs.WellFormed.{AreSimple}
use Rattle.flow_model.specs.Fates.{Ends, connector_value}
use Rattle.flow_model.specs.Scopes.{Known, values_at}
use Rattle.flow_model.specs.declared.graphs.Control.{Control}
use Rattle.view_laws.specs.Coming.{IsByMessages}
use Rattle.view_laws.specs.Learning.{with_signal}

pub equal : (x y : ℕ) → x ≡ y → (x == y) ≡ true
equal x y same = elim (eqb_tells x y) [ inl is ↦ is.0 | inr other ↦ absurd (other.1 same) ]

both_lists : {X : Type 0} (x y : X) (xs ys : List X) → x ≡ y → xs ≡ ys → x ∷ xs ≡ y ∷ ys
both_lists x y xs ys one rest = ap (λ z. z ∷ xs) one ∙ ap (λ zs. y ∷ zs) rest

none_at : {X : Type 0} (p : X → Bool) (xs : List X) (n : ℕ) (x : X) → list_any p xs ≡ false → slice_get xs n ≡ Some x → p x ≡ false
none_at p [] n x none at = let never : None ≡ Some x = at in let n : ⊥ = cc in absurd n
none_at p (y ∷ ys) zero x none at = let same : y ≡ x = cc in ap p (sym same) ∙ (or_false (p y) (list_any p ys) none).0
none_at p (y ∷ ys) (suc n) x none at = none_at p ys n x (or_false (p y) (list_any p ys) none).1 at

-- one of the values was unknown, and is this one
pub record IsTold (v : Bool) (olds news : List (Option Bool)) : Type 0 where
  pub before : List (Option Bool)
  pub behind : List (Option Bool)
  pub old : olds ≡ before ++ None ∷ behind
  pub new : news ≡ before ++ Some v ∷ behind

module _ (old new : Control → Option Bool) (a b : ℕ) (v : Bool) (told : (c : Control) → c.from ≡ a → c.to ≡ b → (old c ≡ None) × (new c ≡ Some v))
    (other : (c : Control) → (c.from ≡ a → c.to ≡ b → ⊥) → new c ≡ old c) where
  elsewhere : (x : ℕ) → x ≢ b → (cs : List Control) → map new (filter (λ c. c.to == x) cs) ≡ map old (filter (λ c. c.to == x) cs)
  elsewhere x apart [] = refl
  elsewhere x apart (c ∷ cs) = elim (eqb_tells c.to x) [
    | inl is ↦ rw is.0 (both_lists (new c) (old c) _ _ (other c (λ from to. apart (sym is.1 ∙ to))) (elsewhere x apart cs))
    | inr unlike ↦ rw unlike.0 (elsewhere x apart cs)
  ]

  apart_from : (c d : Control) → c.from ≡ a → c.to ≡ b → ((c.from == d.from) && (c.to == d.to)) ≡ false → d.from ≡ a → d.to ≡ b → ⊥
  apart_from c d from to none from' to' =
      let some : ((c.from == d.from) && (c.to == d.to)) ≡ true = both_true (c.from == d.from) (c.to == d.to) (equal c.from d.from (from ∙ sym from')) (equal c.to d.to (to ∙ sym to')) in
      cc

  absent : (c : Control) → c.from ≡ a → c.to ≡ b → (cs : List Control) → list_any (λ d. (c.from == d.from) && (c.to == d.to)) cs ≡ false
      → map new (filter (λ d. d.to == b) cs) ≡ map old (filter (λ d. d.to == b) cs)
  absent c from to [] none = refl
  absent c from to (d ∷ ds) none =
      let both = or_false ((c.from == d.from) && (c.to == d.to)) (list_any (λ x. (c.from == x.from) && (c.to == x.to)) ds) none in
      elim (eqb_tells d.to b) [
        | inl is ↦ rw is.0 (both_lists (new d) (old d) _ _ (other d (apart_from c d from to both.0)) (absent c from to ds both.1))
        | inr unlike ↦ rw unlike.0 (absent c from to ds both.1)
      ]

  split : (cs : List Control) (n : ℕ) (c : Control) → AreSimple cs → slice_get cs n ≡ Some c → c.from ≡ a → c.to ≡ b
      → IsTold v (map old (filter (λ d. d.to == b) cs)) (map new (filter (λ d. d.to == b) cs))
  split [] n c simple at from to = let never : None ≡ Some c = at in let m : ⊥ = cc in absurd m
  split (d ∷ ds) zero c simple at from to =
      let same : d ≡ c = cc in
      let from' : d.from ≡ a = ap (λ (x : Control). x.from) same ∙ from in
      let to' : d.to ≡ b = ap (λ (x : Control). x.to) same ∙ to in
      let here : (d.to == b) ≡ true = equal d.to b to' in
      let values = told d from' to' in
      record {
        before = [];
        behind = map old (filter (λ x. x.to == b) ds);
        old = rw here (both_lists (old d) None _ _ values.0 refl);
        new = rw here (both_lists (new d) (Some v) _ _ values.1 (absent d from' to' ds simple.0));
      }
  split (d ∷ ds) (suc n) c simple at from to =
      let rest = split ds n c simple.1 at from to in
      let differs : ((d.from == c.from) && (d.to == c.to)) ≡ false = none_at (λ x. (d.from == x.from) && (d.to == x.to)) ds n c simple.0 at in
      let one : new d ≡ old d = other d (λ from' to'. apart_from d c from' to' differs from to) in
      elim (eqb_tells d.to b) [
        | inl is ↦ record {
          before = old d ∷ rest.before;
          behind = rest.behind;
          old = rw is.0 (ap (λ os. old d ∷ os) rest.old);
          new = rw is.0 (both_lists (new d) (old d) _ _ one rest.new);
        }
        | inr unlike ↦ record { before = rest.before; behind = rest.behind; old = rw unlike.0 rest.old; new = rw unlike.0 rest.new }
      ]

module _ (k : Known) (a b : ℕ) (v : Bool) (by : IsByMessages k) (unsent : k.sent [] a b None ≡ None) (controls : List Control) (e E : Ends) where
  abbrev value : Control → Option Bool
  value c = k.sent [] c.from c.to (connector_value controls c (e c.from))

  abbrev value_then : Control → Option Bool
  value_then c = (with_signal a b v k).sent [] c.from c.to (connector_value controls c (E c.from))

  this_one : (c : Control) → c.from ≡ a → c.to ≡ b → (value c ≡ None) × (value_then c ≡ Some v)
  this_one c from to =
      let both : ((a == c.from) && (b == c.to)) ≡ true = both_true (a == c.from) (b == c.to) (equal a c.from (sym from)) (equal b c.to (sym to)) in (
        by [] c.from c.to (connector_value controls c (e c.from)) ∙ ap (λ x. k.sent [] x c.to None) from ∙ ap (λ y. k.sent [] a y None) to ∙ unsent,
        rw both refl,
      )

  another : (c : Control) → (c.from ≡ a → c.to ≡ b → ⊥) → value_then c ≡ value c
  another c apart =
      let differs : ((a == c.from) && (b == c.to)) ≡ false = elim (eqb_tells a c.from) [
        | inl from ↦ elim (eqb_tells b c.to) [ inl to ↦ absurd (apart (sym from.1) (sym to.1)) | inr unlike ↦ rw (from.0, unlike.0) refl ]
        | inr unlike ↦ rw unlike.0 refl
      ] in
      rw differs (by [] c.from c.to (connector_value controls c (E c.from)) ∙ sym (by [] c.from c.to (connector_value controls c (e c.from))))

  -- one of the values at b is told
  pub value_told : (n : ℕ) (c : Control) → AreSimple controls → slice_get controls n ≡ Some c → c.from ≡ a → c.to ≡ b
      → IsTold v (values_at k controls e b) (values_at (with_signal a b v k) controls E b)
  value_told n c simple at from to = split value value_then a b v this_one another controls n c simple at from to

  -- elsewhere the values stay
  pub values_stay : (x : ℕ) → x ≢ b → values_at (with_signal a b v k) controls E x ≡ values_at k controls e x
  values_stay x apart = elsewhere value value_then a b v this_one another x apart controls
