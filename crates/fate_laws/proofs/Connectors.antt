-- The value of a connector, in words.
use Rattle.std.proofs.Common.{◌≡◌, ℕ, suc, ◌==◌, Bool, true, false, not, ◌&&◌, ◌↔◌, List, [], ◌∷◌, refl, sym, ap, ◌∙◌, Some, None, arith, inl, inr}
use Rattle.std.proofs.lemmas.Bool.Decides.{eqb_tells}
use Rattle.std.proofs.lemmas.List.Elements.{All-cons, All-weaker}
use Rattle.std.specs.List.{list_any, All}
use Rattle.std.specs.Prelude.{◌≢◌}
use Rattle.flow_model.specs.declared.graphs.Container.{Container}
use Rattle.flow_model.specs.declared.graphs.Control.{Control}
use Rattle.flow_model.specs.declared.graphs.Expr.{Expr}
use Rattle.flow_model.specs.declared.graphs.When.{When}
use Rattle.flow_model.specs.declared.graphs.When.TheVariants.{Always, Cond, Otherwise}
use Rattle.flow_model.specs.declared.instances.SourceEnd.{SourceEnd}
use Rattle.flow_model.specs.declared.instances.SourceEnd.TheVariants as end
use Rattle.flow_model.specs.Conditions.{truth}
use Rattle.flow_model.specs.Fates.{Ends, connector_value, is_settled, some_when, when_true}
use Rattle.fate_laws.specs.Equations.{value_in, IsWhen, IsFinished, AreValues}
use Rattle.fate_laws.proofs.Extends.{or_false}

-- ---- lists

pub each_false : {X : Type 0} (p : X → Bool) (xs : List X) → list_any p xs ≡ false → All (λ x. p x ≡ false) xs
each_false p [] h = λ i d less. absurd (omega arith)
each_false p (x ∷ xs) h =
    let both = or_false (p x) (list_any p xs) h in
    All-cons (λ y. p y ≡ false) x xs both.0 (each_false p xs both.1)

pub any_false : {X : Type 0} (p : X → Bool) (xs : List X) → All (λ x. p x ≡ false) xs → list_any p xs ≡ false
any_false p [] h = refl
any_false p (x ∷ xs) h = rw (h 0 x (omega arith)) (any_false p xs (λ i d less. h (suc i) d (omega arith)))

-- ---- connectors

unknown_value : (controls : List Control) (c : Control) (s : SourceEnd) → (connector_value controls c s ≡ None) ↔ (is_settled s ≡ false)
unknown_value controls c end.Unsettled = (λ h. refl, λ h. refl)
unknown_value controls c end.Dead = (λ h. cc, λ h. cc)
unknown_value controls c (end.Finished out) = (λ h. cc, λ h. cc)

-- of a connector of the same source, whether its condition is true
abbrev pub is_true_when : ℕ → Container → Control → Bool
is_true_when source out d = (d.from == source) && when_true d.when out

not_true : (b : Bool) → not b ≡ true → b ≡ false
not_true true h = cc
not_true false h = refl

module _ (controls : List Control) (e : Ends) (source : ℕ) (out : Container) (finished : e source ≡ end.Finished out) where
  value_when : (d : Control) (x : Expr) → d.from ≡ source → d.when ≡ Cond x → value_in controls e d ≡ Some (truth x out)
  value_when d x of is =
      let s : e d.from ≡ end.Finished out = ap e of ∙ finished in
      rw (s, is) refl

  no_when : (d : Control) → is_true_when source out d ≡ false → d.from ≡ source → IsWhen d → value_in controls e d ≢ Some true
  no_when d h of when told =
      let itself : (d.from == source) ≡ true = elim (eqb_tells d.from source) [ inl is ↦ is.0 | inr other ↦ absurd (other.1 of) ] in
      let fails : truth when.0 out ≡ false = rw (itself, when.1) at h in
      let value = value_when d when.0 of when.1 in
      let wrong : Some (truth when.0 out) ≡ Some true = sym value ∙ told in
      let n : Some false ≡ Some true = rw fails at wrong in
      cc

  when_fails : (d : Control) → d.from ≡ source → (IsWhen d → value_in controls e d ≢ Some true) → (w : When) → d.when ≡ w → when_true w out ≡ false
  when_fails d of none Always is = refl
  when_fails d of none Otherwise is = refl
  when_fails d of none (Cond x) is = go (truth x out) refl
    where
      go : (b : Bool) → truth x out ≡ b → truth x out ≡ false
      go false fails = fails
      go true holds = absurd (none (x, is) (value_when d x of is ∙ ap Some holds))

  no_true : (d : Control) → (d.from ≡ source → IsWhen d → value_in controls e d ≢ Some true) → is_true_when source out d ≡ false
  no_true d none = elim (eqb_tells d.from source) [
    | inl is ↦ rw is.0 (when_fails d is.1 (none is.1) d.when refl)
    | inr other ↦ rw other.0 refl
  ]

otherwise_value : (controls : List Control) (e : Ends) (c : Control) → c.when ≡ Otherwise
    → (value_in controls e c ≡ Some true) ↔ (IsFinished (e c.from) × All (λ d. d.from ≡ c.from → IsWhen d → value_in controls e d ≢ Some true) controls)
otherwise_value controls e c is = (to (e c.from) refl, back)
  where
    Told : Type 0
    Told = IsFinished (e c.from) × All (λ d. d.from ≡ c.from → IsWhen d → value_in controls e d ≢ Some true) controls

    to : (s : SourceEnd) → e c.from ≡ s → value_in controls e c ≡ Some true → Told
    to end.Unsettled now h = let wrong : None ≡ Some true = rw now at h in let n : ⊥ = cc in absurd n
    to end.Dead now h = let wrong : Some false ≡ Some true = rw now at h in let n : ⊥ = cc in absurd n
    to (end.Finished out) now h =
        let told : Some (not (some_when controls c.from out)) ≡ Some true = rw (now, is) at h in
        let same : not (some_when controls c.from out) ≡ true = cc in (
          (out, now),
          All-weaker (λ d. is_true_when c.from out d ≡ false) (λ d. d.from ≡ c.from → IsWhen d → value_in controls e d ≢ Some true)
              (λ d fails. no_when controls e c.from out now d fails) controls (each_false (is_true_when c.from out) controls (not_true _ same)),
        )

    back : Told → value_in controls e c ≡ Some true
    back told =
        let out = told.0.0 in
        let none : some_when controls c.from out ≡ false = any_false (is_true_when c.from out) controls
        (All-weaker (λ d. d.from ≡ c.from → IsWhen d → value_in controls e d ≢ Some true) (λ d. is_true_when c.from out d ≡ false)
        (λ d h. no_true controls e c.from out told.0.1 d h) controls told.1) in
        rw (told.0.1, is, none) refl

pub connector_values : (controls : List Control) (e : Ends) → AreValues controls e
connector_values controls e = record {
  unknown = λ c. unknown_value controls c (e c.from);
  dead = λ c now. rw now refl;
  always = λ c out now is. rw (now, is) refl;
  condition = λ c out x now is. rw (now, is) refl;
  otherwise = λ c is. otherwise_value controls e c is;
}
