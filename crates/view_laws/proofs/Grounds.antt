-- What counts in a scope, counts only of attempts that have started.
use Rattle.fate_laws.proofs.ItemsBelow.{Covers, covers_at, strip, strip_at_most}
use Rattle.fate_laws.specs.WellFormed.{Well}
use Rattle.flow_model.specs.Scopes.{Known, at}
use Rattle.flow_model.specs.declared.graphs.Container.{Container}
use Rattle.flow_model.specs.declared.graphs.Graph.{Graph}
use Rattle.flow_model.specs.declared.graphs.Template.{Template}
use Rattle.flow_model.specs.declared.instances.Part.{Part}
use Rattle.std.proofs.Common.{◌≡◌, ℕ, suc, ◌≤◌, Bool, true, false, List, [], ◌∷◌, length, refl, Option, Some, None, arith, subst}
use Rattle.view_laws.proofs.DueParts.{AreDue, due_inside, due_started}
use Rattle.view_laws.proofs.StartedParts.{HasStart, HasScope, StartsAlong, start_of, scope_one}
use Rattle.view_laws.specs.Coming.{IsNew, IsByMessages}
use Rattle.view_laws.specs.Messages.{Note, BeginNote, SignalNote, EndNote}
use Rattle.view_laws.specs.Runs.{Root}

module _ (r : Root) (qf : Note → ℕ) where
  -- what counts of messages is due, and what is given was of items that have started, no more than all completions
  pub record IsGrounded (ts : List Template) (depth : ℕ) (k : Known) (g : Graph) (i : Container) : Type 0 where
    pub due : AreDue r qf ts depth k g i
    pub along : (q : Part) (p : List Part) (out : Container) → k.given (q ∷ p) ≡ Some out → StartsAlong ts depth k g i (q ∷ p)
    pub items : List (List Part)
    pub covers : Covers k items
    pub fewer : length items ≤ k.most
    pub messages : IsByMessages k

  -- so it is in a scope that has started
  pub grounded_inside : (ts : List Template) (depth : ℕ) (k : Known) (g : Graph) (i : Container) → Well ts (suc depth) g → IsGrounded ts (suc depth) k g i
      → (q : Part) (scope : HasScope ts (suc depth) k g i q) → IsGrounded ts depth (at q k) scope.graph scope.input
  grounded_inside ts depth k g i well ground q scope = record {
    due = due_inside r qf ts depth k g i well ground.due q scope;
    along = λ s p out given.
        let there = ground.along q (s ∷ p) out given in
        let same = scope_one ts (suc depth) k g i well.named q there.0 scope in
        let P : Graph → Type 0 = λ h. StartsAlong ts depth (at q k) h there.0.input (s ∷ p) in
        let Q : Container → Type 0 = λ j. StartsAlong ts depth (at q k) scope.graph j (s ∷ p) in
        subst Q same.1 (subst P same.0 there.1);
    items = strip q ground.items;
    covers = covers_at k ground.items q ground.covers;
    fewer = let less = strip_at_most q ground.items in let all = ground.fewer in omega arith;
    messages = λ p. ground.messages (q ∷ p);
  }

  -- nothing counts of an attempt that hasn't started
  pub new_of : (ts : List Template) (depth : ℕ) (k : Known) (g : Graph) (i : Container) → IsGrounded ts depth k g i → (q : Part) → (HasStart ts depth k g i q → ⊥) → IsNew k q
  new_of ts depth k g i ground q none = record {
    ungiven = ungiven (k.given (q ∷ [])) refl;
    unclosed = unclosed (k.closed (q ∷ [])) refl;
    untouched = record { unbegun = unbegun (k.begun (q ∷ [])) refl; unsent = λ a b. unsent a b (k.sent (q ∷ []) a b None) refl };
  }
    where
      scope_none : (d : ℕ) × (depth ≡ suc d) × HasScope ts depth k g i q → ⊥
      scope_none there = none (start_of ts depth k g i q there.2)

      ungiven : (o : Option Container) → k.given (q ∷ []) ≡ o → k.given (q ∷ []) ≡ None
      ungiven None is = is
      ungiven (Some out) is = absurd (none (ground.along q [] out is))

      unclosed : (b : Bool) → k.closed (q ∷ []) ≡ b → k.closed (q ∷ []) ≡ false
      unclosed false is = is
      unclosed true is = absurd (scope_none (due_started r qf ts depth k g i q (EndNote []) (ground.due.ends q [] is)))

      unbegun : (b : Bool) → k.begun (q ∷ []) ≡ b → k.begun (q ∷ []) ≡ false
      unbegun false is = is
      unbegun true is = absurd (scope_none (due_started r qf ts depth k g i q (BeginNote []) (ground.due.begins q [] is)))

      unsent : (a b : ℕ) (o : Option Bool) → k.sent (q ∷ []) a b None ≡ o → k.sent (q ∷ []) a b None ≡ None
      unsent a b None is = is
      unsent a b (Some v) is = absurd (scope_none (due_started r qf ts depth k g i q (SignalNote [] a b v) (ground.due.signals (q ∷ []) a b v None is)))
