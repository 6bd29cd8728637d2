-- What an event gives that settles one activity, begins its next scope, or changes only what it shows by itself.
use Rattle.std.proofs.Common.{◌≡◌, ℕ, ◌+◌, ◌-◌, ◌==◌, Bool, true, false, if◌then◌else◌, List, [], ◌∷◌, ◌++◌, length, Option, Some, None, refl, ap, sym, ◌∙◌, subst, inl, inr}
use Rattle.std.specs.Prelude.{slice_get, slice_set}
use Rattle.fate_laws.specs.WellFormed.{Well}
use Rattle.flow_model.specs.Rows.{below}
use Rattle.flow_model.specs.ScopeContainers.{graph_in}
use Rattle.flow_model.specs.Scopes.{Known, at, part, tree_ends}
use Rattle.flow_model.specs.declared.graphs.Activity.{Activity}
use Rattle.flow_model.specs.declared.graphs.Container.{Container}
use Rattle.flow_model.specs.declared.graphs.Graph.{Graph, out-Graph}
use Rattle.flow_model.specs.declared.graphs.Template.{Template}
use Rattle.flow_model.specs.declared.instances.Message.TheVariants.{Begin}
use Rattle.flow_model.specs.declared.instances.Part.{Part}
use Rattle.flow_model.specs.declared.instances.Path.{Path}
use Rattle.flow_model.specs.declared.instances.SourceEnd.{SourceEnd}
use Rattle.flow_model.specs.declared.instances.SourceEnd.TheVariants.{Unsettled}
use Rattle.navigator.proofs.DueParts.{scopes_in}
use Rattle.navigator.proofs.FreshHere.{IsGivenAt, Grown}
use Rattle.navigator.proofs.SettledHere.{grown_one, opens_given, settles_given}
use Rattle.navigator.proofs.ShownAgain.{IsSameInside}
use Rattle.navigator.proofs.ToldNotes.{AreTold, none_told}
use Rattle.navigator.specs.Events.{nothing}
use Rattle.view_laws.specs.NextEvents.{Aimed}
use Rattle.navigator.specs.Serving.{Served}
use Rattle.navigator.specs.Steps.{Told, Fields, fields, with_state, settled, tell_settled, end_after, BeginsNext, GrowsState}
use Rattle.navigator.specs.Views.{Shows}
use Rattle.navigator.specs.declared.scopes.ActivityState.{ActivityState, Program, Nested}
use Rattle.navigator.specs.declared.scopes.NestedState.{NestedState, out-NestedState}
use Rattle.navigator.specs.declared.scopes.ScopeState.{ScopeState, out-ScopeState}
use Rattle.view_laws.specs.Messages.{BeginNote}

-- but for what is known of its connectors, a scope is of these fields
pub record IsOf (s : ScopeState) (f : Fields) : Type 0 where
  pub begun : f.begun ≡ (out-ScopeState s).begun
  pub ends : f.ends ≡ (out-ScopeState s).ends.items
  pub states : f.states ≡ (out-ScopeState s).states.items
  pub unsettled : f.unsettled ≡ (out-ScopeState s).unsettled

-- a further scope stands behind the others
pub grown_scopes : (next : ScopeState) (n : NestedState) (state : ActivityState) → GrowsState next (Nested n) state → scopes_in state ≡ (out-NestedState n).scopes.items ++ next ∷ []
grown_scopes next n (Program p) grows = absurd grows
grown_scopes next n (Nested n') grows = grows.scopes

-- the BEGIN of an attempt is told
pub told_begin : (g : Graph) (path : Path) (r : Part) → AreTold g path (Begin (below path r) ∷ []) (BeginNote (r ∷ []) ∷ [])
told_begin g path r = (BeginNote (r ∷ []), [], refl, (r ∷ [], refl, refl, refl), refl)

grown_none : (ts : List Template) (states states' : List ActivityState) (a : ℕ) → states' ≡ states → (x : ℕ) (y : Activity) (was now : ActivityState)
    → slice_get states x ≡ Some was → slice_get states' x ≡ Some now → Grown ts y was now (if x == a then None else None)
grown_none ts states states' a same x y was now before after =
    let both : Some now ≡ Some was = sym after ∙ ap (λ l. slice_get l x) same ∙ before in
    let that : now ≡ was = cc in
    inl (ap scopes_in that, either None (x == a))
  where
    either : (r : Option (List Part)) (b : Bool) → (if b then r else r) ≡ r
    either r true = refl
    either r false = refl

module _ (ts : List Template) (depth : ℕ) (k k' : Known) (g : Graph) (input : Container) (s s' : ScopeState) (path : Path) (tells : Told)
    (well : Well ts depth g) (served : Served ts depth g) (aimed : Aimed ts depth g) (shows : Shows ts depth k g input s) (shows' : Shows ts depth k' g input s')
    (inside : (r : Part) → IsSameInside (at r k) (at r k')) (a : ℕ) (activity : Activity) (there : slice_get (out-Graph g).activities a ≡ Some activity) (old : Fields) (of : IsOf s old) where
  -- nothing follows from it
  pub still_given : fields s' ≡ old → tells ≡ nothing → IsGivenAt ts depth k k' g input path tells
  still_given same silent =
      opens_given ts depth k k' g input s s' path tells well served aimed shows shows' inside a activity there None
      (ap (λ (f : Fields). f.begun) same ∙ of.begun)
      (λ x y was now is before after. grown_none ts (out-ScopeState s).states.items (out-ScopeState s').states.items a (ap (λ (f : Fields). f.states) same ∙ of.states) x y was now before after)
      (none_told g path tells.begins (ap (λ (t : Told). t.begins) silent))
      (ap (λ (f : Fields). f.ends) same ∙ of.ends) (ap (λ (f : Fields). f.unsettled) same ∙ of.unsettled) (ap (λ (t : Told). t.signals) silent) (ap (λ (t : Told). t.ends) silent)

  module _ (was : ActivityState) (stands : slice_get (out-ScopeState s).states.items a ≡ Some was) where
    -- only its state changes, and has the scopes that it had
    pub state_given : (state : ActivityState) → scopes_in state ≡ scopes_in was → fields s' ≡ with_state a state old → tells.signals ≡ [] → tells.begins ≡ [] → tells.ends ≡ []
        → IsGivenAt ts depth k k' g input path tells
    state_given state same is signals begins ends =
        opens_given ts depth k k' g input s s' path tells well served aimed shows shows' inside a activity there None
        (ap (λ (f : Fields). f.begun) is ∙ of.begun)
        (grown_one ts g (out-ScopeState s).states.items (out-ScopeState s').states.items a activity was state None there stands
        (ap (λ (f : Fields). f.states) is ∙ ap (λ l. slice_set l a state) of.states) (inl (same, refl)))
        (none_told g path tells.begins begins) (ap (λ (f : Fields). f.ends) is ∙ of.ends) (ap (λ (f : Fields). f.unsettled) is ∙ of.unsettled) signals ends

    -- it is settled, and has the scopes that it had
    pub settled_given : (now : SourceEnd) (state : ActivityState) → scopes_in state ≡ scopes_in was → tree_ends ts depth k g input a ≡ Unsettled → (out-ScopeState s).begun ≡ true
        → fields s' ≡ settled a now (with_state a state old) → tells ≡ tell_settled g path a now (old.unsettled - 1) nothing → IsGivenAt ts depth k k' g input path tells
    settled_given now state same unsettled begun is told =
        settles_given ts depth k k' g input s s' path tells well served aimed shows shows' inside a activity there None
        (ap (λ (f : Fields). f.begun) is ∙ of.begun)
        (grown_one ts g (out-ScopeState s).states.items (out-ScopeState s').states.items a activity was state None there stands
        (ap (λ (f : Fields). f.states) is ∙ ap (λ l. slice_set l a state) of.states) (inl (same, refl)))
        (none_told g path tells.begins (ap (λ (t : Told). t.begins) told))
        now unsettled (ap (λ (f : Fields). f.begun) is ∙ of.begun ∙ begun)
        (ap (λ (f : Fields). f.ends) is ∙ ap (λ l. slice_set l a now) of.ends) (ap (λ (f : Fields). f.unsettled) is ∙ ap (λ m. m - 1) of.unsettled)
        (ap (λ (t : Told). t.signals) told) (ap (λ (t : Told). t.ends) told ∙ ap (λ m. end_after path (m - 1)) of.unsettled)

  -- its next scope is there, and its BEGIN goes out
  pub next_given : (n : NestedState) → slice_get (out-ScopeState s).states.items a ≡ Some (Nested n) → (h : Graph) (i : Container) → graph_in ts activity.work ≡ Some h
      → BeginsNext h i path a activity (Nested n) old (fields s') nothing tells → IsGivenAt ts depth k k' g input path tells
  next_given n stands h i runs is =
      let r : Part = part activity.name (length (out-NestedState n).scopes.items + 1) in
      opens_given ts depth k k' g input s s' path tells well served aimed shows shows' inside a activity there (Some (r ∷ []))
      (ap (λ (f : Fields). f.begun) is.scope ∙ of.begun)
      (grown_one ts g (out-ScopeState s).states.items (out-ScopeState s').states.items a activity (Nested n) is.state (Some (r ∷ [])) there stands
      (ap (λ (f : Fields). f.states) is.scope ∙ ap (λ l. slice_set l a is.state) of.states)
      (inr (h, is.next, runs, is.fresh.begun, grown_scopes is.next n is.state is.grows, refl)))
      (subst (λ ms. AreTold g path ms (BeginNote (r ∷ []) ∷ [])) (sym (ap (λ (t : Told). t.begins) is.tells)) (told_begin g path r))
      (ap (λ (f : Fields). f.ends) is.scope ∙ of.ends) (ap (λ (f : Fields). f.unsettled) is.scope ∙ of.unsettled)
      (ap (λ (t : Told). t.signals) is.tells) (ap (λ (t : Told). t.ends) is.tells)
