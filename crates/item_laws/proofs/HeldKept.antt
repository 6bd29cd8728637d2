-- Who performed what is settled stays the same where a hold is changed.
use Rattle.std.proofs.Common.{◌≡◌, ℕ, List, [], ◌∷◌, ◌++◌, Some, refl, ap, sym, ◌∙◌}
use Rattle.std.proofs.lemmas.Option.{none-some, option_and_then_some}
use Rattle.activity_states.specs.States.{State, waiting, dead, opened, finished, performer_of}
use Rattle.flow_model.specs.declared.graphs.Graph.{Graph}
use Rattle.flow_model.specs.declared.graphs.Template.{Template}
use Rattle.flow_model.specs.declared.instances.Part.{Part}
use Rattle.item_laws.proofs.Entering.{entry_in, inside_of, kept_entries, inside_entries}
use Rattle.item_laws.proofs.HeldItem.{front_and_last}
use Rattle.item_laws.proofs.Kept.{keeps_state}
use Rattle.item_laws.proofs.ScopesInside.{IsInside}
use Rattle.item_laws.specs.Performers.{KeepsPerformers}
use Rattle.navigator.specs.Events.{ChangesState as ChangesStateOf, ChangesAt}
use Rattle.navigator.specs.Holding.{held_by, held_state, held_at, SetsHold, HoldsChanged}
use Rattle.navigator.specs.Items.{Entry, stand, into, entry_at}
use Rattle.navigator.specs.Steps.{fields, with_state, changed_at}
use Rattle.navigator.specs.declared.instance.HoldChange.{HoldChange}
use Rattle.navigator.specs.declared.instance.HoldChange.TheVariants.{Person, Agent, Nobody}
use Rattle.navigator.specs.declared.scopes.ActivityState.{ActivityState, Program, Nested}
use Rattle.navigator.specs.declared.scopes.ScopeState.{ScopeState}

-- another hold completes nothing
performer_held : (change : HoldChange) (p : State) → performer_of (held_by change p) ≡ performer_of p
performer_held (Person who) waiting = refl
performer_held (Person who) dead = refl
performer_held (Person who) (opened cs hold takes since) = refl
performer_held (Person who) (finished cs) = refl
performer_held Agent waiting = refl
performer_held Agent dead = refl
performer_held Agent (opened cs hold takes since) = refl
performer_held Agent (finished cs) = refl
performer_held Nobody waiting = refl
performer_held Nobody dead = refl
performer_held Nobody (opened cs hold takes since) = refl
performer_held Nobody (finished cs) = refl

module _ (ts : List Template) (change : HoldChange) (take : ℕ) where
  -- the scope of the item
  held_here : (q : Part) (g : Graph) (s s' : ScopeState) (e : Entry) → entry_at ts (q ∷ []) (stand g s) ≡ Some e → SetsHold q.name change take g s s' → KeepsPerformers ts g s s'
  held_here q g s s' e there sets =
      let one = entry_in (stand g s) q e there in
      let new : fields s' ≡ with_state e.number (Program (held_by change e.state)) (fields s)
      = sets.scope ∙ ap (λ o. held_at change o (fields s)) one.place ∙ ap (λ o. changed_at (held_state change) e.number o (fields s)) one.state in
      kept_entries ts g s s'
      (keeps_state e.number (Program e.state) (Program (held_by change e.state)) (fields s) (fields s') one.state (λ j t found. absurd (none-some t found)) (performer_held change e.state) new)

  -- one step down
  step_kept : (x z : Part) (zs qs : List Part) (c : Graph → ScopeState → ScopeState → Type 0) (g : Graph) (s s' : ScopeState) (e : Entry) → entry_at ts (x ∷ (z ∷ zs)) (stand g s) ≡ Some e
      → ChangesAt ts c (x ∷ qs) g s s' → ((h : Graph) (t t' : ScopeState) → entry_at ts (z ∷ zs) (stand h t) ≡ Some e → ChangesAt ts c qs h t t' → KeepsPerformers ts h t t') → KeepsPerformers ts g s s'
  step_kept x z zs qs c g s s' e there changed below =
      option_and_then_some (entry_at ts (z ∷ zs)) (into ts (stand g s) x) e there (λ st into_is found.
      let inside = inside_of ts g s x st into_is in
      let now = changed inside.place inside.number inside.activity st.graph inside.nested st.scope inside.named inside.is inside.runs inside.counted inside.stated inside.found in
      by st.graph st.scope inside found now.state now.inside now.around)
    where
      by : (h : Graph) (inner : ScopeState) (inside : IsInside ts g s x h inner) → entry_at ts (z ∷ zs) (stand h inner) ≡ Some e → (state : ActivityState)
          → ChangesStateOf (ChangesAt ts c qs h) inside.number inner inside.nested state → fields s' ≡ with_state inside.place state (fields s) → KeepsPerformers ts g s s'
      by h inner inside found (Program w) wrong around = absurd wrong
      by h inner inside found (Nested n') is around = inside_entries ts g s s' x h inner is.next inside n' is.scopes around (below h inner is.next found is.changes)

  held_along : (parts : List Part) (q : Part) (g : Graph) (s s' : ScopeState) (e : Entry) → entry_at ts (parts ++ q ∷ []) (stand g s) ≡ Some e → ChangesAt ts (SetsHold q.name change take) parts g s s'
      → KeepsPerformers ts g s s'
  held_along [] q g s s' e there changed = held_here q g s s' e there changed
  held_along (x ∷ []) q g s s' e there changed = step_kept x q [] [] (SetsHold q.name change take) g s s' e there changed (λ h t t' found inside. held_along [] q h t t' e found inside)
  held_along (x ∷ (y ∷ ys)) q g s s' e there changed =
      step_kept x y (ys ++ q ∷ []) (y ∷ ys) (SetsHold q.name change take) g s s' e there changed (λ h t t' found inside. held_along (y ∷ ys) q h t t' e found inside)

  pub holds_keep : (item : List Part) (g : Graph) (s s' : ScopeState) (e : Entry) → entry_at ts item (stand g s) ≡ Some e → HoldsChanged ts item change g s s' take → KeepsPerformers ts g s s'
  holds_keep [] g s s' e there changed = absurd (none-some e there)
  holds_keep (q ∷ qs) g s s' e there changed =
      let split = front_and_last q qs in
      held_along split.0 split.1 g s s' e (ap (λ ps. entry_at ts ps (stand g s)) (sym split.2) ∙ there) (changed split.0 split.1 split.2)
