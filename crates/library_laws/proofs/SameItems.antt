-- A path leads to the same item in a larger library.
use Rattle.std.proofs.Common.{◌≡◌, ℕ, zero, suc, List, [], ◌∷◌, Option, Some, None, refl, ap, ◌∙◌}
use Rattle.std.proofs.lemmas.Option.{none-some, option_and_then_some}
use Rattle.std.specs.Prelude.{slice_get, option_and_then}
use Rattle.flow_model.specs.ScopeContainers.{graph_in}
use Rattle.flow_model.specs.declared.graphs.Graph.{Graph, out-Graph}
use Rattle.flow_model.specs.declared.graphs.Template.{Template}
use Rattle.flow_model.specs.declared.instances.Part.{Part}
use Rattle.navigator.specs.Items.{Stand, both, into_place, into, entry_at}
use Rattle.navigator.specs.Reading.{place_of, inner_of}
use Rattle.navigator.specs.declared.scopes.ScopeState.{ScopeState}
use Rattle.library_laws.proofs.SameGraphs.{and_then_same, HasSameGraphs, ServedInside, same_graphs}
use Rattle.library_laws.specs.Larger.{Agrees}

both_graph : (o : Option Graph) (s : Option ScopeState) (x : Stand) → both o s ≡ Some x → o ≡ Some x.graph
both_graph None s x is = absurd (none-some x is)
both_graph (Some h) None x is = absurd (none-some x is)
both_graph (Some h) (Some s) x is = ap (option_and_then (λ y. Some y.graph)) is

module _ (ts ts' : List Template) (here : Stand) (inner : Graph → Type 0) (inside : HasSameGraphs ts ts' here.graph inner) where
  into_same : (q : Part) → into ts' here q ≡ into ts here q
  into_same q =
      and_then_same (place_of here.graph q.name) (into_place ts here q.attempt) (into_place ts' here q.attempt) (λ a found.
      and_then_same (slice_get (out-Graph here.graph).activities a)
      (λ activity. both (graph_in ts activity.work) (inner_of here.scope a q.attempt))
      (λ activity. both (graph_in ts' activity.work) (inner_of here.scope a q.attempt))
      (λ activity is. ap (λ o. both o (inner_of here.scope a q.attempt)) (inside.graphs a activity is)))

  into_inside : (q : Part) (x : Stand) → into ts here q ≡ Some x → inner x.graph
  into_inside q x of =
      option_and_then_some (into_place ts here q.attempt) (place_of here.graph q.name) x of (λ a found there.
      option_and_then_some (λ activity. both (graph_in ts activity.work) (inner_of here.scope a q.attempt)) (slice_get (out-Graph here.graph).activities a) x there
      (λ activity is both_is. inside.inside a activity is x.graph (both_graph (graph_in ts activity.work) (inner_of here.scope a q.attempt) x both_is)))

pub item_same : (ts ts' : List Template) → Agrees ts ts' → (item : List Part) (levels : ℕ) (here : Stand) → ServedInside ts levels here.graph
    → entry_at ts' item here ≡ entry_at ts item here
item_same ts ts' agrees [] levels here served = refl
item_same ts ts' agrees (q ∷ []) levels here served = refl
item_same ts ts' agrees (q ∷ (r ∷ qs)) zero here served = absurd served
item_same ts ts' agrees (q ∷ (r ∷ qs)) (suc levels) here served =
    let inside : HasSameGraphs ts ts' here.graph (ServedInside ts levels) = same_graphs ts ts' levels here.graph agrees served in
    ap (option_and_then (entry_at ts' (r ∷ qs))) (into_same ts ts' here (ServedInside ts levels) inside q)
    ∙ and_then_same (into ts here q) (entry_at ts (r ∷ qs)) (entry_at ts' (r ∷ qs))
    (λ x of. item_same ts ts' agrees (r ∷ qs) levels x (into_inside ts ts' here (ServedInside ts levels) inside q x of))
