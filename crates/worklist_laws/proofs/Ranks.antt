-- Ranks: where the names of two paths lead to activities, equal ranks are those of one path.
use Rattle.std.proofs.Common.{◌≡◌, ℕ, Bool, true, false, cond, List, [], ◌∷◌, Option, Some, None, refl, ap, sym, ◌∙◌, subst}
use Rattle.std.specs.Prelude.{slice_get, option_and_then, unwrap_or, bytes_eq}
use Rattle.std.proofs.lemmas.Option.{none-some, option_and_then_some}
use Rattle.flow_core.specs.Shelving.{rank_on, ranked}
use Rattle.flow_model.specs.ScopeContainers.{graph_in}
use Rattle.flow_model.specs.Scopes.{part}
use Rattle.flow_model.specs.declared.graphs.Activity.{Activity}
use Rattle.flow_model.specs.declared.graphs.Graph.{Graph, out-Graph}
use Rattle.flow_model.specs.declared.graphs.Template.{Template}
use Rattle.flow_model.specs.declared.instances.Part.{Part}
use Rattle.flow_model.specs.declared.names.Name.{Name}
use Rattle.item_laws.proofs.OneState.{found_name}
use Rattle.navigator.proofs.Replaced.{found_at}
use Rattle.navigator.specs.Items.{Entry, Stand, stand, both, into_place, into, entry, entry_at}
use Rattle.navigator.specs.Reading.{place_of, inner_of}
use Rattle.navigator.specs.Showing.{graph_under}
use Rattle.navigator.specs.declared.scopes.ScopeState.{ScopeState, out-ScopeState}

-- ---- names that lead

-- the graph one step down, or this one
abbrev pub below : List Template → Graph → ℕ → Graph
below ts g a = unwrap_or (graph_under ts g (Some a)) g

-- the names of the parts lead to activities
abbrev pub Leads : List Template → List Part → Graph → Type 0
Leads ts [] g = Unit {0}
Leads ts (q ∷ p) g = (a : ℕ) × (place_of g q.name ≡ Some a) × Leads ts p (below ts g a)

rank_is : (ts : List Template) (q : Part) (p : List Part) (g : Graph) (a : ℕ) → place_of g q.name ≡ Some a → rank_on ts (q ∷ p) g ≡ a ∷ q.attempt ∷ rank_on ts p (below ts g a)
rank_is ts q p g a is = ap (ranked q.attempt (λ b. rank_on ts p (below ts g b))) is

-- two names that lead to one place are one
name_one : (g : Graph) (name name' : Name) (a : ℕ) → place_of g name ≡ Some a → place_of g name' ≡ Some a → name ≡ name'
name_one g name name' a is is' =
    let there = found_at (λ (x : Activity). bytes_eq x.name name) (out-Graph g).activities a is in
    sym (found_name g name a there.0 is there.1) ∙ found_name g name' a there.0 is' there.1

head_one : (a b : ℕ) (xs ys : List ℕ) → a ∷ xs ≡ b ∷ ys → a ≡ b
head_one a b xs ys same = cc

tail_one : (a b : ℕ) (xs ys : List ℕ) → a ∷ xs ≡ b ∷ ys → xs ≡ ys
tail_one a b xs ys same = cc

pub rank_one : (ts : List Template) (p p' : List Part) (g : Graph) → Leads ts p g → Leads ts p' g → rank_on ts p g ≡ rank_on ts p' g → p ≡ p'
rank_one ts [] [] g leads leads' same = refl
rank_one ts [] (q ∷ p') g leads leads' same = let n : [] ≡ leads'.0 ∷ q.attempt ∷ rank_on ts p' (below ts g leads'.0) = same ∙ rank_is ts q p' g leads'.0 leads'.1 in let m : ⊥ = cc in absurd m
rank_one ts (q ∷ p) [] g leads leads' same = let n : leads.0 ∷ q.attempt ∷ rank_on ts p (below ts g leads.0) ≡ [] = sym (rank_is ts q p g leads.0 leads.1) ∙ same in let m : ⊥ = cc in absurd m
rank_one ts (q ∷ p) (r ∷ p') g leads leads' same =
    let a = leads.0 in
    let b = leads'.0 in
    let ranks : a ∷ q.attempt ∷ rank_on ts p (below ts g a) ≡ b ∷ r.attempt ∷ rank_on ts p' (below ts g b) = sym (rank_is ts q p g a leads.1) ∙ same ∙ rank_is ts r p' g b leads'.1 in
    let places : a ≡ b = head_one a b (q.attempt ∷ rank_on ts p (below ts g a)) (r.attempt ∷ rank_on ts p' (below ts g b)) ranks in
    let later = tail_one a b (q.attempt ∷ rank_on ts p (below ts g a)) (r.attempt ∷ rank_on ts p' (below ts g b)) ranks in
    let attempts : q.attempt ≡ r.attempt = head_one q.attempt r.attempt (rank_on ts p (below ts g a)) (rank_on ts p' (below ts g b)) later in
    let behind = tail_one q.attempt r.attempt (rank_on ts p (below ts g a)) (rank_on ts p' (below ts g b)) later in
    let names : q.name ≡ r.name = name_one g q.name r.name b (leads.1 ∙ ap Some places) leads'.1 in
    let first : q ≡ r = ap (λ n. part n q.attempt) names ∙ ap (part r.name) attempts in
    let rest : p ≡ p' = rank_one ts p p' (below ts g b) (subst (λ n. Leads ts p (below ts g n)) places leads.2) leads'.2 (ap (λ n. rank_on ts p (below ts g n)) (sym places) ∙ behind) in
    ap (λ (x : Part). x ∷ p) first ∙ ap (λ (xs : List Part). r ∷ xs) rest

-- ---- items that are there

both_graph : (h : Option Graph) (t : Option ScopeState) (x : Stand) → both h t ≡ Some x → h ≡ Some x.graph
both_graph None t x is = absurd (none-some x is)
both_graph (Some h) None x is = absurd (none-some x is)
both_graph (Some h) (Some t) x is = let same : stand h t ≡ x = cc in ap (λ (s : Stand). Some s.graph) same

pub entry_leads : (ts : List Template) (item : List Part) (here : Stand) (e : Entry) → entry_at ts item here ≡ Some e → Leads ts item here.graph
entry_leads ts [] here e is = tt
entry_leads ts (q ∷ []) here e is = by (out-ScopeState here.scope).begun is
  where
    by : (b : Bool) → cond b (option_and_then (λ a. entry here q.attempt a (slice_get (out-Graph here.graph).activities a) (slice_get (out-ScopeState here.scope).states.items a)) (place_of here.graph q.name)) None ≡ Some e
        → Leads ts (q ∷ []) here.graph
    by false found = absurd (none-some e found)
    by true found =
        option_and_then_some (λ a. entry here q.attempt a (slice_get (out-Graph here.graph).activities a) (slice_get (out-ScopeState here.scope).states.items a)) (place_of here.graph q.name) e found
        (λ a place there. (a, place, tt))
entry_leads ts (q ∷ (r ∷ qs)) here e is =
    option_and_then_some (entry_at ts (r ∷ qs)) (into ts here q) e is (λ x found entered.
    option_and_then_some (into_place ts here q.attempt) (place_of here.graph q.name) x found (λ a place there.
    option_and_then_some (λ activity. both (graph_in ts activity.work) (inner_of here.scope a q.attempt)) (slice_get (out-Graph here.graph).activities a) x there (λ activity at is_both.
    let graph : graph_in ts activity.work ≡ Some x.graph = both_graph (graph_in ts activity.work) (inner_of here.scope a q.attempt) x is_both in
    let under : below ts here.graph a ≡ x.graph = ap (λ o. unwrap_or (option_and_then (λ (y : Activity). graph_in ts y.work) o) here.graph) at ∙ ap (λ o. unwrap_or o here.graph) graph in
    (a, place, subst (Leads ts (r ∷ qs)) (sym under) (entry_leads ts (r ∷ qs) x e entered)))))
