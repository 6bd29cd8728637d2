-- What holds of the root's graph, and passes on to each graph that an activity runs, holds of the graph of each scope
-- that starts: so it is of activities as they are read.
use Rattle.std.proofs.Common.{◌≡◌, ℕ, zero, suc, List, [], ◌∷◌, reverse, Some, refl, subst}
use Rattle.std.specs.Prelude.{slice_get}
use Rattle.std.proofs.lemmas.Option.{none-some, same_Some}
use Rattle.flow_model.specs.declared.graphs.Activity.{Activity}
use Rattle.flow_model.specs.declared.graphs.Container.{Container}
use Rattle.flow_model.specs.declared.graphs.Graph.{Graph, out-Graph}
use Rattle.flow_model.specs.declared.graphs.Template.{Template}
use Rattle.flow_model.specs.declared.instances.Part.{Part}
use Rattle.flow_model.specs.ScopeContainers.{graph_in}
use Rattle.flow_model.specs.Scopes.{at}
use Rattle.certificates.specs.Told.{Basis, activity_at}
use Rattle.certificates.proofs.Growth.{and_then_parts, map_parts}
use Rattle.certificates.proofs.Laid.{stands}
use Rattle.certificate_laws.specs.Right.{root_in}
use Rattle.certificate_laws.specs.Standings.{Standing, input_in, scope_back, scope_in}
use Rattle.certificate_laws.specs.Standings.{step_at, step_by, step_down, step_to}
use Rattle.explanation_laws.specs.Certified.{AreReadScopes, HasReadActivities}

-- ---- from the root's graph to those of the scopes

-- the scope of a step from a standing, with this graph and input
abbrev begins : ℕ → Part → Standing → Graph → Container → Standing
begins d q st h i = record { depth = d; known = at q st.known; graph = h; input = i }

-- a property of graphs, each with how deep scopes lie inside it at most, passes on to what their activities run
module _ (ts : List Template) (P : ℕ → Graph → Type 0)
    (passes : (d : ℕ) (g : Graph) → P (suc d) g → (a : ℕ) (x : Activity) → slice_get (out-Graph g).activities a ≡ Some x
    → (h : Graph) → graph_in ts x.work ≡ Some h → P d h) where
  one_has : (q : Part) (st : Standing) → P st.depth st.graph → (d : ℕ) → st.depth ≡ d → (scope : Standing)
      → step_at ts q st d ≡ Some scope → P scope.depth scope.graph
  one_has q st has zero deep scope step = absurd (none-some scope step)
  one_has q st has (suc d) deep scope step =
      let found = and_then_parts (step_by ts d q st) (activity_at st.graph q.name) scope step in
      let runs = and_then_parts (step_to ts d q st found.0) (graph_in ts found.0.activity.work) scope found.2 in
      let input = map_parts (begins d q st runs.0) (input_in ts st found.0 q.attempt) scope runs.2 in
      let placed = stands st.graph q.name found.0 found.1 in
      subst (λ (u : Standing). P u.depth u.graph) input.2
      (passes d st.graph (subst (λ (n : ℕ). P n st.graph) deep has) found.0.place found.0.activity placed runs.0 runs.1)

  module _ (root : Standing) (first : P root.depth root.graph) where
    back_has : (path : List Part) (scope : Standing) → scope_back ts root path ≡ Some scope → P scope.depth scope.graph
    back_has [] scope there = subst (λ (u : Standing). P u.depth u.graph) (same_Some root scope there) first
    back_has (q ∷ path) scope there =
        let outside = and_then_parts (step_down ts q) (scope_back ts root path) scope there in
        one_has q outside.0 (back_has path outside.0 outside.1) outside.0.depth refl scope outside.2

    pub scopes_have : (path : List Part) (scope : Standing) → scope_in ts root path ≡ Some scope
        → P scope.depth scope.graph
    scopes_have path scope there = back_has (reverse path) scope there

-- ---- activities as they are read

-- a graph has activities as they are read, and what these run has this property
pub record IsReadGraph (ts : List Template) (g : Graph) (inner : Graph → Type 0) : Type 0 where
  pub activities : HasReadActivities g
  pub inside : (a : ℕ) (x : Activity) → slice_get (out-Graph g).activities a ≡ Some x
      → (h : Graph) → graph_in ts x.work ≡ Some h → inner h

-- a graph has such activities, and so have those inside, to this depth
abbrev pub ReadTo : List Template → ℕ → Graph → Type 0
ReadTo ts zero g = IsReadGraph ts g (λ h. Unit {0})
ReadTo ts (suc depth) g = IsReadGraph ts g (ReadTo ts depth)

module _ (ts : List Template) where
  read_here : (depth : ℕ) (g : Graph) → ReadTo ts depth g → HasReadActivities g
  read_here zero g has = has.activities
  read_here (suc depth) g has = has.activities

-- the scopes of a root have, where its graph and those inside it have
pub read_scopes : (b : Basis) (g : Graph) (depth most : ℕ) → ReadTo b.templates depth g → AreReadScopes b g depth most
read_scopes b g depth most has path scope there =
    read_here b.templates scope.depth scope.graph
    (scopes_have b.templates (ReadTo b.templates) (λ d k all. all.inside) (root_in b g depth most) has path scope there)
