-- Connectors that lie on closed walks, by the groups of the activities.
use Rattle.std.proofs.Common.{◌≡◌, ℕ, List, [], get_or, Some, None, false, true, refl, sym, subst, ◌∙◌, inl, inr, arith}
use Rattle.std.specs.List.{All, Contains}
use Rattle.std.proofs.lemmas.Bool.{eqb-true, eqb-false}
use Rattle.std.proofs.lemmas.List.Elements.{Contains-get_or}
use Rattle.std.specs.Prelude.{slice_index}
use Rattle.flow_model.specs.declared.trees.ControlTree.{ControlTree}
use Rattle.flow_model.specs.declared.trees.ElementTree.{ElementTree}
use Rattle.graph_check.specs.Components.{Leads, same_number}
use Rattle.graph_check.specs.Walks.{HasEdge, Reaches}
use Rattle.connector_rules.specs.Connectors.{IsClosing, IsOnCycle}
use Rattle.connector_rules.specs.EdgesGrouped.{AreGroupsOf}
use Rattle.text_graphs.specs.ClosedWalks.{IsAcyclic}
use Rattle.text_graphs.specs.Graphs.{graph_at}
use Rattle.text_graphs.specs.Places.{IsLeastOf, AnyAt}
use Rattle.text_graphs.specs.Texts.{controls_in, edges_in, edge_of}
use Rattle.text_graphs.specs.declared.scopes.Scope.{Scope}
use Rattle.text_graphs.proofs.Judging.{acyclic_by_controls, edges_below, kept_in, same_pair}
use Rattle.connector_rules.proofs.Nowhere.{contained}

module _ (elements : List ElementTree) (c : ControlTree) (a b : ℕ) (some : edge_of elements c ≡ Some (a, b)) where
  -- a connector whose ends are in one group, and one whose ends are not
  module _ (groups : List ℕ) (grouped : AreGroupsOf elements groups) (listed : Contains (controls_in elements) c) where
    edge : HasEdge (edges_in elements) a b
    edge = kept_in (edge_of elements) (controls_in elements) c (a, b) listed some

    back : Leads (edges_in elements) b a → Reaches (edges_in elements) b a
    back (inl e) = ([], subst (λ (v : ℕ). HasEdge (edges_in elements) v a) (sym e) (subst (λ (v : ℕ). HasEdge (edges_in elements) a v) e edge))
    back (inr r) = r

    pub closing_one : same_number groups (a, b) ≡ true → IsLeastOf (IsClosing elements c) (Some c.place)
    closing_one same =
        let below = edges_below elements a b edge in
        let leads = grouped.together b a below.1 below.0 (sym (eqb-true (slice_index groups a) (slice_index groups b) same)) in
        (record { ends = (a, b); known = some; back = back leads; at = refl }, λ q h. let at = h.at in omega arith)

    pub closing_none : same_number groups (a, b) ≡ false → IsLeastOf (IsClosing elements c) None
    closing_none apart p h =
        let below = edges_below elements a b edge in
        let same = same_pair a b h.ends.0 h.ends.1 (sym some ∙ h.known) in
        let reach : Reaches (edges_in elements) b a = rw (same.0, same.1) h.back in
        eqb-false (slice_index groups a) (slice_index groups b) apart (grouped.apart a b below.0 below.1 ([], edge) reach)

-- where no connector of a graph lies on a closed walk, there is none
pub acyclic_nowhere : (elements : List ElementTree) → IsLeastOf (AnyAt (IsClosing elements) (controls_in elements)) None → IsAcyclic (edges_in elements)
acyclic_nowhere elements none =
    acyclic_by_controls elements
    (λ k d less a b some reach.
    let c = get_or (controls_in elements) k d in
    none c.place (contained (IsClosing elements) (controls_in elements) c c.place (Contains-get_or (controls_in elements) k d less) (record { ends = (a, b); known = some; back = reach; at = refl })))

pub all_acyclic : (scopes : List Scope) → IsLeastOf (AnyAt (λ s. IsOnCycle (graph_at s)) scopes) None → All (λ s. IsAcyclic (edges_in s.elements.now)) scopes
all_acyclic scopes none k d less =
    let s = get_or scopes k d in
    acyclic_nowhere s.elements.now (λ p h. none p (contained (λ (t : Scope). IsOnCycle (graph_at t)) scopes s p (Contains-get_or scopes k d less) h))
