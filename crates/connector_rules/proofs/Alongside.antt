-- Data lines that go along walks, and those that do not.
use Rattle.std.proofs.Common.{◌≡◌, ℕ, Bool, List, Option, Some, None, refl, sym, ◌∙◌, arith}
use Rattle.std.proofs.lemmas.Bool.{false≢true}
use Rattle.std.specs.Prelude.{◌↔◌, IsTrue, MatchBool, true, false}
use Rattle.flow_model.specs.declared.trees.DataTree.{DataTree}
use Rattle.flow_model.specs.declared.trees.ElementTree.{ElementTree}
use Rattle.graph_check.specs.Walks.{Reaches}
use Rattle.connector_rules.specs.Connectors.{IsUnreachable}
use Rattle.connector_rules.specs.Walking.{AreWalksOf, IsWalkTold}
use Rattle.connector_rules.specs.declared.walks.Walks.{Walks}
use Rattle.text_graphs.specs.Places.{IsLeastOf}
use Rattle.text_graphs.specs.Texts.{edges_in, line_edge, IsLineAlong}
use Rattle.text_graphs.proofs.Judging.{same_pair, line_below}

module _ (elements : List ElementTree) (line : DataTree) where
  -- no line between two activities
  pub along_none : line_edge elements line.ends ≡ None → IsLineAlong elements line
  along_none none a b some = let e : ◌≡◌ {A = Option (ℕ × ℕ)} None (Some (a, b)) = sym none ∙ some in cc

  -- a line between two activities, by whether a walk leads from one to the other
  pub along_told : (a b : ℕ) → line_edge elements line.ends ≡ Some (a, b) → (leads : Bool) → (IsTrue leads ↔ Reaches (edges_in elements) a b) → MatchBool leads (IsLineAlong elements line) (IsUnreachable elements line line.place)
  along_told a b some true tells = λ x y edge. let same = same_pair a b x y (sym some ∙ edge) in rw (← same.0, ← same.1) (tells.0 refl)
  along_told a b some false tells = record { ends = (a, b); known = some; apart = λ reach. false≢true (tells.1 reach); at = refl }

  pub along_if_told : (walks : Walks) (a b : ℕ) (leads : Bool) → AreWalksOf elements walks → line_edge elements line.ends ≡ Some (a, b)
      → ((known : List ElementTree) → AreWalksOf known walks → IsWalkTold known a b leads) → MatchBool leads (IsLineAlong elements line) (IsUnreachable elements line line.place)
  along_if_told walks a b leads are some told =
      let below = line_below elements line.ends a b some in
      along_told a b some leads (told elements are below.0 below.1)

  pub least_along : IsLineAlong elements line → IsLeastOf (IsUnreachable elements line) None
  least_along along p h = h.apart (along h.ends.0 h.ends.1 h.known)

  pub least_apart : IsUnreachable elements line line.place → IsLeastOf (IsUnreachable elements line) (Some line.place)
  least_apart h = (h, λ q g. let at = g.at in omega arith)
