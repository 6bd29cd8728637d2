-- Sources of connectors with OTHERWISE that have one with WHEN, and those that have none.
use Rattle.std.proofs.Common.{◌≡◌, ℕ, zero, suc, ◌<◌, ◌∷◌, [], List, length, get_or, Some, None, true, false, refl, sym, ◌∙◌, inl, inr, arith, ◌⊎◌}
use Rattle.std.specs.Prelude.{nat_eq}
use Rattle.std.specs.HashSet.{HashSet}
use Rattle.std.specs.List.{Contains, filter_map, list_any}
use Rattle.std.proofs.lemmas.Bool.{both_ways, eqb-true, eq-eqb, or_cases, or_left, or_right}
use Rattle.flow_model.specs.declared.trees.ControlTree.{ControlTree}
use Rattle.flow_model.specs.declared.trees.ElementTree.{ElementTree}
use Rattle.connector_rules.specs.Connectors.{IsUntested, otherwise_source, tested_source}
use Rattle.connector_rules.specs.EdgesMet.{AreTested}
use Rattle.text_graphs.specs.Places.{IsLeastOf}
use Rattle.text_graphs.specs.Texts.{controls_in}
use Rattle.text_graphs.proofs.Judging.{found_in, kept_in}

-- a number is in a list where the test finds it
listed : (n : ℕ) (ns : List ℕ) → list_any (nat_eq n) ns ≡ true → Contains ns n
listed n [] h = cc
listed n (m ∷ ns) h = go (or_cases (nat_eq n m) (list_any (nat_eq n) ns) h) (listed n ns)
  where
    go : (nat_eq n m ≡ true) ⊎ (list_any (nat_eq n) ns ≡ true) → (list_any (nat_eq n) ns ≡ true → Contains ns n) → Contains (m ∷ ns) n
    go (inl here) rest = (0, omega arith, sym (eqb-true n m here))
    go (inr there) rest = let r = rest there in (suc r.0, let l = r.1 in omega arith, r.2)

unlisted : (n : ℕ) (ns : List ℕ) → Contains ns n → list_any (nat_eq n) ns ≡ true
unlisted n [] h = absurd (omega (arith, h.1))
unlisted n (m ∷ ns) h = go h.0 h.1 h.2 (unlisted n ns)
  where
    go : (k : ℕ) → k < suc (length ns) → get_or (m ∷ ns) k n ≡ n → (Contains ns n → list_any (nat_eq n) ns ≡ true) → list_any (nat_eq n) (m ∷ ns) ≡ true
    go zero less is rest = or_left (nat_eq n m) (list_any (nat_eq n) ns) (eq-eqb n m (sym is))
    go (suc k) less is rest = or_right (nat_eq n m) (list_any (nat_eq n) ns) (rest (k, omega arith, is))

module _ {S : Type 0} (elements : List ElementTree) (tested : HashSet ℕ S) (are : AreTested elements tested (controls_in elements)) (c : ControlTree) (source : ℕ) (some : otherwise_source elements c ≡ Some source) where
  pub tested_none : list_any (nat_eq source) tested.keys ≡ true → IsLeastOf (IsUntested elements c) None
  tested_none has p h =
      let same : Some source ≡ Some h.source = sym some ∙ h.leads in
      let found = found_in (tested_source elements) (controls_in elements) source (listed source (filter_map (tested_source elements) (controls_in elements)) (sym (are source) ∙ has)) in
      h.untested found.0 found.1 (found.2 ∙ same)

  pub untested_one : list_any (nat_eq source) tested.keys ≡ false → IsLeastOf (IsUntested elements c) (Some c.place)
  untested_one lacks = (
    record {
      source = source;
      leads = some;
      untested = λ d has is. both_ways (list_any (nat_eq source) tested.keys) lacks (are source ∙ unlisted source (filter_map (tested_source elements) (controls_in elements)) (kept_in (tested_source elements) (controls_in elements) d source has is));
      at = refl;
    },
    λ q h. let at = h.at in omega arith,
  )
