-- Connectors that are met one by one.
use Rattle.std.specs.Prelude.{◌≡◌, ◌==◌, ◌&&◌, ℕ, Bool, List, nat_eq}
use Rattle.std.specs.List.{list_any, filter_map}
use Rattle.std.specs.HashSet.{HashSet}
use Rattle.flow_model.specs.declared.trees.ControlTree.{ControlTree}
use Rattle.flow_model.specs.declared.trees.ElementTree.{ElementTree}
use Rattle.connector_rules.specs.Connectors.{IsSameAgain, otherwise_source, tested_source}
use Rattle.text_graphs.specs.Places.{IsLeastOf, PairAt}
use Rattle.text_graphs.specs.Texts.{edge_of}
use Rattle.connector_rules.specs.declared.connectors.Doubles.{Doubles}
use Rattle.connector_rules.specs.declared.otherwises.Sources.{Sources}

-- two lists have the same
abbrev pub HaveSame : {K : Type 0} → (K → K → Bool) → List K → List K → Type 0
HaveSame {K} same these those = (k : K) → list_any (same k) these ≡ list_any (same k) those

-- two edges have the same ends
abbrev pub edge_eq : ℕ × ℕ → ℕ × ℕ → Bool
edge_eq e k = (e.0 == k.0) && (e.1 == k.1)

-- these connectors were met, and the least place of one between the same activities as an earlier one is known
pub record AreEdgesMet (elements : List ElementTree) (doubles : Doubles) (controls : List ControlTree) : Type 0 where
  pub known : HaveSame edge_eq doubles.met.keys (filter_map (edge_of elements) controls)
  pub least : IsLeastOf (PairAt (IsSameAgain (edge_of elements)) controls) doubles.first

-- these connectors were met, and the least place of a second OTHERWISE of one source is known
pub record AreOtherwisesMet (elements : List ElementTree) (sources : Sources)
    (controls : List ControlTree) : Type 0 where
  pub known : HaveSame nat_eq sources.met.keys (filter_map (otherwise_source elements) controls)
  pub least : IsLeastOf (PairAt (IsSameAgain (otherwise_source elements)) controls) sources.first

-- a set has the sources of connectors with WHEN
abbrev pub AreTested : {S : Type 0} → List ElementTree → HashSet ℕ S → List ControlTree → Type 0
AreTested elements sources controls = HaveSame nat_eq sources.keys (filter_map (tested_source elements) controls)
