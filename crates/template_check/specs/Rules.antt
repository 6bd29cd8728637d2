-- The rules that a text may break, each a set of its places, in the order in which they are judged; and which of them
-- is broken first.
use Rattle.std.specs.Prelude.{◌≡◌, ◌⊎◌, ℕ, ◌≤◌, Option, Some, None, Result, Ok, Err, List, [], ◌∷◌, ◌++◌}
use Rattle.flow_model.specs.declared.graphs.Library.{Library}
use Rattle.flow_model.specs.declared.trees.ItemTree.{ItemTree}
use Rattle.connector_rules.specs.Connectors.{NamesNobody, IsDouble, IsOnCycle, IsEmptyGraph, IsOtherwiseWrong}
use Rattle.connector_rules.specs.Connectors.{IsUnreachableData}
use Rattle.leaf_rules.specs.Counts.{HasTooManyLeaves}
use Rattle.leaf_rules.specs.KindEdges.{IsInStructureCycle}
use Rattle.leaf_rules.specs.LeafUses.{ReadsUnknownLeaf, MixesKinds}
use Rattle.leaf_rules.specs.ArrayCounts.{IsCountOutside}
use Rattle.leaf_rules.specs.StructureLeaves.{leaves_in}
use Rattle.leaf_rules.specs.Structures.{AreNoContainersIn, NamesNoStructure}
use Rattle.name_rules.specs.Names.{AreActivityEnds, IsEndWrong, IsInsideAgain, IsTwice}
use Rattle.process_rules.specs.Callees.{NamesNoProcess, HasMisfit}
use Rattle.process_rules.specs.Counts.{IsTooMuch, IsTooMuchOf}
use Rattle.process_rules.specs.Doers.{NamesNoPerson, NamesNoPerformer}
use Rattle.process_rules.specs.Numbers.{IsNumberWrong}
use Rattle.process_rules.specs.Shapes.{IsDeep, IsLargeProcess}
use Rattle.text_graphs.specs.Graphs.{InGraphs}
use Rattle.text_graphs.specs.Texts.{people_in, processes_in, structures_in}

-- a rule: its number, and the places that break it
abbrev pub Rule : Type 1
Rule = ℕ × (ℕ → Type 0)

-- a rule is broken, and this is its least place
abbrev pub IsFoundAt : Rule → Option (ℕ × ℕ) → Type 0
IsFoundAt rule found = (p : ℕ) × (found ≡ Some (rule.0, p)) × rule.1 p × ((q : ℕ) → rule.1 q → p ≤ q)

-- what is found of rules in their order: the first that is broken, at its least place, or nothing where none is
abbrev pub IsFirstBroken : List Rule → Option (ℕ × ℕ) → Type 0
IsFirstBroken [] found = found ≡ None
IsFirstBroken (rule ∷ rules) found = IsFoundAt rule found ⊎ (((p : ℕ) → rule.1 p → ⊥) × IsFirstBroken rules found)

-- the fault, if there is one
abbrev pub fault_in : {T : Type 0} → Result T (ℕ × ℕ) → Option (ℕ × ℕ)
fault_in (Ok done) = None
fault_in (Err fault) = Some fault

-- ---- the rules on a text with these items, behind a library

-- a name after END is another one; something is declared twice; a name is no structure's
abbrev pub rules_on_names : List ItemTree → List Rule
rules_on_names items =
    (4, IsEndWrong items (InGraphs items AreActivityEnds))
    ∷ (5, IsTwice items (InGraphs items IsInsideAgain))
    ∷ (6, NamesNoStructure (structures_in items) (InGraphs items (AreNoContainersIn (structures_in items))))
    ∷ []

-- a structure reaches itself, or has too many leaves
abbrev pub rules_on_structures : List ItemTree → List Rule
rules_on_structures items = (7, IsInStructureCycle (structures_in items)) ∷
    (8, HasTooManyLeaves (structures_in items)) ∷ []

-- a line names no activity; a connector comes twice, or lies on a closed walk; a graph is empty
abbrev pub rules_on_connectors : List ItemTree → List Rule
rules_on_connectors items =
    (9, InGraphs items NamesNobody)
    ∷ (10, InGraphs items IsDouble)
    ∷ (11, InGraphs items IsOnCycle)
    ∷ (12, InGraphs items IsEmptyGraph)
    ∷ []

-- a leaf isn't there; kinds don't fit
abbrev pub rules_on_leaves : List ItemTree → List Rule
rules_on_leaves items =
    (13, InGraphs items (ReadsUnknownLeaf (leaves_in (structures_in items))))
    ∷ (14, InGraphs items (MixesKinds (leaves_in (structures_in items))))
    ∷ []

-- rules 4 to 6, 9 to 12, 13 and 14: of the names and leaves that a graph uses
abbrev pub rules_on_uses : List ItemTree → List Rule
rules_on_uses items = rules_on_names items ++ rules_on_connectors items ++ rules_on_leaves items

-- an OTHERWISE stands alone, or is the second; a data line goes along no connectors
abbrev pub rules_on_lines : List ItemTree → List Rule
rules_on_lines items = (15, InGraphs items IsOtherwiseWrong) ∷ (16, InGraphs items IsUnreachableData) ∷ []

-- a process isn't there; its leaves are others
abbrev pub rules_on_callees : Library → List ItemTree → List Rule
rules_on_callees library items =
    (17, InGraphs items (NamesNoProcess library (processes_in items)))
    ∷ (18, InGraphs items (HasMisfit (leaves_in (structures_in items)) library (processes_in items)))
    ∷ []

-- a person isn't there; a performer is none
abbrev pub rules_on_people : Library → List ItemTree → List Rule
rules_on_people library items = (19, InGraphs items (NamesNoPerson library (people_in items))) ∷
    (20, InGraphs items NamesNoPerformer) ∷ []

-- a process nests too deep, or is too large
abbrev pub rules_on_sizes : Library → List ItemTree → List Rule
rules_on_sizes library items = (21, IsDeep library (processes_in items)) ∷
    (22, IsLargeProcess library (processes_in items)) ∷ []

-- a number is out of range; there is too much of something
abbrev pub rules_on_counts : List ItemTree → List Rule
rules_on_counts items =
    (23, λ p. IsCountOutside (structures_in items) p ⊎ InGraphs items IsNumberWrong p)
    ∷ (24, IsTooMuchOf (processes_in items) (InGraphs items IsTooMuch))
    ∷ []

-- ---- the order

abbrev pub from_sizes : Library → List ItemTree → List Rule
from_sizes library items = rules_on_sizes library items ++ rules_on_counts items

abbrev pub from_callees : Library → List ItemTree → List Rule
from_callees library items = rules_on_callees library items ++ rules_on_people library items ++ from_sizes library items

abbrev pub from_leaves : Library → List ItemTree → List Rule
from_leaves library items = rules_on_leaves items ++ rules_on_lines items ++ from_callees library items

abbrev pub from_connectors : Library → List ItemTree → List Rule
from_connectors library items = rules_on_connectors items ++ from_leaves library items

-- rules 4 to 24
abbrev pub later_rules : Library → List ItemTree → List Rule
later_rules library items = rules_on_names items ++ rules_on_structures items ++ from_connectors library items
