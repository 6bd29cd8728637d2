-- What the rules say of a text that breaks none, and of each of its graphs.
use Rattle.std.proofs.Common.{ℕ, None, List, inr}
use Rattle.connector_rules.specs.Connectors.{NamesNobody, IsOnCycle}
use Rattle.flow_model.specs.declared.graphs.Library.{Library}
use Rattle.flow_model.specs.declared.trees.ItemTree.{ItemTree}
use Rattle.leaf_rules.specs.LeafUses.{ReadsUnknownLeaf, MixesKinds}
use Rattle.leaf_rules.specs.StructureLeaves.{leaves_in}
use Rattle.leaf_rules.specs.Structures.{AreNoContainersIn}
use Rattle.process_rules.specs.Callees.{NamesNoProcess}
use Rattle.process_rules.specs.Numbers.{IsNumberWrong}
use Rattle.template_check.proofs.FirstBroken.{none_breaks}
use Rattle.template_check.specs.Rules.{IsFirstBroken, later_rules}
use Rattle.text_graphs.specs.Graphs.{GraphAt, IsGraphOf}
use Rattle.text_graphs.specs.Texts.{processes_in, structures_in}

-- what the rules say of a graph that breaks none of them: its containers have structures, its lines name activities of
-- it, no connector closes a walk, its conditions and maps read leaves that are there and conditions compare like with
-- like, its activities run processes that are there, and its numbers are in range
pub record IsUnbroken (library : Library) (items : List ItemTree) (g : GraphAt) : Type 0 where
  pub structured : (p : ℕ) → AreNoContainersIn (structures_in items) g p → ⊥
  pub named : (p : ℕ) → NamesNobody g p → ⊥
  pub acyclic : (p : ℕ) → IsOnCycle g p → ⊥
  pub known : (p : ℕ) → ReadsUnknownLeaf (leaves_in (structures_in items)) g p → ⊥
  pub alike : (p : ℕ) → MixesKinds (leaves_in (structures_in items)) g p → ⊥
  pub runs : (p : ℕ) → NamesNoProcess library (processes_in items) g p → ⊥
  pub sized : (p : ℕ) → IsNumberWrong g p → ⊥

-- so is each graph of a text that breaks no rule
pub graph_unbroken : (library : Library) (items : List ItemTree) → IsFirstBroken (later_rules library items) None
    → (g : GraphAt) → IsGraphOf items g → IsUnbroken library items g
graph_unbroken library items none g of =
    let rules = later_rules library items in
    record {
      structured = λ p broken. none_breaks rules none 2 p (inr (g, of, broken));
      named = λ p broken. none_breaks rules none 5 p (g, of, broken);
      acyclic = λ p broken. none_breaks rules none 7 p (g, of, broken);
      known = λ p broken. none_breaks rules none 9 p (g, of, broken);
      alike = λ p broken. none_breaks rules none 10 p (g, of, broken);
      runs = λ p broken. none_breaks rules none 13 p (g, of, broken);
      sized = λ p broken. none_breaks rules none 19 p (inr (g, of, broken));
    }
