-- That a text which breaks no rule means something: templates for its processes, and people.
use Rattle.std.specs.Prelude.{◌≡◌, ℕ, List, None, Some, slice_get}
use Rattle.conditions.specs.Resolving.{IsClear, IsResolved}
use Rattle.flow_core.specs.declared.judging.Verdict.TheVariants.{Do}
use Rattle.flow_model.specs.declared.commands.Command.{Command}
use Rattle.flow_model.specs.declared.graphs.Expr.{Expr}
use Rattle.flow_model.specs.declared.graphs.Graph.{Graph}
use Rattle.flow_model.specs.declared.graphs.Leaf.{Leaf}
use Rattle.flow_model.specs.declared.graphs.Library.{Library}
use Rattle.flow_model.specs.declared.transactions.Transaction.{Transaction}
use Rattle.flow_model.specs.declared.trees.Cond.{Cond}
use Rattle.flow_model.specs.declared.trees.ItemTree.{ItemTree}
use Rattle.flow_model.specs.declared.trees.ProcessTree.{ProcessTree}
use Rattle.graph_check.specs.Walks.{AreNodes}
use Rattle.graph_levels.specs.Levels.{IsLevelOrder}
use Rattle.leaf_rules.specs.StructureLeaves.{leaves_in}
use Rattle.machine.specs.Imports.{Added, IsMeaning}
use Rattle.machine.specs.States.{State}
use Rattle.machine.specs.Steps.{Steps}
use Rattle.machine.specs.Verdicts.{IsVerdict}
use Rattle.process_rules.specs.Knowing.{place_named}
use Rattle.template_check.specs.Judged.{IsFaultless}
use Rattle.template_check.specs.Meant.{IsMeant, Reading}
use Rattle.template_check.specs.Rules.{IsFirstBroken, later_rules}
use Rattle.text_graphs.specs.ClosedWalks.{IsAcyclic}
use Rattle.text_graphs.specs.GraphTexts.{process_text}
use Rattle.text_graphs.specs.Texts.{processes_in, structures_in}

-- a condition whose leaves are there, whose comparisons fit and whose numbers have 64 bits stands for a condition with
-- places of leaves
abbrev pub ClearConditionsResolve : Type 0
ClearConditionsResolve =
    (leaves : List Leaf) (written : Cond) → IsClear leaves written → (made : Expr) × IsResolved leaves written made

-- nodes whose edges close no walk have a level order
abbrev pub AcyclicGraphsHaveOrders : Type 0
AcyclicGraphsHaveOrders =
    (nodes : ℕ) (edges : List (ℕ × ℕ)) → AreNodes nodes edges → IsAcyclic edges
    → (order : List ℕ) × IsLevelOrder nodes edges order

-- the reading of the names of a text behind a library: the leaves of each structure by its members, and the place of
-- the process that a name stands for
abbrev pub reading_behind : Library → List ItemTree → Reading
reading_behind library items = record {
  leaves = leaves_in (structures_in items);
  place = place_named library (processes_in items);
}

-- by that reading each process of a text that breaks no rule means a graph
abbrev pub FaultlessGraphsMean : Type 0
FaultlessGraphsMean =
    (library : Library) (items : List ItemTree) (number : ℕ) (process : ProcessTree)
    → IsFirstBroken (later_rules library items) None → slice_get (processes_in items) number ≡ Some process
    → (made : Graph) × IsMeant (reading_behind library items) (process_text number process) made

-- behind a library each text that breaks no rule has a meaning
abbrev pub FaultlessTextsMean : Type 0
FaultlessTextsMean =
    (library : Library) (text : List ℕ) → IsFaultless library text → (added : Added) × IsMeaning library text added

-- and it means one thing
abbrev pub FaultlessTextsMeanOnce : Type 0
FaultlessTextsMeanOnce =
    (library : Library) (text : List ℕ) → IsFaultless library text
    → (added : Added) × IsMeaning library text added × ((other : Added) → IsMeaning library text other → other ≡ added)

-- so each transaction that a command is judged to has a step
abbrev pub VerdictsHaveSteps : Type 0
VerdictsHaveSteps =
    (s : State) (command : Command) (t : Transaction) → IsVerdict s command (Do t) → (s' : State) × Steps s t s'
