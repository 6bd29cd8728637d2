-- Runs of a table of leaves: those of a structure behind the leaf of a return code.
use Rattle.std.specs.Prelude.{◌≡◌, ℕ, ◌+◌, ◌≤◌, Option, None, Some, List, [], ◌∷◌, ◌++◌, length, take, drop, slice_get}
use Rattle.std.specs.List.{Contains}
use Rattle.std.specs.Option.{option_and_then}
use Rattle.flow_model.specs.declared.graphs.Leaf.{Leaf}
use Rattle.flow_model.specs.declared.trees.KindTree.{KindTree}
use Rattle.flow_model.specs.declared.trees.KindTree.TheVariants as kind
use Rattle.flow_model.specs.declared.trees.Member.{Member}
use Rattle.flow_model.specs.declared.trees.StructDef.{StructDef}
use Rattle.leaf_rules.specs.ReturnCodes.{return_code}
use Rattle.leaf_rules.specs.Structures.{structure_in}
use Rattle.leaf_rules.specs.StructureLeaves.{leaves_of}
use Rattle.leaf_rules.specs.declared.rows.Run.{Run}

-- the leaves of a run
abbrev pub leaves_in_run : List Leaf → Run → List Leaf
leaves_in_run table run = take run.count (drop run.first table)

-- a run lies in a table, and has these leaves
pub record IsRun (table : List Leaf) (run : Run) (leaves : List Leaf) : Type 0 where
  pub within : run.first + run.count ≤ length table
  pub whole : leaves_in_run table run ≡ leaves

-- the run of an output begins with the return code
abbrev pub IsOutputRun : List Leaf → Run → Type 0
IsOutputRun table run = (leaves : List Leaf) × IsRun table run (return_code ∷ leaves)

abbrev pub AreOutputRuns : List Leaf → List Run → Type 0
AreOutputRuns table runs = (number : ℕ) (run : Run) → slice_get runs number ≡ Some run → IsOutputRun table run

-- ---- the runs of structures

-- the run of the structure of a name, if there is one
abbrev pub run_named : List StructDef → List Run → List ℕ → Option Run
run_named structures runs name = option_and_then (λ number. slice_get runs number) (structure_in structures name)

-- these leaves are there; where there is no run there are none
abbrev pub IsMadeBy : List Leaf → Option Run → List Leaf → Type 0
IsMadeBy table None leaves = leaves ≡ []
IsMadeBy table (Some run) leaves = IsRun table run (return_code ∷ leaves)

-- those of a kind are
abbrev pub IsKindMade : List StructDef → List Run → List Leaf → (List ℕ → List Leaf) → KindTree → Type 0
IsKindMade structures runs table inner kind.Long = Unit {0}
IsKindMade structures runs table inner kind.Str = Unit {0}
IsKindMade structures runs table inner (kind.Struct name) = IsMadeBy table (run_named structures runs name.name)
    (inner name.name)

-- those of the kinds of members are
abbrev pub AreKindsMade : List StructDef → List Run → List Leaf → (List ℕ → List Leaf) → List Member → Type 0
AreKindsMade structures runs table inner members = (m : Member) → Contains members m
    → IsKindMade structures runs table inner m.kind

-- the leaves of each structure are there
pub record AreLeavesMade (structures : List StructDef) (runs : List Run) (table : List Leaf) : Type 0 where
  pub long : length runs ≡ length structures
  pub right : (number : ℕ) (s : StructDef) → slice_get structures number ≡ Some s
      → (run : Run) × (slice_get runs number ≡ Some run) × IsRun table run (return_code ∷ leaves_of structures s)

-- leaves come to a table, and are a run of it
pub record IsRowed (old new : List Leaf) (run : Run) (leaves : List Leaf) : Type 0 where
  pub added : new ≡ old ++ leaves
  pub first : run.first ≡ length old
  pub count : run.count ≡ length leaves
