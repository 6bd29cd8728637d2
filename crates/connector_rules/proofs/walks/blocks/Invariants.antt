use Rattle.std.proofs.Common.{◌≡◌, ℕ, List, Some, length}
use Rattle.std.specs.Prelude.{slice_get}
use Rattle.std.specs.Global.{Vec}
use Rattle.flow_model.specs.declared.trees.ElementTree.{ElementTree}
use Rattle.connector_rules.specs.Walking.{AreInOrder, AreSources}
use Rattle.connector_rules.proofs.walks.blocks.Given as goal

abbrev pub invariant-loop-block : goal.invariant-loop-block
invariant-loop-block l =
    (length l.blocks.items ≡ l.block)
    × ((elements : List ElementTree) → AreInOrder elements l.groups l.pairs → (block : ℕ) (words : Vec ℕ) → slice_get l.blocks.items block ≡ Some words → AreSources elements l.groups block words.items)
