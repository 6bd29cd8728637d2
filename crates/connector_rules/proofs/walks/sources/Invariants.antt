use Rattle.std.proofs.Common.{List, ◌<◌, length}
use Rattle.std.specs.List.{All}
use Rattle.flow_model.specs.declared.trees.ElementTree.{ElementTree}
use Rattle.connector_rules.specs.Walking.{AreInOrder, IsFilled}
use Rattle.connector_rules.proofs.walks.sources.Given as goal

abbrev pub invariant-loop-pair : goal.invariant-loop-pair
invariant-loop-pair l =
    All (λ group. group < length l.words.items) l.groups
    × ((elements : List ElementTree) → AreInOrder elements l.groups l.pairs → IsFilled elements l.groups l.block l.pairs l.pair-index l.words.items)
