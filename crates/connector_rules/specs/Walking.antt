-- From which activities walks along connectors lead to which: 64 sources at a time, by the groups of the activities.
use Rattle.std.specs.Prelude.{◌≡◌, ◌<◌, ◌/◌, ◌%◌, ◌^◌, ◌==◌, ◌↔◌, ◌⊎◌, ℕ, Bool, List, Some, IsTrue, if◌then◌else◌}
use Rattle.std.specs.Prelude.{bit_or, length, slice_get, slice_index, slice_index_or, slice_set}
use Rattle.std.specs.Global.{Vec}
use Rattle.std.specs.Int.{bit_at}
use Rattle.std.specs.List.Sorted.{IsPermutation, IsNonDecreasingBy}
use Rattle.flow_model.specs.declared.trees.ElementTree.{ElementTree}
use Rattle.graph_check.specs.Walks.{Reaches}
use Rattle.text_graphs.specs.Texts.{activities_in, edges_in}
use Rattle.connector_rules.specs.EdgesGrouped.{AreGroupsOf}
use Rattle.connector_rules.specs.declared.walks.Walks.{Walks}

-- ---- what is known

-- a bit of a word is set
abbrev pub IsSet : ℕ → ℕ → Type 0
IsSet word bit = bit_at word bit ≡ 1

-- the word of an activity: that of its group
abbrev pub word_of : List ℕ → List ℕ → ℕ → ℕ
word_of groups words a = slice_index words (slice_index groups a)

-- the word of an activity has those of the 64 sources of a block from which walks lead there
abbrev pub AreSources : List ElementTree → List ℕ → ℕ → List ℕ → Type 0
AreSources elements groups block words =
    (a b : ℕ) → a < length (activities_in elements) → b < length (activities_in elements) → a / 64 ≡ block
    → IsSet (word_of groups words b) (a % 64) ↔ Reaches (edges_in elements) a b

-- the words of each block of 64 activities of a graph
pub record AreBlocks (elements : List ElementTree) (groups : List ℕ) (blocks : List (Vec ℕ)) : Type 0 where
  pub enough : length (activities_in elements) / 64 < length blocks
  pub sources : (block : ℕ) (words : Vec ℕ) → slice_get blocks block ≡ Some words
      → AreSources elements groups block words.items

-- all walks of a graph are known
abbrev pub AreWalksOf : List ElementTree → Walks → Type 0
AreWalksOf elements walks = AreBlocks elements walks.groups.items walks.blocks.items

-- of two activities it is told whether a walk leads from the first to the second
abbrev pub IsWalkTold : List ElementTree → ℕ → ℕ → Bool → Type 0
IsWalkTold elements from to told =
    from < length (activities_in elements) → to < length (activities_in elements)
    → IsTrue told ↔ Reaches (edges_in elements) from to

-- ---- how it becomes known

-- the connectors of a graph in the order of the groups of their targets
pub record AreInOrder (elements : List ElementTree) (groups : List ℕ) (pairs : List (ℕ × ℕ)) : Type 0 where
  pub grouped : AreGroupsOf elements groups
  pub moved : IsPermutation (edges_in elements) pairs
  pub rising : IsNonDecreasingBy (λ pair. slice_index groups pair.1) pairs

-- the words of a block, where the connectors of a graph were gone along in order
abbrev pub AreSourcesAlong : List ℕ → List (ℕ × ℕ) → ℕ → List ℕ → Type 0
AreSourcesAlong groups pairs block words =
    (elements : List ElementTree) → AreInOrder elements groups pairs → AreSources elements groups block words

-- the words of each block
abbrev pub AreBlocksAlong : List ℕ → List (ℕ × ℕ) → List (Vec ℕ) → Type 0
AreBlocksAlong groups pairs blocks = (elements : List ElementTree) → AreInOrder elements groups pairs
    → AreBlocks elements groups blocks

-- the bit of a source in the words of a block
abbrev pub bit_of : ℕ → ℕ → ℕ
bit_of block source = if source / 64 == block then 2 ^ (source % 64) else 0

-- the words once a connector is gone along: the sources of its start, and the start, are sources of its end
abbrev pub words_along : List ℕ → ℕ → List ℕ → ℕ × ℕ → List ℕ
words_along groups block words pair =
    slice_set words (slice_index groups pair.1) (bit_or (word_of groups words pair.1)
    (bit_or (bit_of block pair.0) (word_of groups words pair.0)))

-- the sources of the start of a connector, and the start, are sources of its end
abbrev pub IsHandedOn : List ℕ → ℕ → List ℕ → ℕ × ℕ → Type 0
IsHandedOn groups block words pair =
    (a : ℕ) → a / 64 ≡ block → (a ≡ pair.0) ⊎ IsSet (word_of groups words pair.0) (a % 64)
    → IsSet (word_of groups words pair.1) (a % 64)

-- this many of the connectors were gone along
pub record IsFilled (elements : List ElementTree) (groups : List ℕ) (block : ℕ) (pairs : List (ℕ × ℕ)) (done : ℕ)
    (words : List ℕ) : Type 0 where
  pub reached : (a b : ℕ) → a < length (activities_in elements) → b < length (activities_in elements) → a / 64 ≡ block
      → IsSet (word_of groups words b) (a % 64) → Reaches (edges_in elements) a b
  pub handed_on : (k : ℕ) (d : ℕ × ℕ) → k < done → k < length pairs
      → IsHandedOn groups block words (slice_index_or pairs k d)
