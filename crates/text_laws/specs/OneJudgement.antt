-- A text is judged in one way behind a library: it has one tree at most, and breaks one rule first, at one place, or
-- none.
use Rattle.std.specs.Prelude.{◌≡◌, ℕ, List}
use Rattle.flow_model.specs.declared.graphs.Library.{Library}
use Rattle.flow_model.specs.declared.trees.Tree.{Tree}
use Rattle.template_check.specs.Compiling.{HasTree}
use Rattle.template_check.specs.Judged.{IsFaultless, IsRefused}

-- two trees of a text are one
abbrev pub TextsHaveOneTree : Type 0
TextsHaveOneTree = (text : List ℕ) (tree other : Tree) → HasTree text tree → HasTree text other → tree ≡ other

-- a text is refused by one rule, at one place
abbrev pub RefusalsAreOne : Type 0
RefusalsAreOne =
    (library : Library) (text : List ℕ) (rule place rule' place' : ℕ) → IsRefused library text rule place
    → IsRefused library text rule' place' → (rule ≡ rule') × (place ≡ place')

-- a text that is refused isn't faultless
abbrev pub RefusedAreNotFaultless : Type 0
RefusedAreNotFaultless =
    (library : Library) (text : List ℕ) (rule place : ℕ) → IsRefused library text rule place
    → IsFaultless library text → ⊥
