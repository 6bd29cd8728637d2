-- Which path of root 1 an item token writes.
use Rattle.std.specs.Prelude.{◌≡◌, ℕ, Option, Some, None, List, [], ◌∷◌, ◌++◌}
use Rattle.flow_model.specs.Paths.{IsPath, IsStep, Spells, part_spelling, spelling}
use Rattle.flow_model.specs.declared.instances.Part.{Part}
use Rattle.flow_model.specs.declared.instances.Path.{Path}

-- the text spells this step
abbrev pub SpellsStep : List ℕ → Part → Type 0
SpellsStep text step = IsStep step × (text ≡ part_spelling step)

-- the text spells this path of root 1
abbrev pub IsPathText : List ℕ → Path → Type 0
IsPathText text path = Spells text path × (path.root ≡ 1)

-- the path of root 1 that a text spells, or that it spells none
abbrev pub WritesPath : List ℕ → Option Path → Type 0
WritesPath text (Some path) = IsPathText text path
WritesPath text None = (path : Path) → IsPathText text path → ⊥

-- the token is this path of root 1 in quotes
pub record IsItem (token : List ℕ) (path : Path) : Type 0 where
  pub written : IsPath path
  pub of_one : path.root ≡ 1
  pub quoted : token ≡ 39 ∷ spelling path ++ 39 ∷ []

-- the path that a token writes, or that it writes none
abbrev pub WritesItem : List ℕ → Option Path → Type 0
WritesItem token (Some path) = IsItem token path
WritesItem token None = (path : Path) → IsItem token path → ⊥
