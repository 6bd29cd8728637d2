-- How a path is written: `1/Loop#2/Check#1` is root 1, attempt 2 of Loop, attempt 1 of Check.
use Rattle.std.specs.Prelude.{◌≡◌, ℕ, ◌≤◌, ◌<◌, ◌^◌, true, List, [], ◌∷◌, ◌++◌, decimal}
use Rattle.std.specs.List.{All}
use Rattle.flow_model.specs.Words.{is_name}
use Rattle.flow_model.specs.declared.instances.Part.{Part}
use Rattle.flow_model.specs.declared.instances.Path.{Path}

-- a step down: `/`, the activity's name, `#`, the attempt
abbrev pub part_spelling : Part → List ℕ
part_spelling q = 47 ∷ q.name ++ 35 ∷ decimal q.attempt

abbrev pub parts_spelling : List Part → List ℕ
parts_spelling [] = []
parts_spelling (q ∷ qs) = part_spelling q ++ parts_spelling qs

-- the root's number, then each step
abbrev pub spelling : Path → List ℕ
spelling p = decimal p.root ++ parts_spelling p.parts

-- a step that can be written: a name, and an attempt from 1 on that has 64 bits
pub record IsStep (q : Part) : Type 0 where
  pub named : is_name q.name ≡ true
  pub counted : 1 ≤ q.attempt
  pub small : q.attempt < 2 ^ 64

-- a path that can be written: a root from 1 on that has 64 bits, and such steps
pub record IsPath (p : Path) : Type 0 where
  pub counted : 1 ≤ p.root
  pub small : p.root < 2 ^ 64
  pub steps : All IsStep p.parts

-- the bytes spell this path
pub record Spells (bytes : List ℕ) (p : Path) : Type 0 where
  pub path : IsPath p
  pub spelled : bytes ≡ spelling p

-- they spell no other path
abbrev pub SpellsNoOther : List ℕ → Path → Type 0
SpellsNoOther bytes p = (other : Path) → Spells bytes other → other ≡ p

-- they spell no path
abbrev pub SpellsNoPath : List ℕ → Type 0
SpellsNoPath bytes = (p : Path) → Spells bytes p → ⊥

-- the bytes do not begin so
abbrev pub BeginsNot : List ℕ → List ℕ → Type 0
BeginsNot bytes front = (rest : List ℕ) → bytes ≡ front ++ rest → ⊥
