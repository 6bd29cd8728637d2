-- Which activity a word names: its scope's path, `/`, and its name.
use Rattle.std.specs.Prelude.{◌≡◌, ℕ, true, Option, Some, List, ◌∷◌, ◌++◌}
use Rattle.std.specs.List.{All}
use Rattle.flow_model.specs.Paths.{spelling, IsPath}
use Rattle.flow_model.specs.Words.{is_name}
use Rattle.flow_model.specs.declared.instances.Path.{Path}

-- how a word names an activity: its scope, `/`, its name
abbrev pub activity_spelling : Path → List ℕ → List ℕ
activity_spelling p name = spelling p ++ 47 ∷ name

-- the word is a path, `/` and a name: those of this scope and this activity
abbrev pub NamesActivity : List ℕ → Path → List ℕ → Type 0
NamesActivity word p name = IsPath p × (is_name name ≡ true) × (activity_spelling p name ≡ word)

-- the word isn't of that form, whatever the path and the name
abbrev pub NamesNoActivity : List ℕ → Type 0
NamesNoActivity word = (p : Path) (name : List ℕ) → NamesActivity word p name → ⊥

-- and names no other one
abbrev pub NamesNoOther : List ℕ → Path → List ℕ → Type 0
NamesNoOther word p name = (q : Path) (other : List ℕ) → NamesActivity word q other → (q ≡ p) × (other ≡ name)

-- none of these bytes is this one
abbrev pub Lacks : ℕ → List ℕ → Type 0
Lacks mark bytes = All (λ b. b ≡ mark → ⊥) bytes

-- where bytes have a mark with none behind it, they are cut there
abbrev pub IsCutAt : ℕ → List ℕ → Option (List ℕ × List ℕ) → Type 0
IsCutAt mark bytes cut = (before rest : List ℕ) → Lacks mark rest → before ++ mark ∷ rest ≡ bytes
    → cut ≡ Some (before, rest)
