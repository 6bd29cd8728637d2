-- Which attempt of an activity of the root scope comes behind those that completions complete.
use Rattle.std.specs.Prelude.{ℕ, ◌+◌, ◌-◌, ◌^◌, min, Bool, false, List, [], ◌∷◌, length, bytes_eq}
use Rattle.std.specs.List.{filter}
use Rattle.flow_model.specs.declared.instances.Fact.{Fact}
use Rattle.flow_model.specs.declared.instances.Part.{Part}
use Rattle.flow_model.specs.declared.instances.Path.{Path}

-- the path is one step, to the activity of this name
abbrev pub is_step_to : List ℕ → List Part → Bool
is_step_to name [] = false
is_step_to name (q ∷ []) = bytes_eq q.name name
is_step_to name (q ∷ r ∷ qs) = false

-- how many attempts of an activity of the root scope are completed
abbrev pub completed : List ℕ → List Fact → ℕ
completed name facts = length (filter (λ (f : Fact). is_step_to name f.item.parts) facts)

-- the number of the attempt behind these
abbrev pub next_attempt : List ℕ → List Fact → ℕ
next_attempt name facts = min (completed name facts + 1) (2 ^ 64 - 1)

-- the attempt behind these
abbrev pub next_of : List ℕ → List Fact → Path
next_of name facts = record { root = 1; parts = record { name = name; attempt = next_attempt name facts } ∷ [] }
