-- Rule 23, as far as it speaks of arrays: a count is from 1 to 512.
use Rattle.std.specs.Prelude.{◌≡◌, ℕ, ◌<◌, Option, None, Some, List, ◌⊎◌}
use Rattle.flow_model.specs.declared.trees.NumberAt.{NumberAt}
use Rattle.flow_model.specs.declared.trees.StructDef.{StructDef}
use Rattle.text_graphs.specs.Places.{AnyAt}

-- the place of a count that is not
abbrev pub IsOutside : Option NumberAt → ℕ → Type 0
IsOutside None p = ⊥
IsOutside (Some number) p = ((number.size < 1) ⊎ (512 < number.size)) × (number.place ≡ p)

-- of a member of a structure
abbrev pub HasCountOutside : StructDef → ℕ → Type 0
HasCountOutside s = AnyAt (λ m. IsOutside m.count) s.members

-- of one of these structures
abbrev pub IsCountOutside : List StructDef → ℕ → Type 0
IsCountOutside structures = AnyAt HasCountOutside structures
