-- An index from names to places in a list.
use Rattle.std.specs.Prelude.{◌≡◌, ℕ, ◌+◌, Bool, if◌then◌else◌, Option, Some, None, option_map, List, [], ◌∷◌, bytes_eq}
use Rattle.std.specs.Option.{option_or}
use Rattle.std.specs.HashMap as hash
use Rattle.std.specs.HashMap.{HashMap}
use Rattle.std.specs.Global.{Vec}

-- the place of the last element that passes
abbrev pub last_place : {X : Type 0} → (X → Bool) → List X → Option ℕ
last_place test [] = None
last_place test (x ∷ xs) = option_or (option_map (λ place. place + 1) (last_place test xs))
    (if test x then Some 0 else None)

-- an index has, for each name, the place of the last element of that name
abbrev pub AreIndexed : {X S : Type 0} → (X → List ℕ) → List X → HashMap (Vec ℕ) ℕ S → Type 0
AreIndexed name_of items index = (key : List ℕ)
    → hash.get_by (λ k. bytes_eq key k.items) index ≡ last_place (λ x. bytes_eq (name_of x) key) items
