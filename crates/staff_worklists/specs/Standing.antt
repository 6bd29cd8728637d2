-- Which item stands where on the shelves.
use Rattle.std.specs.List.{list_any}
use Rattle.std.specs.Prelude.{◌==◌, Bool, false, ◌∷◌, [], ◌≡◌, ℕ, Option, Some, None, IsSome, if◌then◌else◌}
use Rattle.std.specs.Prelude.{List, bytes_eq}
use Rattle.std.specs.Ordering.{nat_cmp}
use Rattle.std.specs.Cmp.Lexicographic.{slice_cmp}
use Rattle.std.specs.Global.{Vec}
use Rattle.std.specs.BTreeMap as tree
use Rattle.std.specs.BTreeMap.{BTreeMap}
use Rattle.std.specs.HashMap as hash
use Rattle.std.specs.HashMap.{HashMap}
use Rattle.staff_worklists.specs.SameShelf.{shelf_eq}
use Rattle.staff_worklists.specs.declared.worklists.Listed.{Listed}
use Rattle.staff_worklists.specs.declared.worklists.Shelf.{Shelf}

-- what stands on a shelf, if there is the shelf
abbrev pub shelf_at : {X S : Type 0} → HashMap Shelf X S → Shelf → Option X
shelf_at shelves shelf = hash.get_by (shelf_eq shelf) shelves

-- what stands at a rank
abbrev pub at_rank : {X : Type 0} → BTreeMap (Vec ℕ) X → List ℕ → Option X
at_rank ranked rank = tree.get_by (λ k. slice_cmp nat_cmp rank k.items) ranked

-- what stands at a rank of a shelf, if there is the shelf
abbrev pub on_shelf : {X : Type 0} → Option (BTreeMap (Vec ℕ) X) → List ℕ → Option X
on_shelf None rank = None
on_shelf (Some items) rank = at_rank items rank

-- the item of this rank on this shelf
abbrev pub item_in : {S : Type 0} → HashMap Shelf (BTreeMap (Vec ℕ) Listed) S → Shelf → List ℕ → Option Listed
item_in shelves shelf rank = on_shelf (shelf_at shelves shelf) rank

-- the shelf on which the places say that an item of this rank stands
abbrev pub placed_on : BTreeMap (Vec ℕ) Shelf → List ℕ → Option Shelf
placed_on places rank = at_rank places rank

-- an item stands only on the shelf that its place names
abbrev pub ArePlaced : {S : Type 0} → HashMap Shelf (BTreeMap (Vec ℕ) Listed) S → BTreeMap (Vec ℕ) Shelf → Type 0
ArePlaced shelves places =
    (shelf : Shelf) (rank : List ℕ) → IsSome (item_in shelves shelf rank) → placed_on places rank ≡ Some shelf

-- an item that stands on a shelf, looked for on another: there, if that is the same
abbrev pub listed_at : Option Shelf → Shelf → Listed → Option Listed
listed_at None other listed = None
listed_at (Some shelf) other listed = if shelf_eq shelf other then Some listed else None

-- the rank is that of an item of this root
abbrev pub begins_with : ℕ → List ℕ → Bool
begins_with root [] = false
begins_with root (first ∷ rest) = first == root

-- one of the ranks is this one
abbrev pub is_among : List (Vec ℕ) → List ℕ → Bool
is_among ranks rank = list_any (λ k. bytes_eq k.items rank) ranks
