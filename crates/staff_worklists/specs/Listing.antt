-- The worklist of a person: the items on the shelves that the person sees, each once, in show order.
use Rattle.std.specs.Prelude.{◌≡◌, ℕ, Option, None, option_map, List, [], ◌∷◌, map, bytes_eq}
use Rattle.std.specs.Option.{option_or}
use Rattle.std.specs.List.Sorted.{IsStrictlySortedBy}
use Rattle.std.specs.Map.{lookup, keys_of}
use Rattle.std.specs.Ordering.{nat_cmp}
use Rattle.std.specs.Cmp.Lexicographic.{slice_cmp}
use Rattle.std.specs.Borrow.{Bor}
use Rattle.std.specs.Global.{Vec}
use Rattle.std.specs.BTreeMap as tree
use Rattle.std.specs.BTreeMap.{BTreeMap}
use Rattle.std.specs.HashMap.{HashMap}
use Rattle.flow_model.specs.declared.graphs.PersonDef.{PersonDef}
use Rattle.flow_model.specs.declared.instances.WorkLine.{WorkLine}
use Rattle.staff_worklists.specs.declared.worklists.Listed.{Listed}
use Rattle.staff_worklists.specs.declared.worklists.Shelf.{Shelf}
use Rattle.staff_worklists.specs.Shelves.{shelves_of}
use Rattle.staff_worklists.specs.Standing.{item_in}

-- the item of this rank on one of these shelves, else what was found so far
abbrev pub seen_on : {S : Type 0} → HashMap Shelf (BTreeMap (Vec ℕ) Listed) S → List Shelf → Option Listed → List ℕ
    → Option Listed
seen_on shelves [] so_far rank = so_far
seen_on shelves (shelf ∷ rest) so_far rank = seen_on shelves rest (option_or (item_in shelves shelf rank) so_far) rank

-- a listed item as a line
abbrev pub line_of : Listed → WorkLine
line_of listed = record { item = listed.item; held = listed.held }

-- what has been found at a rank
abbrev pub found_at : BTreeMap (Bor (List ℕ)) (Bor Listed) → List ℕ → Option Listed
found_at found rank = option_map (λ listed. listed.now) (tree.get_by (λ k. slice_cmp nat_cmp rank k.now) found)

-- the lines are the items on the shelves that the person sees, by rising rank
abbrev pub IsWorklist : {S : Type 0} → HashMap Shelf (BTreeMap (Vec ℕ) Listed) S → PersonDef → List WorkLine → Type 0
IsWorklist shelves person lines =
    (ranked : List (List ℕ × Listed)) × IsStrictlySortedBy (slice_cmp nat_cmp) (keys_of ranked)
    × ((rank : List ℕ) → lookup (bytes_eq rank) ranked ≡ seen_on shelves (shelves_of person) None rank)
    × (lines ≡ map (λ e. line_of e.1) ranked)
