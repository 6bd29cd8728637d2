-- Where the worklists hold exactly the open manual items: each at its rank on its shelf, and nothing else.
use Rattle.std.specs.Prelude.{◌≡◌, ℕ, Bool, false, not, ◌&&◌, if◌then◌else◌, Option, Some, None, List}
use Rattle.std.specs.Option.{option_map_or}
use Rattle.activity_states.specs.States.{fate_of}
use Rattle.core_laws.specs.RightStates.{IsRightCore}
use Rattle.flow_core.specs.Answers.{instance_of}
use Rattle.flow_core.specs.Driving.{item_of}
use Rattle.flow_core.specs.Shelving.{line_now, rank_now, Standing, stands}
use Rattle.flow_core.specs.declared.state.Core.{Core}
use Rattle.flow_model.specs.declared.instances.ItemLine.{ItemLine}
use Rattle.flow_model.specs.declared.instances.Path.{Path}
use Rattle.item_laws.specs.OpenItems.{is_open_phase}
use Rattle.navigator.specs.Items.{Entry, phase_of}
use Rattle.staff_worklists.specs.Shelves.{shelf_for, is_held}
use Rattle.staff_worklists.specs.Standing.{listed_at}
use Rattle.staff_worklists.specs.declared.worklists.Listed.{Listed}
use Rattle.staff_worklists.specs.declared.worklists.Shelf.{Shelf}

-- ---- open items

-- an item is ready or running
abbrev pub is_open_entry : Entry → Bool
is_open_entry e = is_open_phase (phase_of (fate_of e.state) e.attempt)

-- a root is live and isn't terminated
abbrev pub goes_on : Core → ℕ → Bool
goes_on c root = option_map_or (λ i. not i.terminated) (instance_of c root) false

-- the item of a path is there and open, in a root that goes on
abbrev pub is_open_now : Core → Path → Bool
is_open_now c path = goes_on c path.root && option_map_or is_open_entry (item_of c path) false

-- the item of a path as a line, where it is open and manual
abbrev pub open_line : Core → Path → Option ItemLine
open_line c path = if is_open_now c path then line_now c path else None

-- ---- what stands on the shelves

-- how the item of a line is listed
abbrev pub listed_as : Path → ItemLine → Listed
listed_as path line = record { item = path; held = is_held line.hold }

-- the line of a path stands at its rank, on the shelf that it asks for and on no other
pub record StandsAt (ranks : Path → Option (List ℕ)) (w : Standing) (path : Path) (line : ItemLine) : Type 0 where
  pub rank : List ℕ
  pub ranked : ranks path ≡ Some rank
  pub there : (shelf : Shelf) → w shelf rank ≡ listed_at (shelf_for line) shelf (listed_as path line)

-- what is listed is a path that has a line, at the rank of that path
pub record IsOfLine (lines : Path → Option ItemLine) (ranks : Path → Option (List ℕ)) (rank : List ℕ)
    (listed : Listed) : Type 0 where
  pub line : ItemLine
  pub has : lines listed.item ≡ Some line
  pub ranked : ranks listed.item ≡ Some rank

-- the shelves hold these lines, each at its rank, and nothing else
pub record HoldExactly (lines : Path → Option ItemLine) (ranks : Path → Option (List ℕ)) (w : Standing) : Type 0 where
  pub each : (path : Path) (line : ItemLine) → lines path ≡ Some line → StandsAt ranks w path line
  pub only : (shelf : Shelf) (rank : List ℕ) (listed : Listed) → w shelf rank ≡ Some listed
      → IsOfLine lines ranks rank listed

-- the worklists of a state hold exactly the open manual items of its roots
abbrev pub IsShelved : Core → Type 0
IsShelved c = HoldExactly (open_line c) (rank_now c) (stands c)

-- a state is right, and its worklists hold exactly the open manual items of its roots
abbrev pub IsRightAndListed : Core → Type 0
IsRightAndListed c = IsRightCore c × IsShelved c
