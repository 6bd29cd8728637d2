-- The rows of a history: a transaction each, or nothing where it was taken away; and where those of each root stand.
use Rattle.std.specs.Prelude.{◌≡◌, ℕ, ◌+◌, Bool, false, if◌then◌else◌, Option, Some, None, List, [], ◌∷◌, slice_get}
use Rattle.std.specs.Prelude.{slice_set}
use Rattle.std.specs.List.{filter_map}
use Rattle.std.specs.Option.{option_and_then}
use Rattle.std.specs.Global.{Vec}
use Rattle.flow_model.specs.declared.transactions.Numbered.{Numbered}
use Rattle.live_history.specs.Transactions.{root_about, is_root, is_turn}
use Rattle.number_map.specs.Entries.{NumberMap, value_under}

-- a row: a transaction that is live, or none any more
abbrev pub HistoryRow : Type 0
HistoryRow = Option Numbered

-- the transactions that are live, in order
abbrev pub present : List HistoryRow → List Numbered
present rows = filter_map (λ row. row) rows

-- a row is about a root
abbrev pub is_row_about : ℕ → HistoryRow → Bool
is_row_about root None = false
is_row_about root (Some n) = is_root root (root_about n.transaction)

-- a row has a Turn
abbrev pub has_turn : HistoryRow → Bool
has_turn None = false
has_turn (Some n) = is_turn n.transaction

-- the places of the rows about a root, where the first row has this place
abbrev pub places_from : ℕ → ℕ → List HistoryRow → List ℕ
places_from root place [] = []
places_from root place (row ∷ rows) =
    if is_row_about root row then place ∷ places_from root (place + 1) rows else places_from root (place + 1) rows

-- the places under a key, if there are some
abbrev pub places_under : Option (Vec ℕ) → List ℕ
places_under None = []
places_under (Some places) = places.items

-- a place, or none
abbrev pub place_if : Bool → ℕ → List ℕ
place_if there place = if there then place ∷ [] else []

-- the places that a map keeps for a root
abbrev pub kept_places : NumberMap (Vec ℕ) → ℕ → List ℕ
kept_places map root = places_under (value_under root map)

-- the map keeps the places of each root's rows
abbrev pub HasPlaces : List HistoryRow → NumberMap (Vec ℕ) → Type 0
HasPlaces rows map = (root : ℕ) → kept_places map root ≡ places_from root 0 rows

-- the rows without the transactions at these places
abbrev pub cleared : List ℕ → List HistoryRow → List HistoryRow
cleared [] rows = rows
cleared (place ∷ places) rows = cleared places (slice_set rows place None)

-- the transaction at a place, if one is there
abbrev pub transaction_at : List HistoryRow → ℕ → HistoryRow
transaction_at rows place = option_and_then (λ row. row) (slice_get rows place)
