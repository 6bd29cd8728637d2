-- What two slots are together: which one counts, or why the store isn't opened.
use Rattle.std.specs.Prelude.{ℕ, Bool, true, false, nat_lt, ◌==◌, List, [], ◌∷◌, ◌++◌}
use Rattle.flow_disk.specs.declared.disk.Slot.{Slot}
use Rattle.flow_disk.specs.declared.disk.Slot.TheVariants.{A, B}
use Rattle.flow_disk.specs.Images.{Image}
use Rattle.txn_log.specs.declared.header.Header.{Header}
use Rattle.txn_log.specs.Records.{reach}
use Rattle.txn_log.specs.Stored.{SlotState, Unmade, Foreign, Damaged, Good, slot_state}

-- no store; a slot of something else; damage at a place of a slot; or the slot that counts, with its header, its payloads and the place of its closed gate
pub data StoreState : Type 0 where
  NoStore : StoreState
  ForeignIn : Slot → StoreState
  DamagedIn : Slot → ℕ → StoreState
  Counts : Slot → Header → List (List ℕ) → ℕ → StoreState

-- of two good slots the one of the greater generation counts; equal ones are damage
abbrev pub newer : Bool → Bool → Header → List (List ℕ) → ℕ → Header → List (List ℕ) → ℕ → StoreState
newer true is_a_later h ps e k qs f = DamagedIn B 9
newer false true h ps e k qs f = Counts A h ps e
newer false false h ps e k qs f = Counts B k qs f

-- the store by both slots: what is foreign comes first, then damage
abbrev pub judged_store : SlotState → SlotState → StoreState
judged_store Foreign b = ForeignIn A
judged_store a Foreign = ForeignIn B
judged_store (Damaged place) b = DamagedIn A place
judged_store a (Damaged place) = DamagedIn B place
judged_store Unmade Unmade = NoStore
judged_store (Good h ps e) Unmade = Counts A h ps e
judged_store Unmade (Good h ps e) = Counts B h ps e
judged_store (Good h ps e) (Good k qs f) =
    newer (h.generation == k.generation) (nat_lt k.generation h.generation) h ps e k qs f

-- what an image stands for
abbrev pub store_of : Image → StoreState
store_of image = judged_store (slot_state image.a) (slot_state image.b)

-- a store with these records more in the slot that counts
abbrev pub with_records : List (List ℕ) → StoreState → StoreState
with_records more (Counts slot h ps e) = Counts slot h (ps ++ more) (reach e more)
with_records more state = state

-- with one record more
abbrev pub with_record : List ℕ → StoreState → StoreState
with_record payload state = with_records (payload ∷ []) state
