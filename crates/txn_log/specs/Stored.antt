-- What the bytes of a slot stand for.
use Rattle.std.specs.Prelude.{◌≡◌, ℕ, zero, suc, ◌+◌, ◌≤◌, ◌^◌, Bool, true, false, ◌&&◌, ◌||◌, not, nat_lt, nat_le, nat_eq, ◌==◌, if◌then◌else◌, List, [], ◌∷◌, ◌++◌, length, take, drop, slice_index, Option, Some, None, codes}
use Rattle.std.specs.Int.{w32, w64, from_be_bytes, to_be_bytes}
use Rattle.std.specs.List.{starts_with}
use Rattle.txn_log.specs.declared.header.Header.{Header}
use Rattle.txn_log.specs.Records.{reach}

-- what stands from a gate on: the payloads of the records and the place of the gate that ends them, or the place of the first gate where no record and no end can be read
pub data Listed : Type 0 where
  Ends : List (List ℕ) → ℕ → Listed
  Breaks : ℕ → Listed

-- one more payload in front
abbrev pub led : List ℕ → Listed → Listed
led payload (Ends payloads end) = Ends (payload ∷ payloads) end
led payload (Breaks place) = Breaks place

-- the length that stands in the first four bytes
unfoldable pub length_at : List ℕ → ℕ
length_at bytes = from_be_bytes w32 (take 4 bytes)

-- these bytes begin with a length in its range, that number of bytes, and one byte more
abbrev pub is_whole : List ℕ → Bool
is_whole bytes =
    nat_lt 0 (length_at bytes) && (nat_le (length_at bytes) 2097152 && nat_lt (4 + length_at bytes) (length bytes))

-- the records from a place on, behind this number of bytes that are passed over
abbrev pub listed : ℕ → ℕ → List ℕ → Listed
listed skip place [] = Breaks place
listed zero place (gate ∷ rest) =
    if gate == 1 then
    (if is_whole rest then led (take (length_at rest) (drop 4 rest)) (listed (4 + length_at rest) (place + 1) rest)
    else Breaks place)
    else Ends [] place
listed (suc skip) place (byte ∷ rest) = listed skip (place + 1) rest

-- a slot: the place of damage, or the header, the payloads and the place of the closed gate
pub data SlotState : Type 0 where
  Unmade : SlotState
  Foreign : SlotState
  Damaged : ℕ → SlotState
  Good : Header → List (List ℕ) → ℕ → SlotState

-- the first 42 bytes are of no store yet: there is at most one, or the first is 0, or it isn't 1 before a front of the magic
unfoldable pub is_unmade : List ℕ → Bool
is_unmade head =
    nat_le (length head) 1
    || (slice_index head 0 == 0
    || (starts_with nat_eq (drop 1 head) (codes "FLOWSTR") && not (slice_index head 0 == 1)))

-- they are of a store of format 1 or 2
unfoldable pub has_magic : List ℕ → Bool
has_magic head =
    starts_with nat_eq (drop 1 head) (codes "FLOWSTR1") || starts_with nat_eq (drop 1 head) (codes "FLOWSTR2")

-- eight bytes from a place on, as a number
abbrev pub number_at : List ℕ → ℕ → ℕ
number_at head place = from_be_bytes w64 (take 8 (drop place head))

-- the header that they spell
unfoldable pub header_of : List ℕ → Header
header_of head = record {
  generation = number_at head 9;
  queues = slice_index head 17;
  limit = number_at head 18;
  transactions = number_at head 26;
  roots = number_at head 34;
}

-- a field that ends there is whole in this number of bytes, and its number is in its range
abbrev pub is_field : ℕ → ℕ → ℕ → ℕ → ℕ → Bool
is_field size end low number high = nat_le end size && (nat_le low number && nat_le number high)

-- the place of the first field of the header that isn't whole in this number of bytes or isn't in its range
unfoldable pub header_fault : ℕ → Header → Option ℕ
header_fault size h =
    if not (is_field size 17 1 h.generation (2 ^ 62)) then Some 9
    else if not (is_field size 18 1 h.queues 16) then Some 17
    else if not (is_field size 26 1 h.limit 10000000) then Some 18
    else if not (is_field size 34 0 h.transactions h.limit) then Some 26
    else if not (is_field size 42 0 h.roots h.transactions) then Some 34
    else None

-- a slot by the fault of its header, the header, and what is listed behind it
abbrev pub with_header : Option ℕ → Header → Listed → SlotState
with_header (Some place) header records = Damaged place
with_header None header (Breaks place) = Damaged place
with_header None header (Ends payloads end) = Good header payloads end

-- a slot by the tests of its first 42 bytes, and what is listed behind them
abbrev pub state_of : Bool → Bool → Option ℕ → Header → Listed → SlotState
state_of true magic fault header records = Unmade
state_of false true fault header records = with_header fault header records
state_of false false fault header records = Foreign

-- what the bytes of a slot stand for
abbrev pub slot_state : List ℕ → SlotState
slot_state bytes =
    let head = take 42 bytes in
    state_of (is_unmade head) (has_magic head) (header_fault (length head) (header_of head)) (header_of head)
    (listed 0 42 (drop 42 bytes))

-- a slot is good
abbrev pub IsGoodState : SlotState → Type 0
IsGoodState state = (header : Header) × (payloads : List (List ℕ)) × (end : ℕ) × (state ≡ Good header payloads end)

-- a good slot with these records more
abbrev pub extended : List (List ℕ) → SlotState → SlotState
extended more (Good header payloads end) = Good header (payloads ++ more) (reach end more)
extended more Unmade = Unmade
extended more Foreign = Foreign
extended more (Damaged place) = Damaged place

-- bytes 1 to 41 of a slot with this header, in format 2
unfoldable pub header_text : Header → List ℕ
header_text h =
    codes "FLOWSTR2" ++ to_be_bytes w64 h.generation ++ h.queues ∷ [] ++ to_be_bytes w64 h.limit
    ++ to_be_bytes w64 h.transactions ++ to_be_bytes w64 h.roots

-- the fields are in their ranges
pub record InRange (h : Header) : Type 0 where
  pub generation_low : 1 ≤ h.generation
  pub generation_high : h.generation ≤ 2 ^ 62
  pub queues_low : 1 ≤ h.queues
  pub queues_high : h.queues ≤ 16
  pub limit_low : 1 ≤ h.limit
  pub limit_high : h.limit ≤ 10000000
  pub transactions_high : h.transactions ≤ h.limit
  pub roots_high : h.roots ≤ h.transactions
