-- Records as bytes, and the places of their gates.
use Rattle.std.specs.Prelude.{ℕ, ◌+◌, ◌<◌, ◌≤◌, List, [], ◌∷◌, ◌++◌, length}
use Rattle.std.specs.Int.{w32, to_be_bytes}

-- the place behind records with these payloads, from a place on
abbrev pub reach : ℕ → List (List ℕ) → ℕ
reach place [] = place
reach place (payload ∷ payloads) = reach (place + 5 + length payload) payloads

-- a payload has 1 to 2,097,152 bytes
abbrev pub IsPayload : List ℕ → Type 0
IsPayload payload = (0 < length payload) × (length payload ≤ 2097152)

-- records with open gates, one behind the other
abbrev pub open_records : List (List ℕ) → List ℕ
open_records [] = []
open_records (payload ∷ payloads) = 1 ∷ (to_be_bytes w32 (length payload) ++ payload) ++ open_records payloads
