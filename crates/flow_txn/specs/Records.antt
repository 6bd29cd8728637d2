-- The bytes of a transaction, kind by kind. Numbers are big-endian. A count that is too great for its bytes is
-- written as the greatest one, which no part in range needs.
use Rattle.std.specs.Prelude.{ℕ, ◌-◌, ◌^◌, min, ℤ, pos, negsuc, nat_lt, Bool, true, false, if◌then◌else◌, Option, Some}
use Rattle.std.specs.Prelude.{None, List, [], ◌∷◌, ◌++◌, length, ◌+◌, sum_by}
use Rattle.std.specs.List.{flat_map}
use Rattle.std.specs.Int.{w16, w32, w64, to_be_bytes, cast_unsigned}
use Rattle.flow_model.specs.declared.graphs.Value.{Value}
use Rattle.flow_model.specs.declared.graphs.Value.TheVariants.{Whole, Text}
use Rattle.flow_model.specs.declared.instances.Message.{Message}
use Rattle.flow_model.specs.declared.instances.Message.TheVariants.{Begin, Signal, End}
use Rattle.flow_model.specs.declared.instances.Part.{Part}
use Rattle.flow_model.specs.declared.instances.Path.{Path}
use Rattle.flow_model.specs.declared.instances.Who.{Who}
use Rattle.flow_model.specs.declared.instances.Who.TheVariants.{Person, Agent}
use Rattle.flow_model.specs.declared.transactions.Setting.{Setting}
use Rattle.flow_model.specs.declared.transactions.Transaction.{Transaction}
use Rattle.flow_model.specs.declared.transactions.Transaction.TheVariants.{Import, Start, Turn, Claim, Release}
use Rattle.flow_model.specs.declared.transactions.Transaction.TheVariants.{Transfer, Take, Done, Force, Restart}
use Rattle.flow_model.specs.declared.transactions.Transaction.TheVariants.{Suspend, Resume, Terminate, Delete, Clock}

-- a number in eight bytes
abbrev pub u64_bytes : ℕ → List ℕ
u64_bytes n = to_be_bytes w64 n

-- a length in one byte and that many bytes: a name or a text
abbrev pub short_bytes : List ℕ → List ℕ
short_bytes bytes = min (length bytes) 255 ∷ bytes

-- a length in four bytes and that many bytes: the text of an import
abbrev pub import_bytes : List ℕ → List ℕ
import_bytes text = to_be_bytes w32 (min (length text) (2 ^ 32 - 1)) ++ text

-- a name and its attempt
abbrev pub part_bytes : Part → List ℕ
part_bytes q = short_bytes q.name ++ u64_bytes q.attempt

-- the root, the number of parts, the parts
abbrev pub path_bytes : Path → List ℕ
path_bytes p = u64_bytes p.root ++ (min (length p.parts) 255 ∷ flat_map part_bytes p.parts)

-- whether a number has 32 bits
abbrev pub is_small : ℤ → Bool
is_small (pos n) = nat_lt n (2 ^ 31)
is_small (negsuc n) = nat_lt n (2 ^ 31)

-- 1 and a number of 32 bits, 3 and one of 64 that hasn't 32, or 2 and a text
abbrev pub value_bytes : Value → List ℕ
value_bytes (Whole n) = if is_small n then 1 ∷ to_be_bytes w32 (cast_unsigned w32 n) else
    (3 ∷ u64_bytes (cast_unsigned w64 n))
value_bytes (Text text) = 2 ∷ short_bytes text

-- the place of a leaf and its value
abbrev pub setting_bytes : Setting → List ℕ
setting_bytes s = to_be_bytes w16 s.leaf ++ value_bytes s.value

-- the number of settings and the settings
abbrev pub settings_bytes : List Setting → List ℕ
settings_bytes ss = to_be_bytes w16 (min (length ss) (2 ^ 16 - 1)) ++ flat_map setting_bytes ss

-- 0, or 1 and the key
abbrev pub key_bytes : Option (List ℕ) → List ℕ
key_bytes None = 0 ∷ []
key_bytes (Some key) = 1 ∷ short_bytes key

abbrev pub truth_byte : Bool → ℕ
truth_byte false = 0
truth_byte true = 1

-- 1 BEGIN, 2 SIGNAL, 3 END, each with its scope; a SIGNAL goes on with source, target and truth
abbrev pub message_bytes : Message → List ℕ
message_bytes (Begin scope) = 1 ∷ path_bytes scope
message_bytes (Signal scope source target truth) = 2 ∷ path_bytes scope ++ short_bytes source ++ short_bytes target
    ++ truth_byte truth ∷ []
message_bytes (End scope) = 3 ∷ path_bytes scope

-- 1 and a person, or 2 and the take number of an agent
abbrev pub who_bytes : Who → List ℕ
who_bytes (Person name) = 1 ∷ short_bytes name
who_bytes (Agent take) = 2 ∷ u64_bytes take

abbrev pub kind : Transaction → ℕ
kind (Import text) = 1
kind (Start root process version starter key settings) = 2
kind (Turn queue message) = 3
kind (Claim item who) = 4
kind (Release item who) = 5
kind (Transfer item who to) = 6
kind (Take item take) = 7
kind (Done item who settings) = 8
kind (Force item settings) = 9
kind (Restart item) = 10
kind (Suspend root) = 11
kind (Resume root) = 12
kind (Terminate root) = 13
kind (Delete root) = 14
kind (Clock minutes) = 15

-- a Turn takes a message from a queue
abbrev pub is_turn : Transaction → Bool
is_turn (Turn queue message) = true
is_turn t = false

abbrev pub body : Transaction → List ℕ
body (Import text) = import_bytes text
body (Start root process version starter key settings) = u64_bytes root ++ short_bytes process
    ++ to_be_bytes w32 version ++ short_bytes starter ++ key_bytes key ++ settings_bytes settings
body (Turn queue message) = queue ∷ message_bytes message
body (Claim item who) = path_bytes item ++ short_bytes who
body (Release item who) = path_bytes item ++ short_bytes who
body (Transfer item who to) = path_bytes item ++ short_bytes who ++ short_bytes to
body (Take item take) = path_bytes item ++ u64_bytes take
body (Done item who settings) = path_bytes item ++ who_bytes who ++ settings_bytes settings
body (Force item settings) = path_bytes item ++ settings_bytes settings
body (Restart item) = path_bytes item
body (Suspend root) = u64_bytes root
body (Resume root) = u64_bytes root
body (Terminate root) = u64_bytes root
body (Delete root) = u64_bytes root
body (Clock minutes) = u64_bytes minutes

-- the number of the transaction, its kind, and what belongs to the kind
abbrev pub record_bytes : ℕ → Transaction → List ℕ
record_bytes number t = u64_bytes number ++ (kind t ∷ body t)

-- ---- how long a record may be

abbrev pub text_room : Value → ℕ
text_room (Whole n) = 0
text_room (Text text) = length text

-- twelve bytes a setting, and its text
abbrev pub settings_room : List Setting → ℕ
settings_room ss = sum_by (λ s. 12 + text_room s.value) ss

-- what the text of an import and the settings add to the length of a record
abbrev pub room : Transaction → ℕ
room (Import text) = length text
room (Start root process version starter key settings) = settings_room settings
room (Turn queue message) = 0
room (Claim item who) = 0
room (Release item who) = 0
room (Transfer item who to) = 0
room (Take item take) = 0
room (Done item who settings) = settings_room settings
room (Force item settings) = settings_room settings
room (Restart item) = 0
room (Suspend root) = 0
room (Resume root) = 0
room (Terminate root) = 0
room (Delete root) = 0
room (Clock minutes) = 0
