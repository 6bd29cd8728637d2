-- Reading from left to right: a reader gives a value and the bytes after it, or nothing.
use Rattle.std.specs.Prelude.{◌≡◌, ℕ, zero, suc, nat_lt, Bool, true, false, not, ◌==◌, if◌then◌else◌, Option, Some}
use Rattle.std.specs.Prelude.{None, Result, Ok, Err, List, [], ◌∷◌, length, take, drop}
use Rattle.std.specs.Int.{Width, w16, w32, w64, byte_len, from_be_bytes, cast_signed}
use Rattle.flow_model.specs.Words.{is_name, is_text}
use Rattle.flow_model.specs.declared.graphs.Value.{Value}
use Rattle.flow_model.specs.declared.graphs.Value.TheVariants.{Whole, Text}
use Rattle.flow_model.specs.declared.instances.Message.{Message}
use Rattle.flow_model.specs.declared.instances.Message.TheVariants.{Begin, Signal, End}
use Rattle.flow_model.specs.declared.instances.Part.{Part}
use Rattle.flow_model.specs.declared.instances.Path.{Path}
use Rattle.flow_model.specs.declared.instances.Who.{Who}
use Rattle.flow_model.specs.declared.instances.Who.TheVariants.{Person, Agent}
use Rattle.flow_model.specs.declared.names.NameFault.{NameFault}
use Rattle.flow_model.specs.declared.names.NameFault.TheVariants as name_faults
use Rattle.flow_model.specs.declared.transactions.Setting.{Setting}
use Rattle.flow_model.specs.declared.transactions.Transaction.{Transaction}
use Rattle.flow_model.specs.declared.transactions.Transaction.TheVariants.{Import, Start, Turn, Claim, Release}
use Rattle.flow_model.specs.declared.transactions.Transaction.TheVariants.{Transfer, Take, Done, Force, Restart}
use Rattle.flow_model.specs.declared.transactions.Transaction.TheVariants.{Suspend, Resume, Terminate, Delete, Clock}
use Rattle.flow_txn.specs.declared.faults.RecordFault.{RecordFault}
use Rattle.flow_txn.specs.declared.faults.RecordFault.TheVariants.{BadRecord, NoMemory}
use Rattle.flow_txn.specs.Records.{is_small}

-- ---- readers

infixl 10 ◌>>=◌
abbrev pub ◌>>=◌ : {A B : Type 0} → Option A → (A → Option B) → Option B
(Some x) >>= f = f x
None >>= f = None

-- the first byte
abbrev pub byte : List ℕ → Option (ℕ × List ℕ)
byte [] = None
byte (b ∷ rest) = Some (b, rest)

-- so many bytes
abbrev pub front : ℕ → List ℕ → Option (List ℕ × List ℕ)
front n bytes = if nat_lt (length bytes) n then None else Some (take n bytes, drop n bytes)

-- a number of this width
abbrev pub number : Width → List ℕ → Option (ℕ × List ℕ)
number w bytes = if nat_lt (length bytes) (byte_len w) then None else Some
    (from_be_bytes w (take (byte_len w) bytes), drop (byte_len w) bytes)

-- one after the other
abbrev pub both : {A B : Type 0} → (List ℕ → Option (A × List ℕ)) → (List ℕ → Option (B × List ℕ)) → List ℕ
    → Option ((A × B) × List ℕ)
both ra rb bytes = ra bytes >>= λ a. rb a.1 >>= λ b. Some ((a.0, b.0), b.1)

-- one, and another that depends on it
abbrev pub by : {A B : Type 0} → (List ℕ → Option (A × List ℕ)) → (A → List ℕ → Option (B × List ℕ)) → List ℕ
    → Option (B × List ℕ)
by ra rb bytes = ra bytes >>= λ a. rb a.0 a.1

-- what is read passes a test
abbrev pub checked : {A : Type 0} → (A → Bool) → (List ℕ → Option (A × List ℕ)) → List ℕ → Option (A × List ℕ)
checked test ra bytes = ra bytes >>= λ a. if test a.0 then Some a else None

-- what is read makes a value
abbrev pub made : {A B : Type 0} → (A → B) → (List ℕ → Option (A × List ℕ)) → List ℕ → Option (B × List ℕ)
made f ra bytes = ra bytes >>= λ a. Some (f a.0, a.1)

-- so many of them
abbrev pub many : {A : Type 0} → (List ℕ → Option (A × List ℕ)) → ℕ → List ℕ → Option (List A × List ℕ)
many ra zero bytes = Some ([], bytes)
many ra (suc n) bytes = ra bytes >>= λ a. many ra n a.1 >>= λ others. Some (a.0 ∷ others.0, others.1)

-- ---- the fields

-- a number from 1 on
unfoldable pub counted : List ℕ → Option (ℕ × List ℕ)
counted bytes = checked (λ n. nat_lt 0 n) (number w64) bytes

unfoldable pub short : List ℕ → Option (List ℕ × List ℕ)
short bytes = by byte front bytes

unfoldable pub name : List ℕ → Option (List ℕ × List ℕ)
name bytes = checked is_name short bytes

unfoldable pub text : List ℕ → Option (List ℕ × List ℕ)
text bytes = checked is_text short bytes

unfoldable pub part : List ℕ → Option (Part × List ℕ)
part bytes = made (λ x. record { name = x.0; attempt = x.1 }) (both name counted) bytes

unfoldable pub parts : List ℕ → Option (List Part × List ℕ)
parts bytes = by byte (many part) bytes

unfoldable pub path : List ℕ → Option (Path × List ℕ)
path bytes = made (λ x. record { root = x.0; parts = x.1 }) (both counted parts) bytes

unfoldable pub item : List ℕ → Option (Path × List ℕ)
item bytes = checked (λ p. nat_lt 0 (length p.parts)) path bytes

-- a number of 64 bits that hasn't 32
unfoldable pub large : List ℕ → Option (Value × List ℕ)
large bytes = made (λ n. Whole n) (checked (λ n. not (is_small n)) (made (λ n. cast_signed w64 n) (number w64))) bytes

unfoldable pub value_by : ℕ → List ℕ → Option (Value × List ℕ)
value_by tag bytes =
    if tag == 1 then made (λ n. Whole (cast_signed w32 n)) (number w32) bytes else
    if tag == 2 then made (λ t. Text t) text bytes else
    if tag == 3 then large bytes else None

unfoldable pub setting : List ℕ → Option (Setting × List ℕ)
setting bytes = made (λ x. record { leaf = x.0; value = x.1 }) (both (number w16) (by byte value_by)) bytes

unfoldable pub settings : List ℕ → Option (List Setting × List ℕ)
settings bytes = by (number w16) (many setting) bytes

unfoldable pub key_by : ℕ → List ℕ → Option (Option (List ℕ) × List ℕ)
key_by tag bytes =
    if tag == 0 then Some (None, bytes) else
    if tag == 1 then made (λ n. Some n) name bytes else None

unfoldable pub truth_by : ℕ → List ℕ → Option (Bool × List ℕ)
truth_by tag bytes =
    if tag == 0 then Some (false, bytes) else
    if tag == 1 then Some (true, bytes) else None

unfoldable pub signal : List ℕ → Option (Message × List ℕ)
signal bytes = made (λ x. Signal x.0.0.0 x.0.0.1 x.0.1 x.1) (both (both (both path name) name) (by byte truth_by)) bytes

unfoldable pub message_by : ℕ → List ℕ → Option (Message × List ℕ)
message_by tag bytes =
    if tag == 1 then made (λ p. Begin p) path bytes else
    if tag == 2 then signal bytes else
    if tag == 3 then made (λ p. End p) path bytes else None

unfoldable pub who_by : ℕ → List ℕ → Option (Who × List ℕ)
who_by tag bytes =
    if tag == 1 then made (λ n. Person n) name bytes else
    if tag == 2 then made (λ n. Agent n) (number w64) bytes else None

-- ---- the kinds

unfoldable pub import_text : List ℕ → Option (List ℕ × List ℕ)
import_text bytes = by (checked (λ n. nat_lt n 1048577) (number w32)) front bytes

unfoldable pub start : List ℕ → Option (Transaction × List ℕ)
start bytes = made (λ x. Start x.0.0.0.0.0 x.0.0.0.0.1 x.0.0.0.1 x.0.0.1 x.0.1 x.1)
    (both (both (both (both (both counted name) (number w32)) name) (by byte key_by)) settings) bytes

unfoldable pub turn : List ℕ → Option (Transaction × List ℕ)
turn bytes = made (λ x. Turn x.0 x.1) (both byte (by byte message_by)) bytes

-- an item and a person
unfoldable pub item_name : List ℕ → Option ((Path × List ℕ) × List ℕ)
item_name bytes = both item name bytes

unfoldable pub transfer : List ℕ → Option (Transaction × List ℕ)
transfer bytes = made (λ x. Transfer x.0.0 x.0.1 x.1) (both item_name name) bytes

unfoldable pub taking : List ℕ → Option (Transaction × List ℕ)
taking bytes = made (λ x. Take x.0 x.1) (both item (number w64)) bytes

unfoldable pub done : List ℕ → Option (Transaction × List ℕ)
done bytes = made (λ x. Done x.0.0 x.0.1 x.1) (both (both item (by byte who_by)) settings) bytes

unfoldable pub force : List ℕ → Option (Transaction × List ℕ)
force bytes = made (λ x. Force x.0 x.1) (both item settings) bytes

-- a transaction that names no item
unfoldable pub plain_by : ℕ → List ℕ → Option (Transaction × List ℕ)
plain_by kind bytes =
    if kind == 1 then made (λ t. Import t) import_text bytes else
    if kind == 2 then start bytes else
    if kind == 3 then turn bytes else
    if kind == 11 then made (λ r. Suspend r) counted bytes else
    if kind == 12 then made (λ r. Resume r) counted bytes else
    if kind == 13 then made (λ r. Terminate r) counted bytes else
    if kind == 14 then made (λ r. Delete r) counted bytes else
    if kind == 15 then made (λ m. Clock m) (number w64) bytes else None

-- a transaction on an item
unfoldable pub item_by : ℕ → List ℕ → Option (Transaction × List ℕ)
item_by kind bytes =
    if kind == 4 then made (λ x. Claim x.0 x.1) item_name bytes else
    if kind == 5 then made (λ x. Release x.0 x.1) item_name bytes else
    if kind == 6 then transfer bytes else
    if kind == 7 then taking bytes else
    if kind == 8 then done bytes else
    if kind == 9 then force bytes else
    if kind == 10 then made (λ p. Restart p) item bytes else None

-- kinds 4 to 10 are on items
unfoldable pub body_by : ℕ → List ℕ → Option (Transaction × List ℕ)
body_by kind bytes = if nat_lt 3 kind then (if nat_lt kind 11 then item_by kind bytes else plain_by kind bytes) else
    plain_by kind bytes

unfoldable pub numbered : List ℕ → Option ((ℕ × Transaction) × List ℕ)
numbered bytes = both counted (by byte body_by) bytes

-- all of the bytes
unfoldable pub whole : List ℕ → Option (ℕ × Transaction)
whole bytes = numbered bytes >>= λ x. if length x.1 == 0 then Some x.0 else None

-- ---- what the code gives

-- what a name's fault is in a record
abbrev pub fault_of : NameFault → RecordFault
fault_of name_faults.Bad = BadRecord
fault_of name_faults.NoMemory = NoMemory

-- a record is bad where nothing is read; memory may always be short
abbrev pub Fails : {Y : Type 0} → RecordFault → Option Y → Type 0
Fails BadRecord read = read ≡ None
Fails NoMemory read = Unit {0}

-- what a function returned, seen by view, is what is read, unless memory ran out
abbrev pub Gives : {X Y : Type 0} → (X → Y) → Result X RecordFault → Option Y → Type 0
Gives view (Ok x) read = read ≡ Some (view x)
Gives view (Err e) read = Fails e read
