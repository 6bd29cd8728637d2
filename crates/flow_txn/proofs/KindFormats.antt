-- The kinds of messages, completers and transactions: what is read is what is spelled.
use Rattle.std.proofs.Common.{◌≡◌, ℕ, ◌-◌, ◌^◌, ◌<◌, ◌≤◌, min, Bool, true, false, cond, eqb, ltb, List, [], ◌++◌, length, Option, Some, None, Result, Ok, Err, refl, sym, ap, subst, ◌∙◌, arith}
use Rattle.std.specs.Prelude.{IfOk, IsErrOf}
use Rattle.std.specs.Int.{w32, w64, to_be_bytes}
use Rattle.std.proofs.lemmas.Bool.{ltb-true, ltb-false, lt-ltb, eqb-true}
use Rattle.std.proofs.lemmas.List.{append-nil, nil_from_length}
use Rattle.flow_model.specs.declared.instances.Message.{Message}
use Rattle.flow_model.specs.declared.instances.Message.TheVariants.{Begin, Signal, End}
use Rattle.flow_model.specs.declared.instances.Path.{Path}
use Rattle.flow_model.specs.declared.instances.Who.{Who}
use Rattle.flow_model.specs.declared.instances.Who.TheVariants.{Person, Agent}
use Rattle.flow_model.specs.declared.transactions.Numbered.{Numbered}
use Rattle.flow_model.specs.declared.transactions.Setting.{Setting}
use Rattle.flow_model.specs.declared.transactions.Transaction.{Transaction}
use Rattle.flow_model.specs.declared.transactions.Transaction.TheVariants.{Import, Start, Turn, Claim, Release, Transfer, Take, Done, Force, Restart, Suspend, Resume, Terminate, Delete, Clock}
use Rattle.flow_txn.specs.declared.faults.RecordFault.{RecordFault}
use Rattle.flow_txn.specs.declared.faults.RecordFault.TheVariants.{BadRecord}
use Rattle.flow_txn.specs.Records.{u64_bytes, short_bytes, import_bytes, path_bytes, key_bytes, truth_byte, message_bytes, who_bytes, kind, body, record_bytes}
use Rattle.flow_txn.specs.Ranges.{IsCounted, IsName, PathFits, ItemFits, SettingsFit, KeyFits, MessageFits, WhoFits, TransactionFits, IsInRange}
use Rattle.flow_txn.specs.Reading.{Gives, byte, front, number, both, by, checked, made, counted, name, path, item, settings, key_by, truth_by, signal, message_by, who_by, import_text, start, turn, item_name, transfer, taking, done, force, plain_by, item_by, body_by, numbered, whole}
use Rattle.flow_txn.proofs.Formats.{IsBytes, some_is, bind_some, guard_some, Takes, IsFormat, IsFormat-fits, IsFormat-spell, IsFormat-both, IsFormat-made, IsFormat-checked, IsFormat-by, IsFormat-cond, IsFormat-if, IsFormat-none}
use Rattle.flow_txn.proofs.FieldFormats.{tag_bytes, byte_format, front_format, u32_format, u64_format, counted_format, name_format, path_format, item_format, settings_format}

-- ---- keys

abbrev key_tag : Option (List ℕ) → ℕ
key_tag None = 0
key_tag (Some key) = 1

abbrev key_rest : Option (List ℕ) → List ℕ
key_rest None = []
key_rest (Some key) = short_bytes key

abbrev KeyTagged : ℕ → Option (List ℕ) → Type 0
KeyTagged tag k = KeyFits k × (key_tag k ≡ tag)

-- no key takes no bytes
abbrev no_key : List ℕ → Option (Option (List ℕ) × List ℕ)
no_key bytes = Some (None, bytes)

no_key_takes : (bytes : List ℕ) (x : Option (List ℕ) × List ℕ) → IsBytes bytes → no_key bytes ≡ Some x → Takes key_rest (KeyTagged 0) bytes x
no_key_takes bytes x b e = subst (λ (z : Option (List ℕ) × List ℕ). Takes key_rest (KeyTagged 0) bytes z) (some_is (None, bytes) x e) (record { parts = refl; fits = (tt, refl); rest = b })

no_key_again : (k : Option (List ℕ)) (rest : List ℕ) → KeyTagged 0 k → no_key (key_rest k ++ rest) ≡ Some (k, rest)
no_key_again None rest h = refl
no_key_again (Some key) rest h = absurd (omega (arith, h.1))

key_back : (k : Option (List ℕ)) → KeyTagged 1 k → (n : List ℕ) × (Some n ≡ k) × IsName n
key_back None h = absurd (omega (arith, h.1))
key_back (Some key) h = (key, refl, h.0)

key_known : (k : Option (List ℕ)) → key_tag k ≤ 1
key_known None = omega arith
key_known (Some key) = omega arith

key_by_format : (tag : ℕ) → IsFormat key_rest (KeyTagged tag) (key_by tag)
unfolding key_by
key_by_format tag =
    IsFormat-if key_rest KeyTagged 0 tag no_key _ (record { takes = no_key_takes; again = no_key_again }) (λ n0.
    IsFormat-if key_rest KeyTagged 1 tag (made (λ n. Some n) name) (λ bytes. None) (IsFormat-made (λ n. Some n) short_bytes key_rest IsName (KeyTagged 1) name (λ n h. (refl, (h, refl))) key_back name_format) (λ n1.
    IsFormat-none key_rest (KeyTagged tag) (λ k h. let m = key_known k in let e = h.1 in omega arith)))

key_same : (k : Option (List ℕ)) → KeyFits k → tag_bytes (key_tag k) ++ key_rest k ≡ key_bytes k
key_same None h = refl
key_same (Some key) h = refl

pub key_format : IsFormat key_bytes KeyFits (by byte key_by)
key_format = IsFormat-spell (λ k. tag_bytes (key_tag k) ++ key_rest k) key_bytes KeyFits (by byte key_by) key_same
    (IsFormat-by key_tag tag_bytes key_rest (λ n. n < 2 ^ 8) KeyFits byte key_by byte_format (λ tag lt. key_by_format tag) (λ k h. let m = key_known k in omega arith))

-- ---- truths

truth_known : (t : Bool) → truth_byte t ≤ 1
truth_known true = omega arith
truth_known false = omega arith

abbrev AnyTruth : Bool → Type 0
AnyTruth t = Unit {0}

abbrev TruthTagged : ℕ → Bool → Type 0
TruthTagged tag t = AnyTruth t × (truth_byte t ≡ tag)

-- a known truth takes no bytes
abbrev truth_is : Bool → List ℕ → Option (Bool × List ℕ)
truth_is t bytes = Some (t, bytes)

truth_takes : (tag : ℕ) (t : Bool) → truth_byte t ≡ tag → (bytes : List ℕ) (x : Bool × List ℕ) → IsBytes bytes → truth_is t bytes ≡ Some x → Takes (λ t. []) (TruthTagged tag) bytes x
truth_takes tag t known bytes x b e = subst (λ (z : Bool × List ℕ). Takes (λ t. []) (TruthTagged tag) bytes z) (some_is (t, bytes) x e) (record { parts = refl; fits = (tt, known); rest = b })

false_again : (t : Bool) (rest : List ℕ) → TruthTagged 0 t → truth_is false rest ≡ Some (t, rest)
false_again false rest h = refl
false_again true rest h = absurd (omega (arith, h.1))

true_again : (t : Bool) (rest : List ℕ) → TruthTagged 1 t → truth_is true rest ≡ Some (t, rest)
true_again false rest h = absurd (omega (arith, h.1))
true_again true rest h = refl

truth_by_format : (tag : ℕ) → IsFormat (λ t. []) (TruthTagged tag) (truth_by tag)
unfolding truth_by
truth_by_format tag =
    IsFormat-if (λ t. []) TruthTagged 0 tag (truth_is false) _ (record { takes = truth_takes 0 false refl; again = false_again }) (λ n0.
    IsFormat-if (λ t. []) TruthTagged 1 tag (truth_is true) (λ bytes. None) (record { takes = truth_takes 1 true refl; again = true_again }) (λ n1.
    IsFormat-none (λ t. []) (TruthTagged tag) (λ t h. let m = truth_known t in let e = h.1 in omega arith)))

truth_format : IsFormat (λ t. tag_bytes (truth_byte t)) AnyTruth (by byte truth_by)
truth_format = IsFormat-by truth_byte tag_bytes (λ t. []) (λ n. n < 2 ^ 8) AnyTruth byte truth_by byte_format (λ tag lt. truth_by_format tag) (λ t h. let m = truth_known t in omega arith)

-- ---- messages

abbrev message_tag : Message → ℕ
message_tag (Begin scope) = 1
message_tag (Signal scope source target truth) = 2
message_tag (End scope) = 3

abbrev message_rest : Message → List ℕ
message_rest (Begin scope) = path_bytes scope
message_rest (Signal scope source target truth) = path_bytes scope ++ short_bytes source ++ short_bytes target ++ tag_bytes (truth_byte truth)
message_rest (End scope) = path_bytes scope

abbrev MessageTagged : ℕ → Message → Type 0
MessageTagged tag m = MessageFits m × (message_tag m ≡ tag)

begin_back : (m : Message) → MessageTagged 1 m → (p : Path) × (Begin p ≡ m) × PathFits p
begin_back (Begin scope) h = (scope, refl, h.0)
begin_back (Signal scope source target truth) h = absurd (omega (arith, h.1))
begin_back (End scope) h = absurd (omega (arith, h.1))

end_back : (m : Message) → MessageTagged 3 m → (p : Path) × (End p ≡ m) × PathFits p
end_back (Begin scope) h = absurd (omega (arith, h.1))
end_back (Signal scope source target truth) h = absurd (omega (arith, h.1))
end_back (End scope) h = (scope, refl, h.0)

abbrev Signals : Type 0
Signals = ((Path × List ℕ) × List ℕ) × Bool

abbrev SignalFits : Signals → Type 0
SignalFits x = ((PathFits x.0.0.0 × IsName x.0.0.1) × IsName x.0.1) × AnyTruth x.1

signal_back : (m : Message) → MessageTagged 2 m → (x : Signals) × (Signal x.0.0.0 x.0.0.1 x.0.1 x.1 ≡ m) × SignalFits x
signal_back (Begin scope) h = absurd (omega (arith, h.1))
signal_back (Signal scope source target truth) h = ((((scope, source), target), truth), refl, (((h.0.0, h.0.1), h.0.2), tt))
signal_back (End scope) h = absurd (omega (arith, h.1))

abbrev source_bytes : Path × List ℕ → List ℕ
source_bytes x = path_bytes x.0 ++ short_bytes x.1

abbrev SourceFits : Path × List ℕ → Type 0
SourceFits x = PathFits x.0 × IsName x.1

abbrev target_bytes : (Path × List ℕ) × List ℕ → List ℕ
target_bytes x = source_bytes x.0 ++ short_bytes x.1

abbrev TargetFits : (Path × List ℕ) × List ℕ → Type 0
TargetFits x = SourceFits x.0 × IsName x.1

signal_format : IsFormat message_rest (MessageTagged 2) signal
unfolding signal
signal_format = IsFormat-made (λ (x : Signals). Signal x.0.0.0 x.0.0.1 x.0.1 x.1) (λ x. target_bytes x.0 ++ tag_bytes (truth_byte x.1)) message_rest SignalFits (MessageTagged 2) (both (both (both path name) name) (by byte truth_by))
    (λ x h. (refl, ((h.0.0.0, h.0.0.1, h.0.1), refl)))
    signal_back
    (IsFormat-both target_bytes (λ t. tag_bytes (truth_byte t)) TargetFits AnyTruth (both (both path name) name) (by byte truth_by)
    (IsFormat-both source_bytes short_bytes SourceFits IsName (both path name) name (IsFormat-both path_bytes short_bytes PathFits IsName path name path_format name_format) name_format)
    truth_format)

message_known : (m : Message) → (1 ≤ message_tag m) × (message_tag m ≤ 3)
message_known (Begin scope) = (omega arith, omega arith)
message_known (Signal scope source target truth) = (omega arith, omega arith)
message_known (End scope) = (omega arith, omega arith)

message_by_format : (tag : ℕ) → IsFormat message_rest (MessageTagged tag) (message_by tag)
unfolding message_by
message_by_format tag =
    IsFormat-if message_rest MessageTagged 1 tag (made (λ p. Begin p) path) _ (IsFormat-made (λ p. Begin p) path_bytes message_rest PathFits (MessageTagged 1) path (λ p h. (refl, (h, refl))) begin_back path_format) (λ n1.
    IsFormat-if message_rest MessageTagged 2 tag signal _ signal_format (λ n2.
    IsFormat-if message_rest MessageTagged 3 tag (made (λ p. End p) path) (λ bytes. None) (IsFormat-made (λ p. End p) path_bytes message_rest PathFits (MessageTagged 3) path (λ p h. (refl, (h, refl))) end_back path_format) (λ n3.
    IsFormat-none message_rest (MessageTagged tag) (λ m h. let k = message_known m in let e = h.1 in omega arith))))

message_same : (m : Message) → MessageFits m → tag_bytes (message_tag m) ++ message_rest m ≡ message_bytes m
message_same (Begin scope) h = refl
message_same (Signal scope source target truth) h = refl
message_same (End scope) h = refl

message_format : IsFormat message_bytes MessageFits (by byte message_by)
message_format = IsFormat-spell (λ m. tag_bytes (message_tag m) ++ message_rest m) message_bytes MessageFits (by byte message_by) message_same
    (IsFormat-by message_tag tag_bytes message_rest (λ n. n < 2 ^ 8) MessageFits byte message_by byte_format (λ tag lt. message_by_format tag) (λ m h. let k = message_known m in omega arith))

-- ---- who completes

abbrev who_tag : Who → ℕ
who_tag (Person n) = 1
who_tag (Agent take) = 2

abbrev who_rest : Who → List ℕ
who_rest (Person n) = short_bytes n
who_rest (Agent take) = u64_bytes take

abbrev WhoTagged : ℕ → Who → Type 0
WhoTagged tag w = WhoFits w × (who_tag w ≡ tag)

person_back : (w : Who) → WhoTagged 1 w → (n : List ℕ) × (Person n ≡ w) × IsName n
person_back (Person n) h = (n, refl, h.0)
person_back (Agent take) h = absurd (omega (arith, h.1))

agent_back : (w : Who) → WhoTagged 2 w → (n : ℕ) × (Agent n ≡ w) × (n < 2 ^ 64)
agent_back (Person n) h = absurd (omega (arith, h.1))
agent_back (Agent take) h = (take, refl, h.0)

who_known : (w : Who) → (1 ≤ who_tag w) × (who_tag w ≤ 2)
who_known (Person n) = (omega arith, omega arith)
who_known (Agent take) = (omega arith, omega arith)

who_by_format : (tag : ℕ) → IsFormat who_rest (WhoTagged tag) (who_by tag)
unfolding who_by
who_by_format tag =
    IsFormat-if who_rest WhoTagged 1 tag (made (λ n. Person n) name) _ (IsFormat-made (λ n. Person n) short_bytes who_rest IsName (WhoTagged 1) name (λ n h. (refl, (h, refl))) person_back name_format) (λ n1.
    IsFormat-if who_rest WhoTagged 2 tag (made (λ n. Agent n) (number w64)) (λ bytes. None) (IsFormat-made (λ n. Agent n) u64_bytes who_rest (λ n. n < 2 ^ 64) (WhoTagged 2) (number w64) (λ n h. (refl, (h, refl))) agent_back u64_format) (λ n2.
    IsFormat-none who_rest (WhoTagged tag) (λ w h. let k = who_known w in let e = h.1 in omega arith)))

who_same : (w : Who) → WhoFits w → tag_bytes (who_tag w) ++ who_rest w ≡ who_bytes w
who_same (Person n) h = refl
who_same (Agent take) h = refl

who_format : IsFormat who_bytes WhoFits (by byte who_by)
who_format = IsFormat-spell (λ w. tag_bytes (who_tag w) ++ who_rest w) who_bytes WhoFits (by byte who_by) who_same
    (IsFormat-by who_tag tag_bytes who_rest (λ n. n < 2 ^ 8) WhoFits byte who_by byte_format (λ tag lt. who_by_format tag) (λ w h. let k = who_known w in omega arith))

-- ---- imports

abbrev ImportFits : List ℕ → Type 0
ImportFits text = length text ≤ 1048576

import_same : (text : List ℕ) → ImportFits text → to_be_bytes w32 (length text) ++ text ≡ import_bytes text
import_same text h = let e : length text ≡ min (length text) (2 ^ 32 - 1) = omega arith in ap (λ (n : ℕ). to_be_bytes w32 n ++ text) e

import_format : IsFormat import_bytes ImportFits import_text
unfolding import_text
import_format = IsFormat-spell (λ text. to_be_bytes w32 (length text) ++ text) import_bytes ImportFits import_text import_same
    (IsFormat-by length (to_be_bytes w32) (λ s. s) (λ n. (n < 2 ^ 32) × (ltb n 1048577 ≡ true)) ImportFits (checked (λ n. ltb n 1048577) (number w32)) front
    (IsFormat-checked (λ n. ltb n 1048577) (to_be_bytes w32) (λ n. n < 2 ^ 32) (number w32) u32_format)
    (λ n lt. let h : n < 1048577 = ltb-true n 1048577 lt.1 in IsFormat-fits (λ s. s) (λ s. length s ≡ n) (λ s. ImportFits s × (length s ≡ n)) (front n) (λ s e. (omega (arith, e, h), e)) (λ s k. k.1) (front_format n))
    (λ s h. (omega (arith, h), lt-ltb (length s) 1048577 (omega (arith, h)))))

-- ---- transactions

joined : {A B : Type 0} {sa : A → List ℕ} {sb : B → List ℕ} {FA : A → Type 0} {FB : B → Type 0} {ra : List ℕ → Option (A × List ℕ)} {rb : List ℕ → Option (B × List ℕ)}
    → IsFormat sa FA ra → IsFormat sb FB rb → IsFormat (λ (x : A × B). sa x.0 ++ sb x.1) (λ (x : A × B). FA x.0 × FB x.1) (both ra rb)
joined {A} {B} {sa} {sb} {FA} {FB} {ra} {rb} f g = IsFormat-both sa sb FA FB ra rb f g

-- the transactions of one kind
abbrev Tagged : ℕ → Transaction → Type 0
Tagged tag t = TransactionFits t × (kind t ≡ tag)

makes : {A : Type 0} {sa : A → List ℕ} {FA : A → Type 0} {ra : List ℕ → Option (A × List ℕ)} → IsFormat sa FA ra → (tag : ℕ) (to : A → Transaction)
    → ((a : A) → FA a → (body (to a) ≡ sa a) × Tagged tag (to a)) → ((t : Transaction) → Tagged tag t → (a : A) × (to a ≡ t) × FA a) → IsFormat body (Tagged tag) (made to ra)
makes {A} {sa} {FA} {ra} f tag to there back = IsFormat-made to sa body FA (Tagged tag) ra there back f

import_back : (t : Transaction) → Tagged 1 t → (text : List ℕ) × (Import text ≡ t) × ImportFits text
import_back (Import text) h = (text, refl, h.0)
import_back _ h = absurd (omega (arith, h.1))

imports : IsFormat body (Tagged 1) (made (λ t. Import t) import_text)
imports = makes import_format 1 (λ t. Import t) (λ t h. (refl, (h, refl))) import_back

abbrev Starts : Type 0
Starts = ((((ℕ × List ℕ) × ℕ) × List ℕ) × Option (List ℕ)) × List Setting

abbrev started : Starts → Transaction
started x = Start x.0.0.0.0.0 x.0.0.0.0.1 x.0.0.0.1 x.0.0.1 x.0.1 x.1

start_back : (t : Transaction) → Tagged 2 t → (x : Starts) × (started x ≡ t) × (((((IsCounted x.0.0.0.0.0 × IsName x.0.0.0.0.1) × (x.0.0.0.1 < 2 ^ 32)) × IsName x.0.0.1) × KeyFits x.0.1) × SettingsFit x.1)
start_back (Start root process version starter key settings) h = ((((((root, process), version), starter), key), settings), refl, (((((h.0.0, h.0.1), h.0.2), h.0.3), h.0.4), h.0.5))
start_back _ h = absurd (omega (arith, h.1))

starts : IsFormat body (Tagged 2) start
unfolding start
starts = makes (joined (joined (joined (joined (joined counted_format name_format) u32_format) name_format) key_format) settings_format) 2 started
    (λ x h. (refl, ((h.0.0.0.0.0, h.0.0.0.0.1, h.0.0.0.1, h.0.0.1, h.0.1, h.1), refl)))
    start_back

abbrev Turns : Type 0
Turns = ℕ × Message

turn_back : (t : Transaction) → Tagged 3 t → (x : Turns) × (Turn x.0 x.1 ≡ t) × ((x.0 < 2 ^ 8) × MessageFits x.1)
turn_back (Turn queue message) h = ((queue, message), refl, h.0)
turn_back _ h = absurd (omega (arith, h.1))

turns : IsFormat body (Tagged 3) turn
unfolding turn
turns = makes (joined byte_format message_format) 3 (λ (x : Turns). Turn x.0 x.1) (λ x h. (refl, (h, refl))) turn_back

abbrev Held : Type 0
Held = Path × List ℕ

abbrev held_bytes : Held → List ℕ
held_bytes x = path_bytes x.0 ++ short_bytes x.1

abbrev HeldFits : Held → Type 0
HeldFits x = ItemFits x.0 × IsName x.1

held_format : IsFormat held_bytes HeldFits item_name
unfolding item_name
held_format = joined item_format name_format

claim_back : (t : Transaction) → Tagged 4 t → (x : Held) × (Claim x.0 x.1 ≡ t) × HeldFits x
claim_back (Claim item who) h = ((item, who), refl, h.0)
claim_back _ h = absurd (omega (arith, h.1))

claims : IsFormat body (Tagged 4) (made (λ x. Claim x.0 x.1) item_name)
claims = makes held_format 4 (λ (x : Held). Claim x.0 x.1) (λ x h. (refl, (h, refl))) claim_back

release_back : (t : Transaction) → Tagged 5 t → (x : Held) × (Release x.0 x.1 ≡ t) × HeldFits x
release_back (Release item who) h = ((item, who), refl, h.0)
release_back _ h = absurd (omega (arith, h.1))

releases : IsFormat body (Tagged 5) (made (λ x. Release x.0 x.1) item_name)
releases = makes held_format 5 (λ (x : Held). Release x.0 x.1) (λ x h. (refl, (h, refl))) release_back

abbrev Transfers : Type 0
Transfers = Held × List ℕ

transfer_back : (t : Transaction) → Tagged 6 t → (x : Transfers) × (Transfer x.0.0 x.0.1 x.1 ≡ t) × (HeldFits x.0 × IsName x.1)
transfer_back (Transfer item who to) h = (((item, who), to), refl, ((h.0.0, h.0.1), h.0.2))
transfer_back _ h = absurd (omega (arith, h.1))

transfers : IsFormat body (Tagged 6) transfer
unfolding transfer
transfers = makes (joined held_format name_format) 6 (λ (x : Transfers). Transfer x.0.0 x.0.1 x.1) (λ x h. (refl, ((h.0.0, h.0.1, h.1), refl))) transfer_back

abbrev Takings : Type 0
Takings = Path × ℕ

take_back : (t : Transaction) → Tagged 7 t → (x : Takings) × (Take x.0 x.1 ≡ t) × (ItemFits x.0 × (x.1 < 2 ^ 64))
take_back (Take item take) h = ((item, take), refl, h.0)
take_back _ h = absurd (omega (arith, h.1))

takings : IsFormat body (Tagged 7) taking
unfolding taking
takings = makes (joined item_format u64_format) 7 (λ (x : Takings). Take x.0 x.1) (λ x h. (refl, (h, refl))) take_back

abbrev Dones : Type 0
Dones = (Path × Who) × List Setting

done_back : (t : Transaction) → Tagged 8 t → (x : Dones) × (Done x.0.0 x.0.1 x.1 ≡ t) × ((ItemFits x.0.0 × WhoFits x.0.1) × SettingsFit x.1)
done_back (Done item who settings) h = (((item, who), settings), refl, ((h.0.0, h.0.1), h.0.2))
done_back _ h = absurd (omega (arith, h.1))

dones : IsFormat body (Tagged 8) done
unfolding done
dones = makes (joined (joined item_format who_format) settings_format) 8 (λ (x : Dones). Done x.0.0 x.0.1 x.1) (λ x h. (refl, ((h.0.0, h.0.1, h.1), refl))) done_back

abbrev Forces : Type 0
Forces = Path × List Setting

force_back : (t : Transaction) → Tagged 9 t → (x : Forces) × (Force x.0 x.1 ≡ t) × (ItemFits x.0 × SettingsFit x.1)
force_back (Force item settings) h = ((item, settings), refl, h.0)
force_back _ h = absurd (omega (arith, h.1))

forces : IsFormat body (Tagged 9) force
unfolding force
forces = makes (joined item_format settings_format) 9 (λ (x : Forces). Force x.0 x.1) (λ x h. (refl, (h, refl))) force_back

restart_back : (t : Transaction) → Tagged 10 t → (p : Path) × (Restart p ≡ t) × ItemFits p
restart_back (Restart item) h = (item, refl, h.0)
restart_back _ h = absurd (omega (arith, h.1))

restarts : IsFormat body (Tagged 10) (made (λ p. Restart p) item)
restarts = makes item_format 10 (λ p. Restart p) (λ p h. (refl, (h, refl))) restart_back

suspend_back : (t : Transaction) → Tagged 11 t → (r : ℕ) × (Suspend r ≡ t) × IsCounted r
suspend_back (Suspend root) h = (root, refl, h.0)
suspend_back _ h = absurd (omega (arith, h.1))

suspends : IsFormat body (Tagged 11) (made (λ r. Suspend r) counted)
suspends = makes counted_format 11 (λ r. Suspend r) (λ r h. (refl, (h, refl))) suspend_back

resume_back : (t : Transaction) → Tagged 12 t → (r : ℕ) × (Resume r ≡ t) × IsCounted r
resume_back (Resume root) h = (root, refl, h.0)
resume_back _ h = absurd (omega (arith, h.1))

resumes : IsFormat body (Tagged 12) (made (λ r. Resume r) counted)
resumes = makes counted_format 12 (λ r. Resume r) (λ r h. (refl, (h, refl))) resume_back

terminate_back : (t : Transaction) → Tagged 13 t → (r : ℕ) × (Terminate r ≡ t) × IsCounted r
terminate_back (Terminate root) h = (root, refl, h.0)
terminate_back _ h = absurd (omega (arith, h.1))

terminates : IsFormat body (Tagged 13) (made (λ r. Terminate r) counted)
terminates = makes counted_format 13 (λ r. Terminate r) (λ r h. (refl, (h, refl))) terminate_back

delete_back : (t : Transaction) → Tagged 14 t → (r : ℕ) × (Delete r ≡ t) × IsCounted r
delete_back (Delete root) h = (root, refl, h.0)
delete_back _ h = absurd (omega (arith, h.1))

deletes : IsFormat body (Tagged 14) (made (λ r. Delete r) counted)
deletes = makes counted_format 14 (λ r. Delete r) (λ r h. (refl, (h, refl))) delete_back

clock_back : (t : Transaction) → Tagged 15 t → (m : ℕ) × (Clock m ≡ t) × (m < 2 ^ 64)
clock_back (Clock minutes) h = (minutes, refl, h.0)
clock_back _ h = absurd (omega (arith, h.1))

clocks : IsFormat body (Tagged 15) (made (λ m. Clock m) (number w64))
clocks = makes u64_format 15 (λ m. Clock m) (λ m h. (refl, (h, refl))) clock_back

kind_known : (t : Transaction) → (1 ≤ kind t) × (kind t ≤ 15)
kind_known (Import text) = (omega arith, omega arith)
kind_known (Start root process version starter key settings) = (omega arith, omega arith)
kind_known (Turn queue message) = (omega arith, omega arith)
kind_known (Claim item who) = (omega arith, omega arith)
kind_known (Release item who) = (omega arith, omega arith)
kind_known (Transfer item who to) = (omega arith, omega arith)
kind_known (Take item take) = (omega arith, omega arith)
kind_known (Done item who settings) = (omega arith, omega arith)
kind_known (Force item settings) = (omega arith, omega arith)
kind_known (Restart item) = (omega arith, omega arith)
kind_known (Suspend root) = (omega arith, omega arith)
kind_known (Resume root) = (omega arith, omega arith)
kind_known (Terminate root) = (omega arith, omega arith)
kind_known (Delete root) = (omega arith, omega arith)
kind_known (Clock minutes) = (omega arith, omega arith)

-- a kind of no item
plain_format : (tag : ℕ) → ((3 < tag) × (tag < 11) → ⊥) → IsFormat body (Tagged tag) (plain_by tag)
unfolding plain_by
plain_format tag outside =
    IsFormat-if body Tagged 1 tag (made (λ t. Import t) import_text) _ imports (λ n1.
    IsFormat-if body Tagged 2 tag start _ starts (λ n2.
    IsFormat-if body Tagged 3 tag turn _ turns (λ n3.
    IsFormat-if body Tagged 11 tag (made (λ r. Suspend r) counted) _ suspends (λ n11.
    IsFormat-if body Tagged 12 tag (made (λ r. Resume r) counted) _ resumes (λ n12.
    IsFormat-if body Tagged 13 tag (made (λ r. Terminate r) counted) _ terminates (λ n13.
    IsFormat-if body Tagged 14 tag (made (λ r. Delete r) counted) _ deletes (λ n14.
    IsFormat-if body Tagged 15 tag (made (λ m. Clock m) (number w64)) (λ bytes. None) clocks (λ n15.
    IsFormat-none body (Tagged tag) (λ t h. let k = kind_known t in let e = h.1 in outside (omega arith, omega arith))))))))))

-- a kind on an item
on_item_format : (tag : ℕ) → 3 < tag → tag < 11 → IsFormat body (Tagged tag) (item_by tag)
unfolding item_by
on_item_format tag low high =
    IsFormat-if body Tagged 4 tag (made (λ x. Claim x.0 x.1) item_name) _ claims (λ n4.
    IsFormat-if body Tagged 5 tag (made (λ x. Release x.0 x.1) item_name) _ releases (λ n5.
    IsFormat-if body Tagged 6 tag transfer _ transfers (λ n6.
    IsFormat-if body Tagged 7 tag taking _ takings (λ n7.
    IsFormat-if body Tagged 8 tag done _ dones (λ n8.
    IsFormat-if body Tagged 9 tag force _ forces (λ n9.
    IsFormat-if body Tagged 10 tag (made (λ p. Restart p) item) (λ bytes. None) restarts (λ n10.
    IsFormat-none body (Tagged tag) (λ t h. omega arith))))))))

body_format : (tag : ℕ) → IsFormat body (Tagged tag) (body_by tag)
unfolding body_by
body_format tag =
    IsFormat-cond body (Tagged tag) (ltb 3 tag) (λ bytes. cond (ltb tag 11) (item_by tag bytes) (plain_by tag bytes)) (plain_by tag)
    (λ low. IsFormat-cond body (Tagged tag) (ltb tag 11) (item_by tag) (plain_by tag)
    (λ high. on_item_format tag (ltb-true 3 tag low) (ltb-true tag 11 high))
    (λ high. plain_format tag (λ r. let h = ltb-false tag 11 high in omega arith)))
    (λ low. plain_format tag (λ r. let h = ltb-false 3 tag low in omega arith))

-- ---- records

numbered_format : IsFormat (λ (x : ℕ × Transaction). record_bytes x.0 x.1) (λ (x : ℕ × Transaction). IsInRange x.0 x.1) numbered
unfolding numbered
numbered_format = joined counted_format
    (IsFormat-by kind tag_bytes body (λ n. n < 2 ^ 8) TransactionFits byte body_by byte_format (λ tag lt. body_format tag) (λ t h. let k = kind_known t in omega arith))

whole_takes : (bytes : List ℕ) (x : ℕ × Transaction) → IsBytes bytes → whole bytes ≡ Some x → (record_bytes x.0 x.1 ≡ bytes) × IsInRange x.0 x.1
unfolding whole
whole_takes bytes x b e =
    let p = bind_some (numbered bytes) (λ (y : (ℕ × Transaction) × List ℕ). cond (eqb (length y.1) 0) (Some y.0) None) x e in
    let g = guard_some (eqb (length p.0.1) 0) p.0.0 x p.2 in
    let t = numbered_format.takes bytes p.0 b p.1 in
    let nothing : p.0.1 ≡ [] = nil_from_length p.0.1 (eqb-true _ _ g.0) in
    let all : bytes ≡ record_bytes p.0.0.0 p.0.0.1 = t.parts ∙ ap (λ (r : List ℕ). record_bytes p.0.0.0 p.0.0.1 ++ r) nothing ∙ append-nil (record_bytes p.0.0.0 p.0.0.1) in
    subst (λ (z : ℕ × Transaction). (record_bytes z.0 z.1 ≡ bytes) × IsInRange z.0 z.1) g.1 (sym all, t.fits)

whole_again : (n : ℕ) (t : Transaction) → IsInRange n t → whole (record_bytes n t) ≡ Some (n, t)
unfolding whole
whole_again n t h =
    let e : numbered (record_bytes n t) ≡ Some ((n, t), []) = ap numbered (sym (append-nil (record_bytes n t))) ∙ numbered_format.again (n, t) [] h in
    rw e refl

abbrev seen : Numbered → ℕ × Transaction
seen n = (n.number, n.transaction)

pub is_read : (bytes : List ℕ) (r : Result Numbered RecordFault) → IsBytes bytes → Gives seen r (whole bytes) → IfOk r (λ n. (record_bytes n.number n.transaction ≡ bytes) × IsInRange n.number n.transaction)
is_read bytes (Ok n) b given = whole_takes bytes (seen n) b given
is_read bytes (Err e) b given = tt

pub is_same : (bytes : List ℕ) (r : Result Numbered RecordFault) → Gives seen r (whole bytes) → (n : ℕ) (t : Transaction) → IsInRange n t → record_bytes n t ≡ bytes → IfOk r (λ m. (m.number ≡ n) × (m.transaction ≡ t))
is_same bytes (Ok m) given n t h e =
    let same : seen m ≡ (n, t) = some_is (seen m) (n, t) (sym given ∙ ap whole (sym e) ∙ whole_again n t h) in
    (ap (λ (x : ℕ × Transaction). x.0) same, ap (λ (x : ℕ × Transaction). x.1) same)
is_same bytes (Err f) given n t h e = tt

none_some : {A : Type 0} (x : A) → None ≡ Some x → ⊥
none_some x e = cc

pub is_bad : (bytes : List ℕ) (r : Result Numbered RecordFault) → Gives seen r (whole bytes) → IsErrOf r BadRecord → (n : ℕ) (t : Transaction) → IsInRange n t → record_bytes n t ≡ bytes → ⊥
is_bad bytes r given fault n t h e =
    let nothing : whole bytes ≡ None = subst (λ (x : Result Numbered RecordFault). Gives seen x (whole bytes)) fault given in
    none_some (n, t) (sym nothing ∙ ap whole (sym e) ∙ whole_again n t h)
