-- How long a record is: at most 16,384 bytes and the room of its texts and settings.
use Rattle.std.proofs.Common.{◌≡◌, ℕ, ◌+◌, ◌-◌, ◌*◌, ◌^◌, ◌≤◌, min, Bool, true, false, ◌&&◌, cond, leb, List, [], ◌∷◌, ◌++◌, length, Option, Some, None, Result, Ok, Err, refl, ap, ◌∙◌, arith}
use Rattle.std.specs.Prelude.{IfOk}
use Rattle.std.specs.Global.{Vec}
use Rattle.std.specs.declared.alloc.AllocError.{AllocError}
use Rattle.std.specs.Char.{is_ascii_alphabetic}
use Rattle.std.specs.Int.{w16, w32, w64, to_be_bytes, cast_unsigned}
use Rattle.std.specs.List.{flat_map, list_all, AllByRecursion}
use Rattle.std.proofs.lemmas.Bool.{leb-true, and_parts}
use Rattle.std.proofs.lemmas.List.{length-append}
use Rattle.std.proofs.lemmas.List.Concat.{flat_map-cons}
use Rattle.std.proofs.lemmas.List.Sums.{sum_by-cons}
use Rattle.std.proofs.lemmas.List.Elements.{recursion_from_All}
use Rattle.flow_model.specs.Words.{is_name_byte}
use Rattle.flow_model.specs.declared.graphs.Value.{Value}
use Rattle.flow_model.specs.declared.graphs.Value.TheVariants.{Whole, Text}
use Rattle.flow_model.specs.declared.instances.Message.{Message}
use Rattle.flow_model.specs.declared.instances.Message.TheVariants.{Begin, Signal, End}
use Rattle.flow_model.specs.declared.instances.Part.{Part}
use Rattle.flow_model.specs.declared.instances.Path.{Path}
use Rattle.flow_model.specs.declared.instances.Who.{Who}
use Rattle.flow_model.specs.declared.instances.Who.TheVariants.{Person, Agent}
use Rattle.flow_model.specs.declared.transactions.Setting.{Setting}
use Rattle.flow_model.specs.declared.transactions.Transaction.{Transaction}
use Rattle.flow_model.specs.declared.transactions.Transaction.TheVariants.{Import, Start, Turn, Claim, Release, Transfer, Take, Done, Force, Restart, Suspend, Resume, Terminate, Delete, Clock}
use Rattle.flow_txn.specs.Records.{u64_bytes, short_bytes, part_bytes, path_bytes, is_small, value_bytes, setting_bytes, settings_bytes, key_bytes, truth_byte, message_bytes, who_bytes, body, record_bytes, text_room, settings_room, room}
use Rattle.flow_txn.specs.Ranges.{IsName, PartFits, PathFits, KeyFits, MessageFits, WhoFits, TransactionFits, IsInRange}

name_len : (s : List ℕ) → IsName s → length (short_bytes s) ≤ 33
name_len [] e = omega arith
name_len (b ∷ s) e =
    let p = and_parts (is_ascii_alphabetic b && leb (length s) 31) (list_all is_name_byte s) e in
    let q = and_parts (is_ascii_alphabetic b) (leb (length s) 31) p.0 in
    let h : length s ≤ 31 = leb-true (length s) 31 q.1 in
    omega arith

u64_len : (n : ℕ) → length (u64_bytes n) ≡ 8
u64_len n = refl

part_len : (q : Part) → PartFits q → length (part_bytes q) ≤ 41
part_len q h = let n = name_len q.name h.0 in let e = length-append (short_bytes q.name) (u64_bytes q.attempt) in let f = u64_len q.attempt in omega arith

parts_len : (qs : List Part) → AllByRecursion PartFits qs → length (flat_map part_bytes qs) ≤ 41 * length qs
parts_len [] h = omega arith
parts_len (q ∷ qs) h =
    let first = part_len q h.0 in
    let rest = parts_len qs h.1 in
    let e = ap length (flat_map-cons part_bytes q qs) ∙ length-append (part_bytes q) (flat_map part_bytes qs) in
    omega arith

path_len : (p : Path) → PathFits p → length (path_bytes p) ≤ 10464
path_len p h =
    let n = parts_len p.parts (recursion_from_All PartFits p.parts h.2) in
    let lt = h.1 in
    let e = length-append (u64_bytes p.root) (min (length p.parts) 255 ∷ flat_map part_bytes p.parts) in
    let f = u64_len p.root in
    omega arith

whole_len : (b : Bool) (x y : List ℕ) → length x ≤ 9 → length y ≤ 9 → length (cond b x y) ≤ 9
whole_len true x y f g = f
whole_len false x y f g = g

value_len : (v : Value) → length (value_bytes v) ≤ 9 + text_room v
value_len (Whole n) = let h = whole_len (is_small n) (1 ∷ to_be_bytes w32 (cast_unsigned w32 n)) (3 ∷ u64_bytes (cast_unsigned w64 n)) (omega arith) (omega arith) in omega arith
value_len (Text t) = omega arith

setting_len : (s : Setting) → length (setting_bytes s) ≤ 12 + text_room s.value
setting_len s = let h = value_len s.value in let e = length-append (to_be_bytes w16 s.leaf) (value_bytes s.value) in omega arith

many_len : (ss : List Setting) → length (flat_map setting_bytes ss) ≤ settings_room ss
many_len [] = omega arith
many_len (s ∷ ss) =
    let first = setting_len s in
    let rest = many_len ss in
    let e = ap length (flat_map-cons setting_bytes s ss) ∙ length-append (setting_bytes s) (flat_map setting_bytes ss) in
    let r = sum_by-cons (λ (x : Setting). 12 + text_room x.value) s ss in
    omega arith

settings_len : (ss : List Setting) → length (settings_bytes ss) ≤ 2 + settings_room ss
settings_len ss =
    let h = many_len ss in
    let e = length-append (to_be_bytes w16 (min (length ss) (2 ^ 16 - 1))) (flat_map setting_bytes ss) in
    omega arith

key_len : (k : Option (List ℕ)) → KeyFits k → length (key_bytes k) ≤ 34
key_len None h = omega arith
key_len (Some key) h = let n = name_len key h in omega arith

who_len : (w : Who) → WhoFits w → length (who_bytes w) ≤ 34
who_len (Person name) h = let n = name_len name h in omega arith
who_len (Agent take) h = omega arith

two_len : (a b : List ℕ) (m n : ℕ) → length a ≤ m → length b ≤ n → length (a ++ b) ≤ m + n
two_len a b m n f g = let e = length-append a b in omega arith

message_len : (m : Message) → MessageFits m → length (message_bytes m) ≤ 10600
message_len (Begin scope) h = let n = path_len scope h in omega arith
message_len (Signal scope source target truth) h =
    let a = two_len (path_bytes scope) (short_bytes source) 10464 33 (path_len scope h.0) (name_len source h.1) in
    let b = two_len (path_bytes scope ++ short_bytes source) (short_bytes target) 10497 33 a (name_len target h.2) in
    let c = two_len (path_bytes scope ++ short_bytes source ++ short_bytes target) (truth_byte truth ∷ []) 10530 1 b (omega arith) in
    omega arith
message_len (End scope) h = let n = path_len scope h in omega arith

body_len : (t : Transaction) → TransactionFits t → length (body t) ≤ 16375 + room t
body_len (Import text) h = let e = length-append (to_be_bytes w32 (min (length text) (2 ^ 32 - 1))) text in omega arith
body_len (Start root process version starter key settings) h =
    let a = two_len (u64_bytes root) (short_bytes process) 8 33 (omega arith) (name_len process h.1) in
    let b = two_len (u64_bytes root ++ short_bytes process) (to_be_bytes w32 version) 41 4 a (omega arith) in
    let c = two_len (u64_bytes root ++ short_bytes process ++ to_be_bytes w32 version) (short_bytes starter) 45 33 b (name_len starter h.3) in
    let d = two_len (u64_bytes root ++ short_bytes process ++ to_be_bytes w32 version ++ short_bytes starter) (key_bytes key) 78 34 c (key_len key h.4) in
    let e = two_len (u64_bytes root ++ short_bytes process ++ to_be_bytes w32 version ++ short_bytes starter ++ key_bytes key) (settings_bytes settings) 112 (2 + settings_room settings) d (settings_len settings) in
    omega arith
body_len (Turn queue message) h = let n = message_len message h.1 in omega arith
body_len (Claim item who) h = let n = two_len (path_bytes item) (short_bytes who) 10464 33 (path_len item h.0.0) (name_len who h.1) in omega arith
body_len (Release item who) h = let n = two_len (path_bytes item) (short_bytes who) 10464 33 (path_len item h.0.0) (name_len who h.1) in omega arith
body_len (Transfer item who to) h =
    let a = two_len (path_bytes item) (short_bytes who) 10464 33 (path_len item h.0.0) (name_len who h.1) in
    let b = two_len (path_bytes item ++ short_bytes who) (short_bytes to) 10497 33 a (name_len to h.2) in
    omega arith
body_len (Take item take) h = let n = two_len (path_bytes item) (u64_bytes take) 10464 8 (path_len item h.0.0) (omega arith) in omega arith
body_len (Done item who settings) h =
    let a = two_len (path_bytes item) (who_bytes who) 10464 34 (path_len item h.0.0) (who_len who h.1) in
    let b = two_len (path_bytes item ++ who_bytes who) (settings_bytes settings) 10498 (2 + settings_room settings) a (settings_len settings) in
    omega arith
body_len (Force item settings) h = let n = two_len (path_bytes item) (settings_bytes settings) 10464 (2 + settings_room settings) (path_len item h.0.0) (settings_len settings) in omega arith
body_len (Restart item) h = let n = path_len item h.0 in omega arith
body_len (Suspend root) h = omega arith
body_len (Resume root) h = omega arith
body_len (Terminate root) h = omega arith
body_len (Delete root) h = omega arith
body_len (Clock minutes) h = omega arith

pub record_len : (number : ℕ) (t : Transaction) → IsInRange number t → length (record_bytes number t) ≤ 16384 + room t
record_len number t h = let n = body_len t h.1 in omega arith

pub is_short : (r : Result (Vec ℕ) AllocError) (number : ℕ) (t : Transaction) → IfOk r (λ p. p.items ≡ record_bytes number t) → IsInRange number t → IfOk r (λ p. length p.items ≤ 16384 + room t)
is_short (Ok p) number t bytes h = let e = ap length bytes in let n = record_len number t h in omega arith
is_short (Err e) number t bytes h = tt
