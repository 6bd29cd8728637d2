-- What a buffer of records shows: a record in range is read back, and more bytes behind the others change no row.
use Rattle.std.proofs.Common.{◌≡◌, ℕ, ◌+◌, ◌<◌, ◌≤◌, true, false, Option, Some, None, Ok, Err, List, [], ◌∷◌, ◌++◌, length, take, drop, slice_set, option_map, IfSome, get_or, Bool, if◌then◌else◌, refl, sym, ap, subst, ◌∙◌, arith}
use Rattle.std.specs.List.{filter}
use Rattle.std.specs.Option.{is_some}
use Rattle.std.proofs.lemmas.List.{length-take, take-take, drop-take, drop_all, at_drop_more, map-append, map-set}
use Rattle.std.proofs.lemmas.List.Elements.{All-head, All-tail, All-push, All-set, All-weaker, All-get_or}
use Rattle.flow_model.specs.declared.transactions.Numbered.{Numbered}
use Rattle.flow_model.specs.declared.transactions.Transaction.{Transaction}
use Rattle.flow_txn.proofs.Formats.{IsBytes, IsBytes-drop, IsBytes-take}
use Rattle.flow_txn.proofs.KindFormats.{is_read, is_same, is_bad}
use Rattle.flow_txn.specs.Ranges.{IsInRange}
use Rattle.flow_txn.specs.Reading.{whole}
use Rattle.flow_txn.specs.Records.{record_bytes}
use Rattle.flow_txn.specs.declared.faults.RecordFault.TheVariants.{BadRecord}
use Rattle.live_history.specs.Rows.{HistoryRow, has_turn}
use Rattle.live_history.specs.Transactions.{is_turn}
use Rattle.live_history.specs.Kept.{record_of, bytes_at, row_read, read_from, row_over, shown_rows, IsKept, AreKept, Extends}
use Rattle.live_history.specs.declared.kept_rows.Row.{Row}
use Rattle.live_history.specs.declared.kept_rows.Row.TheVariants.{Gone, Record, Whole}

-- ---- records

-- a transaction and its number
abbrev pub numbered_of : ℕ → Transaction → Numbered
numbered_of number t = record { number = number; transaction = t }

-- the transaction of a pair
abbrev pair_of : ℕ × Transaction → Numbered
pair_of x = record { number = x.0; transaction = x.1 }

again_by : (n : Numbered) (read : Option (ℕ × Transaction)) → whole (record_of n) ≡ read → IsInRange n.number n.transaction → row_read read ≡ Some n
again_by n None e fits = absurd (is_bad (record_of n) (Err BadRecord) e refl n.number n.transaction fits refl)
again_by n (Some x) e fits =
    let same = is_same (record_of n) (Ok (pair_of x)) e n.number n.transaction fits refl in
    ap (λ (number : ℕ). Some (record { number = number; transaction = x.1 })) same.0
    ∙ ap (λ (t : Transaction). Some (record { number = n.number; transaction = t })) same.1

-- a transaction in range is read back from its record
pub read_again : (n : Numbered) → IsInRange n.number n.transaction → read_from (record_of n) ≡ Some n
read_again n fits = again_by n (whole (record_of n)) refl fits

some_same : {A : Type 0} (x y : A) → Some x ≡ Some y → x ≡ y
some_same x y e = cc

spelled_by : (bytes : List ℕ) (n : Numbered) (read : Option (ℕ × Transaction)) → IsBytes bytes → whole bytes ≡ read → row_read read ≡ Some n
    → (record_of n ≡ bytes) × IsInRange n.number n.transaction
spelled_by bytes n None b e some = absurd cc
spelled_by bytes n (Some x) b e some =
    subst (λ (m : Numbered). (record_of m ≡ bytes) × IsInRange m.number m.transaction) (some_same (pair_of x) n some)
    (is_read bytes (Ok (pair_of x)) b e)

-- bytes from which a transaction in range is read are its record
pub spelled : (bytes : List ℕ) (n : Numbered) → IsBytes bytes → read_from bytes ≡ Some n → (record_of n ≡ bytes) × IsInRange n.number n.transaction
spelled bytes n b e = spelled_by bytes n (whole bytes) b refl e

-- what a decoder that read the bytes gives
pub gives_read : (bytes : List ℕ) (n : Numbered) → (record_bytes n.number n.transaction ≡ bytes) × IsInRange n.number n.transaction → read_from bytes ≡ Some n
gives_read bytes n read = ap read_from (sym read.0) ∙ read_again n read.1

-- the record of a transaction in range is one
pub there_again : (bytes : List ℕ) (n : Numbered) → IsInRange n.number n.transaction → bytes ≡ record_of n → is_some (read_from bytes) ≡ true
there_again bytes n fits are = ap (λ (row : HistoryRow). is_some row) (ap read_from are ∙ read_again n fits)

-- there is a transaction
pub some_there : (row : HistoryRow) → is_some row ≡ true → (n : Numbered) × (row ≡ Some n)
some_there None e = absurd cc
some_there (Some n) e = (n, refl)

-- no record is bad bytes
pub never_bad : (bytes : List ℕ) → IsBytes bytes → is_some (read_from bytes) ≡ true
    → ((number : ℕ) (t : Transaction) → IsInRange number t → record_bytes number t ≡ bytes → ⊥) → ⊥
never_bad bytes b there bad =
    let n = some_there (read_from bytes) there in
    let is = spelled bytes n.0 b n.1 in
    bad n.0.number n.0.transaction is.1 is.0

pub IsBytes-at : (records : List ℕ) (start size : ℕ) → IsBytes records → IsBytes (bytes_at records start size)
IsBytes-at records start size b = IsBytes-take size (drop start records) (IsBytes-drop start records b)

-- the bytes of a row are the record of what it shows
pub record_shown : (records : List ℕ) (start size : ℕ) (bytes : List ℕ) → IsBytes records → IsKept records (Record start size) → bytes ≡ bytes_at records start size
    → Some bytes ≡ option_map record_of (row_over records (Record start size))
record_shown records start size bytes b kept are =
    let n = some_there (read_from (bytes_at records start size)) kept.1 in
    let is = spelled (bytes_at records start size) n.0 (IsBytes-at records start size b) n.1 in
    ap (λ (l : List ℕ). Some l) (are ∙ sym is.0) ∙ sym (ap (λ (row : HistoryRow). option_map record_of row) n.1)

-- they tell whether it shows a Turn
pub turn_shown : (records : List ℕ) (start size : ℕ) (bytes : List ℕ) (turn : Bool) → IsBytes records → IsKept records (Record start size) → bytes ≡ bytes_at records start size
    → ((number : ℕ) (t : Transaction) → record_bytes number t ≡ bytes → turn ≡ is_turn t) → turn ≡ has_turn (row_over records (Record start size))
turn_shown records start size bytes turn b kept are tells =
    let n = some_there (read_from (bytes_at records start size)) kept.1 in
    let is = spelled (bytes_at records start size) n.0 (IsBytes-at records start size b) n.1 in
    tells n.0.number n.0.transaction (is.0 ∙ sym are) ∙ sym (ap (λ (row : HistoryRow). has_turn row) n.1)

-- ---- a longer buffer

pub bytes_extended : (old new : List ℕ) (start size : ℕ) → Extends old new → start + size ≤ length old → bytes_at new start size ≡ bytes_at old start size
bytes_extended old new start size more within =
    sym (drop-take start size new) ∙ ap (drop start) (sym (take-take (start + size) (length old) new within) ∙ ap (take (start + size)) more)
    ∙ drop-take start size old

longer : (old new : List ℕ) → Extends old new → length old ≤ length new
longer old new more = let n = ap length more in omega (arith, n, length-take (length old) new)

pub shown_extended : (old new : List ℕ) (row : Row) → Extends old new → IsKept old row → row_over new row ≡ row_over old row
shown_extended old new Gone more kept = refl
shown_extended old new (Record start size) more kept = ap read_from (bytes_extended old new start size more kept.0)
shown_extended old new (Whole n) more kept = refl

pub kept_extended : (old new : List ℕ) (row : Row) → Extends old new → IsKept old row → IsKept new row
kept_extended old new Gone more kept = tt
kept_extended old new (Record start size) more kept =
    let l = longer old new more in
    (omega (arith, kept.0), ap (λ (bytes : List ℕ). is_some (read_from bytes)) (bytes_extended old new start size more kept.0) ∙ kept.1)
kept_extended old new (Whole n) more kept = tt

pub rows_extended : (old new : List ℕ) (rows : List Row) → Extends old new → AreKept old rows → shown_rows new rows ≡ shown_rows old rows
rows_extended old new [] more kept = refl
rows_extended old new (row ∷ rows) more kept =
    ap (λ (r : HistoryRow). r ∷ shown_rows new rows) (shown_extended old new row more (All-head (IsKept old) row rows kept))
    ∙ ap (λ (l : List HistoryRow). row_over old row ∷ l) (rows_extended old new rows more (All-tail (IsKept old) row rows kept))

pub all_extended : (old new : List ℕ) (rows : List Row) → Extends old new → AreKept old rows → AreKept new rows
all_extended old new rows more kept = All-weaker (IsKept old) (IsKept new) (λ row k. kept_extended old new row more k) rows kept

-- one row more over the longer buffer
pub kept_pushed : (old new : List ℕ) (rows longer_ : List Row) (row : Row) → Extends old new → AreKept old rows → IsKept new row → longer_ ≡ rows ++ row ∷ [] → AreKept new longer_
kept_pushed old new rows longer_ row more kept one are =
    subst (λ (l : List Row). AreKept new l) (sym are) (All-push (IsKept new) rows row (all_extended old new rows more kept) one)

pub shown_pushed : (old new : List ℕ) (rows longer_ : List Row) (row : Row) (n : Numbered) → Extends old new → AreKept old rows → row_over new row ≡ Some n → longer_ ≡ rows ++ row ∷ []
    → shown_rows new longer_ ≡ shown_rows old rows ++ Some n ∷ []
shown_pushed old new rows longer_ row n more kept one are =
    ap (shown_rows new) are ∙ map-append (row_over new) rows (row ∷ [])
    ∙ ap (λ (l : List HistoryRow). l ++ row_over new row ∷ []) (rows_extended old new rows more kept)
    ∙ ap (λ (r : HistoryRow). shown_rows old rows ++ r ∷ []) one

-- a row that is gone
pub kept_cleared : (records : List ℕ) (rows others : List Row) (place : ℕ) → AreKept records rows → others ≡ slice_set rows place Gone → AreKept records others
kept_cleared records rows others place kept are =
    subst (λ (l : List Row). AreKept records l) (sym are) (All-set (IsKept records) rows place Gone tt kept)

pub shown_cleared : (records : List ℕ) (rows others : List Row) (place : ℕ) → others ≡ slice_set rows place Gone → shown_rows records others ≡ slice_set (shown_rows records rows) place None
shown_cleared records rows others place are = ap (shown_rows records) are ∙ map-set (row_over records) rows place Gone

-- a row that was added
pub kept_some : (records : List ℕ) (added : Option Row) (row : Row) (bytes : List ℕ) (n : Numbered) → added ≡ Some row → IfSome added (λ r. IsKept records r × (row_over records r ≡ read_from bytes))
    → read_from bytes ≡ Some n → IsKept records row × (row_over records row ≡ Some n)
kept_some records added row bytes n is kept read =
    let one : IsKept records row × (row_over records row ≡ read_from bytes) = subst (λ (o : Option Row). IfSome o (λ r. IsKept records r × (row_over records r ≡ read_from bytes))) is kept in
    (one.0, one.1 ∙ read)

-- ---- how many rows pass a test

-- how many of these rows pass
abbrev pub shown_count : (HistoryRow → Bool) → List ℕ → List Row → ℕ
shown_count test records rows = length (filter test (shown_rows records rows))

cons_by : (row : HistoryRow) (found : List HistoryRow) (passes : Bool) → length (if passes then row ∷ found else found) ≡ (if passes then length found + 1 else length found)
cons_by row found true = omega arith
cons_by row found false = refl

cons_count : (test : HistoryRow → Bool) (row : HistoryRow) (rest : List HistoryRow) (passes : Bool) → passes ≡ test row
    → length (filter test (row ∷ rest)) ≡ (if passes then length (filter test rest) + 1 else length (filter test rest))
cons_count test row rest passes is =
    cons_by row (filter test rest) (test row) ∙ ap (λ (b : Bool). if b then length (filter test rest) + 1 else length (filter test rest)) (sym is)

count_step : (passes : Bool) (now count rest left all : ℕ) → now ≡ (if passes then count + 1 else count) → left ≡ (if passes then rest + 1 else rest) → count + left ≡ all → now + rest ≡ all
count_step true now count rest left all is more so_far = omega arith
count_step false now count rest left all is more so_far = omega arith

-- the row at a place is kept
kept_at : (records : List ℕ) (rows : List Row) (i : ℕ) (row : Row) → i < length rows → row ≡ get_or rows i row → AreKept records rows → IsKept records row
kept_at records rows i row less is kept = subst (λ (r : Row). IsKept records r) (sym is) (All-get_or (IsKept records) rows i row less kept)

-- one row more
pub counted_more : (test : HistoryRow → Bool) (records : List ℕ) (rows : List Row) (i now count : ℕ) (row : Row) (passes : Bool) → i < length rows → row ≡ get_or rows i row → AreKept records rows
    → (IsKept records row → passes ≡ test (row_over records row)) → now ≡ (if passes then count + 1 else count)
    → count + shown_count test records (drop i rows) ≡ shown_count test records rows → now + shown_count test records (drop (i + 1) rows) ≡ shown_count test records rows
counted_more test records rows i now count row passes less is kept tells adds so_far =
    let step = at_drop_more (shown_count test records) rows i row less ∙ ap (λ (r : Row). shown_count test records (r ∷ drop (i + 1) rows)) (sym is) in
    count_step passes now count (shown_count test records (drop (i + 1) rows)) (shown_count test records (drop i rows)) (shown_count test records rows) adds
    (step ∙ cons_count test (row_over records row) (shown_rows records (drop (i + 1) rows)) passes (tells (kept_at records rows i row less is kept))) so_far

-- all rows
pub counted_all : (test : HistoryRow → Bool) (records : List ℕ) (rows : List Row) (i count : ℕ) → length rows ≤ i → count + shown_count test records (drop i rows) ≡ shown_count test records rows
    → count ≡ shown_count test records rows
counted_all test records rows i count past so_far =
    let none : shown_count test records (drop i rows) ≡ 0 = ap (shown_count test records) (drop_all i rows past) in
    omega arith
