-- What a row more, and rows that are taken away, change of the live transactions and of the places of each root.
use Rattle.std.proofs.Common.{◌≡◌, ℕ, suc, ◌+◌, ◌<◌, ◌≤◌, ◌==◌, Bool, true, false, if◌then◌else◌, Option, Some, None, Result, Ok, Err, OnErr, List, [], ◌∷◌, ◌++◌, length, map, drop, get_or, slice_set, option_map, refl, sym, ap, ◌∙◌, arith}
use Rattle.std.specs.List.{filter, filter_map, cons_option, count_by}
use Rattle.std.specs.Option.{is_some, option_and_then}
use Rattle.std.specs.Global.{Vec}
use Rattle.std.proofs.Math.Seq.{set-append_seam, get_or-append_seam}
use Rattle.std.proofs.lemmas.Bool.Decides.{nat_tests}
use Rattle.std.proofs.lemmas.Grind.{common_steps}
use Rattle.std.proofs.lemmas.List.{append_assoc, append-nil, at_drop_more, drop_all, length-append}
use Rattle.std.proofs.lemmas.List.Elements.{filter_map-append}
use Rattle.std.proofs.lemmas.List.Sums.{length-filter}
use Rattle.std.proofs.lemmas.Option.{slice_get-get_or}
use Rattle.flow_model.specs.declared.transactions.Numbered.{Numbered}
use Rattle.live_history.specs.Kept.{record_of, records_of}
use Rattle.live_history.specs.Rows.{HistoryRow, present, is_row_about, has_turn, places_from, place_if, cleared, transaction_at}
use Rattle.live_history.specs.Transactions.{root_about, is_root, is_turn, about, without_root}

-- a row behind the others
pub one_more : (rows : List HistoryRow) (n : Numbered) → present (rows ++ Some n ∷ []) ≡ present rows ++ n ∷ []
one_more rows n = filter_map-append (λ row. row) rows (Some n ∷ [])

pub none_more : (rows : List HistoryRow) → present (rows ++ None ∷ []) ≡ present rows
none_more rows = filter_map-append (λ row. row) rows (None ∷ []) ∙ append-nil (present rows)

-- its place is the number of rows before it
step_more : (b : Bool) (place : ℕ) (longer shorter more : List ℕ) → longer ≡ shorter ++ more → (if b then place ∷ longer else longer) ≡ (if b then place ∷ shorter else shorter) ++ more
step_more true place longer shorter more e = ap (λ l. place ∷ l) e
step_more false place longer shorter more e = e

pub places_more : (root place : ℕ) (rows : List HistoryRow) (row : HistoryRow) → places_from root place (rows ++ row ∷ []) ≡ places_from root place rows ++ place_if (is_row_about root row) (place + length rows)
places_more root place [] row = grind (arith, common_steps)
places_more root place (r ∷ rows) row =
    let later : (place + 1) + length rows ≡ place + length (r ∷ rows) = omega arith in
    step_more (is_row_about root r) place (places_from root (place + 1) (rows ++ row ∷ [])) (places_from root (place + 1) rows) (place_if (is_row_about root row) (place + length (r ∷ rows)))
    (places_more root (place + 1) rows row ∙ ap (λ at. places_from root (place + 1) rows ++ place_if (is_row_about root row) at) later)

-- a row that is about a root is taken away
abbrev pub hidden : ℕ → HistoryRow → HistoryRow
hidden root row = if is_row_about root row then None else row

one_longer : (front : List HistoryRow) (x : HistoryRow) (n : ℕ) → n ≡ length front → n + 1 ≡ length (front ++ x ∷ [])
one_longer front x n e = omega (arith, e, length-append front (x ∷ []))

cleared_step : (root : ℕ) (front rows : List HistoryRow) (x : HistoryRow) (n : ℕ) → cleared (places_from root (n + 1) rows) ((front ++ x ∷ []) ++ rows) ≡ (front ++ x ∷ []) ++ map (hidden root) rows
    → cleared (places_from root (n + 1) rows) (front ++ x ∷ rows) ≡ front ++ x ∷ map (hidden root) rows
cleared_step root front rows x n is =
    ap (cleared (places_from root (n + 1) rows)) (sym (append_assoc front (x ∷ []) rows)) ∙ is
    ∙ append_assoc front (x ∷ []) (map (hidden root) rows)

cleared_by : (root : ℕ) (front rows : List HistoryRow) (row : HistoryRow) (n : ℕ) → n ≡ length front
    → ((x : HistoryRow) → cleared (places_from root (n + 1) rows) (front ++ x ∷ rows) ≡ front ++ x ∷ map (hidden root) rows) → (b : Bool)
    → cleared (if b then n ∷ places_from root (n + 1) rows else places_from root (n + 1) rows) (front ++ row ∷ rows)
    ≡ front ++ (if b then None else row) ∷ map (hidden root) rows
cleared_by root front rows row n e step true =
    ap (cleared (places_from root (n + 1) rows)) (ap (λ i. slice_set (front ++ row ∷ rows) i None) e ∙ set-append_seam front row rows None) ∙ step None
cleared_by root front rows row n e step false = step row

pub cleared_behind : (root : ℕ) (front rows : List HistoryRow) (n : ℕ) → n ≡ length front → cleared (places_from root n rows) (front ++ rows) ≡ front ++ map (hidden root) rows
cleared_behind root front [] n e = refl
cleared_behind root front (row ∷ rows) n e =
    cleared_by root front rows row n e
    (λ x. cleared_step root front rows x n (cleared_behind root (front ++ x ∷ []) rows (n + 1) (one_longer front x n e)))
    (is_row_about root row)

-- what is live without them
pub present_hidden : (root : ℕ) (rows : List HistoryRow) → present (map (hidden root) rows) ≡ without_root root (present rows)
present_hidden root [] = refl
present_hidden root (None ∷ rows) = present_hidden root rows
present_hidden root (Some n ∷ rows) = grind (arith, common_steps, present_hidden root rows)

-- where nothing is about a root, nothing is taken away
pub present_without : (root place : ℕ) (rows : List HistoryRow) → places_from root place rows ≡ [] → present rows ≡ without_root root (present rows)
present_without root place [] none = refl
present_without root place (None ∷ rows) none = present_without root (place + 1) rows none
present_without root place (Some n ∷ rows) none = grind (arith, common_steps, present_without root (place + 1) rows)

-- the other rows keep their places
pub places_hidden : (root other place : ℕ) (rows : List HistoryRow) → places_from other place (map (hidden root) rows) ≡ (if root == other then [] else places_from other place rows)
places_hidden root other place [] = grind (arith, common_steps)
places_hidden root other place (None ∷ rows) = places_hidden root other (place + 1) rows
places_hidden root other place (Some n ∷ rows) = grind (arith, common_steps, nat_tests, places_hidden root other (place + 1) rows)

-- the transactions at the places of a root are those about it
at_seam : (front rows : List HistoryRow) (row : HistoryRow) (n : ℕ) → n ≡ length front → transaction_at (front ++ row ∷ rows) n ≡ row
at_seam front rows row n e =
    let within : n < length (front ++ row ∷ rows) = omega (arith, e, length-append front (row ∷ rows)) in
    ap (option_and_then (λ r. r)) (slice_get-get_or (front ++ row ∷ rows) n None within)
    ∙ ap (λ i. get_or (front ++ row ∷ rows) i None) e ∙ get_or-append_seam front row rows None

found_step : (root : ℕ) (front rows : List HistoryRow) (row : HistoryRow) (n : ℕ) → filter_map (transaction_at ((front ++ row ∷ []) ++ rows)) (places_from root (n + 1) rows) ≡ about root (present rows)
    → filter_map (transaction_at (front ++ row ∷ rows)) (places_from root (n + 1) rows) ≡ about root (present rows)
found_step root front rows row n is =
    ap (λ (l : List HistoryRow). filter_map (transaction_at l) (places_from root (n + 1) rows)) (sym (append_assoc front (row ∷ []) rows)) ∙ is

found_by : (root : ℕ) (front rows : List HistoryRow) (m : Numbered) (n : ℕ) → n ≡ length front
    → filter_map (transaction_at (front ++ Some m ∷ rows)) (places_from root (n + 1) rows) ≡ about root (present rows) → (b : Bool)
    → filter_map (transaction_at (front ++ Some m ∷ rows)) (if b then n ∷ places_from root (n + 1) rows else places_from root (n + 1) rows)
    ≡ (if b then m ∷ about root (present rows) else about root (present rows))
found_by root front rows m n e step true =
    ap (λ o. cons_option o (filter_map (transaction_at (front ++ Some m ∷ rows)) (places_from root (n + 1) rows))) (at_seam front rows (Some m) n e)
    ∙ ap (λ l. m ∷ l) step
found_by root front rows m n e step false = step

pub found_behind : (root : ℕ) (front rows : List HistoryRow) (n : ℕ) → n ≡ length front → filter_map (transaction_at (front ++ rows)) (places_from root n rows) ≡ about root (present rows)
found_behind root front [] n e = refl
found_behind root front (None ∷ rows) n e =
    found_step root front rows None n (found_behind root (front ++ None ∷ []) rows (n + 1) (one_longer front None n e))
found_behind root front (Some m ∷ rows) n e =
    found_by root front rows m n e
    (found_step root front rows (Some m) n (found_behind root (front ++ Some m ∷ []) rows (n + 1) (one_longer front (Some m) n e)))
    (is_root root (root_about m.transaction))

-- the number of rows that have a transaction
pub length_present : (rows : List HistoryRow) → length (filter is_some rows) ≡ length (present rows)
length_present [] = refl
length_present (None ∷ rows) = length_present rows
length_present (Some n ∷ rows) = ap suc (length_present rows)

-- the number of rows that have a Turn
turns_step : (n : Numbered) (rows : List HistoryRow) (live : List Numbered) (turn : Bool) → length rows ≡ length live → length (if turn then Some n ∷ rows else rows) ≡ length (if turn then n ∷ live else live)
turns_step n rows live true same = ap suc same
turns_step n rows live false same = same

turns_found : (rows : List HistoryRow) → length (filter has_turn rows) ≡ length (filter (λ n. is_turn n.transaction) (present rows))
turns_found [] = refl
turns_found (None ∷ rows) = turns_found rows
turns_found (Some n ∷ rows) =
    turns_step n (filter has_turn rows) (filter (λ m. is_turn m.transaction) (present rows)) (is_turn n.transaction) (turns_found rows)

pub turns_present : (rows : List HistoryRow) → length (filter has_turn rows) ≡ count_by (λ n. is_turn n.transaction) (present rows)
turns_present rows = turns_found rows ∙ length-filter (λ n. is_turn n.transaction) (present rows)

-- all places of a root are cleared
pub cleared_all : (root : ℕ) (rows : List HistoryRow) → cleared (places_from root 0 rows) rows ≡ map (hidden root) rows
cleared_all root rows = cleared_behind root [] rows 0 refl

-- a row behind the others that has nothing, and one that has a transaction
pub places_none : (root : ℕ) (rows : List HistoryRow) → places_from root 0 (rows ++ None ∷ []) ≡ places_from root 0 rows
places_none root rows = places_more root 0 rows None ∙ append-nil (places_from root 0 rows)

pub places_some : (root : ℕ) (rows : List HistoryRow) (n : Numbered) (named : Option ℕ) (place : ℕ) → named ≡ root_about n.transaction → place ≡ length rows
    → places_from root 0 rows ++ place_if (is_root root named) place ≡ places_from root 0 (rows ++ Some n ∷ [])
places_some root rows n named place is at =
    ap (λ o. places_from root 0 rows ++ place_if (is_root root o) place) is
    ∙ ap (λ i. places_from root 0 rows ++ place_if (is_root root (root_about n.transaction)) i) (at ∙ sym (omega arith))
    ∙ sym (places_more root 0 rows (Some n))

set_last : (rows : List HistoryRow) (before row : HistoryRow) (place : ℕ) → place ≡ length rows → slice_set (rows ++ before ∷ []) place row ≡ rows ++ row ∷ []
set_last rows before row place at = ap (λ i. slice_set (rows ++ before ∷ []) i row) at ∙ set-append_seam rows before [] row

-- a row behind the others whose transaction is taken away again
pub cleared_last : (after longer rows : List HistoryRow) (n : Numbered) (place : ℕ) → longer ≡ rows ++ Some n ∷ [] → place ≡ length rows → after ≡ slice_set longer place None
    → after ≡ rows ++ None ∷ []
cleared_last after longer rows n place are at now =
    now ∙ ap (λ (l : List HistoryRow). slice_set l place None) are ∙ set_last rows (Some n) None place at

pub on_err : {T E : Type 0} {P : Type 0} (r : Result T E) → P → OnErr r P
on_err (Ok x) p = tt
on_err (Err e) p = p

-- what is found at all places of a root are the transactions about it
pub all_found : (root : ℕ) (rows : List HistoryRow) (places : List ℕ) (index : ℕ) (found : List Numbered) → places ≡ places_from root 0 rows → length places ≤ index
    → found ++ filter_map (transaction_at rows) (drop index places) ≡ filter_map (transaction_at rows) places → found ≡ about root (present rows)
all_found root rows places index found are past so_far =
    sym (append-nil found) ∙ ap (λ l. found ++ filter_map (transaction_at rows) l) (sym (drop_all index places past)) ∙ so_far
    ∙ ap (filter_map (transaction_at rows)) are ∙ found_behind root [] rows 0 refl

-- ---- one row after the other

at_place : (rows : List HistoryRow) (place : ℕ) → place < length rows → transaction_at rows place ≡ get_or rows place None
at_place rows place less = ap (option_and_then (λ r. r)) (slice_get-get_or rows place None less)

left_at : (rows : List HistoryRow) (place : ℕ) → place < length rows → present (drop place rows) ≡ cons_option (transaction_at rows place) (present (drop (place + 1) rows))
left_at rows place less =
    at_drop_more present rows place None less ∙ ap (λ (r : HistoryRow). cons_option r (present (drop (place + 1) rows))) (sym (at_place rows place less))

-- a row that has a transaction brings it
pub next_some : (rows : List HistoryRow) (place : ℕ) (found : HistoryRow) (n : Numbered) (left : List Numbered) → place < length rows → found ≡ transaction_at rows place → found ≡ Some n
    → present (drop place rows) ≡ left → left ≡ n ∷ present (drop (place + 1) rows)
next_some rows place found n left less is some so_far =
    sym so_far ∙ left_at rows place less ∙ ap (λ (r : HistoryRow). cons_option r (present (drop (place + 1) rows))) (sym is ∙ some)

-- another one brings none
pub next_none : (rows : List HistoryRow) (place : ℕ) (left : List Numbered) → place < length rows → transaction_at rows place ≡ None
    → present (drop place rows) ≡ left → present (drop (place + 1) rows) ≡ left
next_none rows place left less none so_far =
    sym (left_at rows place less ∙ ap (λ (r : HistoryRow). cons_option r (present (drop (place + 1) rows))) none) ∙ so_far

spelled_row : (row : HistoryRow) (bytes : List ℕ) (rest : List Numbered) → Some bytes ≡ option_map record_of row → records_of (cons_option row rest) ≡ bytes ∷ records_of rest
spelled_row None bytes rest is = absurd cc
spelled_row (Some n) bytes rest is = let same : record_of n ≡ bytes = cc in ap (λ (b : List ℕ). b ∷ records_of rest) same

no_row : (row : HistoryRow) → None ≡ option_map record_of row → row ≡ None
no_row None is = refl
no_row (Some n) is = absurd cc

-- the same of its record
pub next_spelled : (rows : List HistoryRow) (place : ℕ) (found : Option (Vec ℕ)) (bytes : Vec ℕ) (left : List Numbered) → place < length rows
    → option_map (λ v. v.items) found ≡ option_map record_of (transaction_at rows place) → found ≡ Some bytes → present (drop place rows) ≡ left
    → records_of left ≡ bytes.items ∷ records_of (present (drop (place + 1) rows))
next_spelled rows place found bytes left less is some so_far =
    ap records_of (sym so_far ∙ left_at rows place less)
    ∙ spelled_row (transaction_at rows place) bytes.items (present (drop (place + 1) rows)) (sym (ap (option_map (λ (v : Vec ℕ). v.items)) some) ∙ is)

pub next_unspelled : (rows : List HistoryRow) (place : ℕ) (found : Option (Vec ℕ)) (left : List Numbered) → place < length rows
    → option_map (λ v. v.items) found ≡ option_map record_of (transaction_at rows place) → found ≡ None → present (drop place rows) ≡ left
    → present (drop (place + 1) rows) ≡ left
next_unspelled rows place found left less is none so_far =
    next_none rows place left less (no_row (transaction_at rows place) (sym (ap (option_map (λ (v : Vec ℕ). v.items)) none) ∙ is)) so_far
