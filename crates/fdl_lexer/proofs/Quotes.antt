-- Bytes between single quotes.
use Rattle.std.proofs.Common.{◌≡◌, ℕ, ◌+◌, ◌<◌, ◌≤◌, Bool, true, false, List, [], ◌∷◌, ◌++◌, length, take, drop, get_or, slice_index, cond, arith, refl, sym, ◌∙◌, ap, length-append, add-one, inl, inr, lit<, Some, suc, subst}
use Rattle.std.proofs.Math.Seq.{get_or-append_seam}
use Rattle.std.proofs.lemmas.List.{take-append-drop, take_more, get_or_past}
use Rattle.std.proofs.lemmas.List.Folds.{length-prefix_len}
use Rattle.std.proofs.lemmas.Bool.{cases_lt, le-leb}
use Rattle.std.proofs.lemmas.Bool.Decides.{nat_tests}
use Rattle.std.proofs.lemmas.Grind.{common_steps}
use Rattle.std.specs.Prelude.{nat_le}
use Rattle.std.specs.List.{prefix_len, list_all}
use Rattle.std.specs.Char.{is_ascii_digit, is_ascii_alphabetic}
use Rattle.flow_model.specs.Words.{is_name_byte, is_name}
use Rattle.fdl_lexer.specs.Bytes.{is_item_byte, is_item, single_quoted}
use Rattle.fdl_lexer.specs.Tokens.{AreFirst, FindsToken}
use Rattle.fdl_lexer.specs.declared.kinds.What.TheVariants.{Name, Item}

run_step : (p : ℕ → Bool) (x : ℕ) (xs : List ℕ) (b : Bool) → p x ≡ b → list_all p (take (prefix_len p xs) xs) ≡ true → list_all p (take (cond b (1 + prefix_len p xs) 0) (x ∷ xs)) ≡ true
run_step p x xs true e all = let one : 1 + prefix_len p xs ≡ suc (prefix_len p xs) = omega arith in rw (one, e) all
run_step p x xs false e all = refl

-- the run at the front passes
pub run_passes : (p : ℕ → Bool) (xs : List ℕ) → list_all p (take (prefix_len p xs) xs) ≡ true
run_passes p [] = refl
run_passes p (x ∷ xs) = run_step p x xs (p x) refl (run_passes p xs)

-- a run ends before the first byte that fails
pub run_ends : (p : ℕ → Bool) (xs : List ℕ) (b : ℕ) (rest : List ℕ) → list_all p xs ≡ true → p b ≡ false → prefix_len p (xs ++ b ∷ rest) ≡ length xs
run_ends p [] b rest all stop = grind (arith, common_steps)
run_ends p (x ∷ xs) b rest all stop = grind (arith, common_steps, run_ends p xs b rest)

-- what stands there lies inside
pub within : (xs : List ℕ) (i x : ℕ) → get_or xs i 0 ≡ x → 0 < x → i < length xs
within xs i x at some =
    elim (cases_lt i (length xs)) [
      | inl lt ↦ lt
      | inr le ↦ let e : get_or xs i 0 ≡ 0 = get_or_past xs i 0 le in absurd (omega arith)
    ]

-- bytes that begin with others go on with what is left
pub front_is : (xs : List ℕ) (n : ℕ) (bytes : List ℕ) → AreFirst xs n bytes → bytes ≡ xs ++ drop n bytes
front_is xs n bytes first = sym (take-append-drop n bytes) ∙ ap (λ (front : List ℕ). front ++ drop n bytes) first.0

-- what quoted bytes tell of the run behind the first quote
pub record IsQuotedRun (p : ℕ → Bool) (xs : List ℕ) (n : ℕ) (bytes : List ℕ) : Type 0 where
  pub run : prefix_len p (drop 1 bytes) ≡ length xs
  pub quote : slice_index bytes (length xs + 1) ≡ 39
  pub size : n ≡ length xs + 2

pub quoted_run_at : (p : ℕ → Bool) (xs rest bytes : List ℕ) → p 39 ≡ false → list_all p xs ≡ true → bytes ≡ 39 ∷ (xs ++ 39 ∷ rest) → (prefix_len p (drop 1 bytes) ≡ length xs) × (slice_index bytes (length xs + 1) ≡ 39)
quoted_run_at p xs rest bytes stop all e =
    (rw e (run_ends p xs 39 rest all stop), rw (e, add-one (length xs)) (get_or-append_seam xs 39 rest 0))

pub quoted_run : (p : ℕ → Bool) (xs : List ℕ) (n : ℕ) (bytes : List ℕ) → p 39 ≡ false → list_all p xs ≡ true → AreFirst (single_quoted xs) n bytes → IsQuotedRun p xs n bytes
quoted_run p xs n bytes stop all first =
    let e : bytes ≡ 39 ∷ (xs ++ 39 ∷ drop n bytes) = grind (arith, common_steps, front_is (single_quoted xs) n bytes first) in
    let r = quoted_run_at p xs (drop n bytes) bytes stop all e in
    record { run = r.0; quote = r.1; size = grind (arith, common_steps, first.1) }

-- the run between two quotes, quoted
pub quoted_here : (p : ℕ → Bool) (bytes : List ℕ) → slice_index bytes 0 ≡ 39 → slice_index bytes (prefix_len p (drop 1 bytes) + 1) ≡ 39 → AreFirst (single_quoted (take (prefix_len p (drop 1 bytes)) (drop 1 bytes))) (prefix_len p (drop 1 bytes) + 2) bytes
quoted_here p [] first last = absurd (omega arith)
quoted_here p (b ∷ bs) first last =
    let n = prefix_len p bs in
    let at : get_or bs n 0 ≡ 39 = rw (add-one n) at last in
    let lt : n < length bs = within bs n 39 at (lit< tt) in
    let two : n + 2 ≡ suc (n + 1) = omega arith in
    let size : length (take n bs) ≡ n = length-prefix_len p bs in
    (rw (two, take_more bs n 0 lt, at, first) refl, simp length-append (omega arith))

name_run : (c : ℕ) (cs : List ℕ) → is_ascii_alphabetic c ≡ true → prefix_len is_name_byte (c ∷ cs) ≤ 32 → is_name (take (prefix_len is_name_byte (c ∷ cs)) (c ∷ cs)) ≡ true
name_run c cs letter small =
    let passes : is_name_byte c ≡ true = grind (arith, nat_tests) in
    let n = prefix_len is_name_byte cs in
    let one : prefix_len is_name_byte (c ∷ cs) ≡ suc n = rw passes (omega arith) in
    let fits : nat_le (length (take n cs)) 31 ≡ true = rw (length-prefix_len is_name_byte cs) (le-leb n 31 (omega arith)) in
    rw (one, letter, fits) (run_passes is_name_byte cs)

item_run : (c : ℕ) (cs : List ℕ) → is_ascii_digit c ≡ true → prefix_len is_item_byte (c ∷ cs) ≤ 1024 → is_item (take (prefix_len is_item_byte (c ∷ cs)) (c ∷ cs)) ≡ true
item_run c cs digit small =
    let passes : is_item_byte c ≡ true = grind (arith, nat_tests) in
    let n = prefix_len is_item_byte cs in
    let one : prefix_len is_item_byte (c ∷ cs) ≡ suc n = rw passes (omega arith) in
    let fits : nat_le (length (take n cs)) 1023 ≡ true = rw (length-prefix_len is_item_byte cs) (le-leb n 1023 (omega arith)) in
    rw (one, digit, fits) (run_passes is_item_byte cs)

-- a name between two quotes
pub name_found : (bytes : List ℕ) (len : ℕ) → slice_index bytes 0 ≡ 39 → is_ascii_alphabetic (slice_index bytes 1) ≡ true → len ≡ prefix_len is_name_byte (drop 1 bytes) → len ≤ 32 → slice_index bytes (len + 1) ≡ 39 → FindsToken bytes (Some (Name, len + 2))
name_found [] len quote letter e small last = absurd (omega arith)
name_found (b ∷ []) len quote letter e small last = cc
name_found (b ∷ c ∷ cs) len quote letter e small last =
    let bytes = b ∷ c ∷ cs in
    let n = prefix_len is_name_byte (c ∷ cs) in
    let last_at : slice_index bytes (n + 1) ≡ 39 = subst (λ (m : ℕ). slice_index bytes (m + 1) ≡ 39) e last in
    let size = within bytes (n + 1) 39 last_at (lit< tt) in
    subst (λ (m : ℕ). FindsToken bytes (Some (Name, m + 2))) (sym e)
    ((take n (c ∷ cs), name_run c cs letter (omega arith), quoted_here is_name_byte bytes quote last_at), omega arith, omega arith)

-- an item between two quotes
pub item_found : (bytes : List ℕ) (len : ℕ) → slice_index bytes 0 ≡ 39 → is_ascii_digit (slice_index bytes 1) ≡ true → len ≡ prefix_len is_item_byte (drop 1 bytes) → len ≤ 1024 → slice_index bytes (len + 1) ≡ 39 → FindsToken bytes (Some (Item, len + 2))
item_found [] len quote digit e small last = absurd (omega arith)
item_found (b ∷ []) len quote digit e small last = cc
item_found (b ∷ c ∷ cs) len quote digit e small last =
    let bytes = b ∷ c ∷ cs in
    let n = prefix_len is_item_byte (c ∷ cs) in
    let last_at : slice_index bytes (n + 1) ≡ 39 = subst (λ (m : ℕ). slice_index bytes (m + 1) ≡ 39) e last in
    let size = within bytes (n + 1) 39 last_at (lit< tt) in
    subst (λ (m : ℕ). FindsToken bytes (Some (Item, m + 2))) (sym e)
    ((take n (c ∷ cs), item_run c cs digit (omega arith), quoted_here is_item_byte bytes quote last_at), omega arith, omega arith)

-- what a name is, seen from the run
pub name_parts : (name : List ℕ) → is_name name ≡ true → list_all is_name_byte name ≡ true × (length name ≤ 32) × is_ascii_alphabetic (slice_index name 0) ≡ true
name_parts [] e = cc
name_parts (b ∷ bs) e = (grind (arith, nat_tests, common_steps), grind (arith, nat_tests, common_steps), grind (arith, nat_tests, common_steps))

pub item_parts : (item : List ℕ) → is_item item ≡ true → list_all is_item_byte item ≡ true × (length item ≤ 1024) × is_ascii_digit (slice_index item 0) ≡ true
item_parts [] e = cc
item_parts (b ∷ bs) e = (grind (arith, nat_tests, common_steps), grind (arith, nat_tests, common_steps), grind (arith, nat_tests, common_steps))
