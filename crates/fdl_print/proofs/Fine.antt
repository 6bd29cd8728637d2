-- Bytes that spell a token wherever a blank, a line feed or the end stands behind them.
use Rattle.std.proofs.Common.{◌≡◌, ◌≢◌, ℕ, zero, suc, ◌-◌, ◌^◌, ◌<◌, ◌&&◌, min, Bool, true, false, List, [], ◌∷◌, ◌++◌, length, take, slice_index, Some, codes, decimal, refl, sym, ap, ◌∙◌, arith, append-nil, eqb, if◌then◌else◌}
use Rattle.std.specs.List.{prefix_len, list_all}
use Rattle.std.specs.Char.{is_ascii_digit, is_ascii_alphabetic}
use Rattle.std.specs.Str.Parse.{digits_value, AllDigits}
use Rattle.std.proofs.lemmas.List.{take_at}
use Rattle.std.proofs.lemmas.List.Folds.{list_all-append}
use Rattle.std.proofs.lemmas.Bool.Decides.{nat_tests}
use Rattle.std.proofs.lemmas.Grind.{common_steps}
use Rattle.std.proofs.lemmas.Str.Parse.{digit_from_value}
use Rattle.std.proofs.lemmas.Fmt.{decimal_is_IsNumeral, decimal_digit, first_decimal}
use Rattle.flow_table.specs.Spelling.{keyword_spelling}
use Rattle.flow_table.specs.declared.keyword.Keyword.{Keyword}
use Rattle.flow_table.specs.declared.keyword.Keyword.TheVariants as keywords
use Rattle.flow_model.specs.Words.{is_name, is_name_byte, is_text, is_text_byte}
use Rattle.fdl_lexer.specs.Bytes.{is_allowed, is_run_byte, single_quoted, double_quoted, doubled}
use Rattle.fdl_lexer.specs.Tokens.{Spells, AreFirst, mark_of}
use Rattle.fdl_lexer.specs.declared.kinds.Mark.{Mark as Sign}
use Rattle.fdl_lexer.specs.declared.kinds.What.{What}
use Rattle.fdl_lexer.specs.declared.kinds.What.TheVariants.{Word, Name, Rc, Number, Text, Mark}
use Rattle.fdl_lexer.proofs.Quotes.{run_ends, name_parts}
use Rattle.flow_model.specs.declared.graphs.Operator.{Operator}
use Rattle.flow_model.specs.declared.graphs.Operator.TheVariants.{Eq, Ne, Lt, Le, Gt, Ge}
use Rattle.fdl_lexer.specs.declared.kinds.Mark.TheVariants as mark
use Rattle.fdl_parser.specs.Conditions.{mark_of as mark_of_operator}
use Rattle.fdl_print.specs.Pieces.{sign_text}
use Rattle.fdl_print.specs.Parts.{operator_mark}

-- what may stand behind a token
pub data Ends : List ℕ → Type 0 where
  AtEnd : Ends []
  AtBlank : {rest : List ℕ} → Ends (32 ∷ rest)
  AtFeed : {rest : List ℕ} → Ends (10 ∷ rest)

-- these bytes spell this token
pub record IsFine (kind : What) (bytes : List ℕ) : Type 0 where
  pub some : 0 < length bytes
  pub allowed : list_all is_allowed bytes ≡ true
  pub spelled : (rest : List ℕ) → Ends rest → Spells kind (length bytes) (bytes ++ rest)

-- bytes come first in themselves
pub first_is : (bytes rest : List ℕ) → AreFirst bytes (length bytes) (bytes ++ rest)
first_is bytes rest = (take_at bytes rest (length bytes) refl, refl)

both_true : (a b : Bool) → (a && b) ≡ true → (a ≡ true) × (b ≡ true)
both_true true b e = (refl, e)
both_true false b e = cc

pub all_more : {X : Type 0} (p q : X → Bool) → ((x : X) → p x ≡ true → q x ≡ true) → (xs : List X) → list_all p xs ≡ true → list_all q xs ≡ true
all_more p q more [] all = refl
all_more p q more (x ∷ xs) all =
    let two = both_true (p x) (list_all p xs) all in
    let here = more x two.0 in
    rw here (all_more p q more xs two.1)

-- ---- marks

pub one_byte : (m : Sign) (b : ℕ) → mark_of b 0 ≡ Some (m, 1) → mark_of b 32 ≡ Some (m, 1) → mark_of b 10 ≡ Some (m, 1) → is_allowed b ≡ true → IsFine (Mark m) (b ∷ [])
one_byte m b nothing blank feed allowed = record { some = omega arith; allowed = rw allowed refl; spelled = spelled }
  where
    spelled : (rest : List ℕ) → Ends rest → Spells (Mark m) 1 (b ∷ [] ++ rest)
    spelled _ AtEnd = nothing
    spelled _ AtBlank = blank
    spelled _ AtFeed = feed

pub two_bytes : (m : Sign) (b c : ℕ) → mark_of b c ≡ Some (m, 2) → is_allowed b ≡ true → is_allowed c ≡ true → IsFine (Mark m) (b ∷ c ∷ [])
two_bytes m b c is first second = record { some = omega arith; allowed = rw (first, second) refl; spelled = λ rest ends. is }

pub fine_open : IsFine (Mark mark.Open) (sign_text mark.Open)
fine_open = one_byte mark.Open 40 refl refl refl refl

pub fine_close : IsFine (Mark mark.Close) (sign_text mark.Close)
fine_close = one_byte mark.Close 41 refl refl refl refl

pub fine_comma : IsFine (Mark mark.Comma) (sign_text mark.Comma)
fine_comma = one_byte mark.Comma 44 refl refl refl refl

pub fine_semicolon : IsFine (Mark mark.Semicolon) (sign_text mark.Semicolon)
fine_semicolon = one_byte mark.Semicolon 59 refl refl refl refl

pub fine_colon : IsFine (Mark mark.Colon) (sign_text mark.Colon)
fine_colon = one_byte mark.Colon 58 refl refl refl refl

pub fine_dot : IsFine (Mark mark.Dot) (sign_text mark.Dot)
fine_dot = one_byte mark.Dot 46 refl refl refl refl

pub fine_open_bracket : IsFine (Mark mark.OpenBracket) (sign_text mark.OpenBracket)
fine_open_bracket = one_byte mark.OpenBracket 91 refl refl refl refl

pub fine_close_bracket : IsFine (Mark mark.CloseBracket) (sign_text mark.CloseBracket)
fine_close_bracket = one_byte mark.CloseBracket 93 refl refl refl refl

pub fine_plus : IsFine (Mark mark.Plus) (sign_text mark.Plus)
fine_plus = one_byte mark.Plus 43 refl refl refl refl

pub fine_minus : IsFine (Mark mark.Minus) (sign_text mark.Minus)
fine_minus = one_byte mark.Minus 45 refl refl refl refl

-- the mark of a comparison
pub fine_operator : (o : Operator) → IsFine (Mark (mark_of_operator o)) (sign_text (operator_mark o))
fine_operator Eq = one_byte mark.Equal 61 refl refl refl refl
fine_operator Ne = two_bytes mark.NotEqual 60 62 refl refl refl
fine_operator Lt = one_byte mark.Less 60 refl refl refl refl
fine_operator Le = two_bytes mark.AtMost 60 61 refl refl refl
fine_operator Gt = one_byte mark.Greater 62 refl refl refl refl
fine_operator Ge = two_bytes mark.AtLeast 62 61 refl refl refl

-- ---- runs

-- a run ends before a blank, a line feed or the end
run_is : (p : ℕ → Bool) (xs rest : List ℕ) → list_all p xs ≡ true → p 32 ≡ false → p 10 ≡ false → Ends rest → prefix_len p (xs ++ rest) ≡ length xs
run_is p xs _ all blank feed (AtBlank {rest}) = run_ends p xs 32 rest all blank
run_is p xs _ all blank feed (AtFeed {rest}) = run_ends p xs 10 rest all feed
run_is p xs _ all blank feed AtEnd = ap (prefix_len p) (append-nil xs) ∙ whole xs all
  where
    whole : (ys : List ℕ) → list_all p ys ≡ true → prefix_len p ys ≡ length ys
    whole [] all = refl
    whole (y ∷ ys) all = grind (arith, common_steps, whole ys)

first_of : (bytes rest : List ℕ) → 0 < length bytes → slice_index (bytes ++ rest) 0 ≡ slice_index bytes 0
first_of [] rest some = absurd (omega arith)
first_of (b ∷ bytes) rest some = refl

-- ---- keywords

-- a keyword begins with a letter, and letters, digits and low lines follow
abbrev is_good : Keyword → Bool
is_good keyword = is_ascii_alphabetic (slice_index (keyword_spelling keyword) 0) && list_all is_run_byte (keyword_spelling keyword)

all_good : (keyword : Keyword) → is_good keyword ≡ true
all_good keywords.Structure = refl
all_good _ = refl

run_allowed : (b : ℕ) → is_run_byte b ≡ true → is_allowed b ≡ true
run_allowed b e = grind (arith, nat_tests)

letter_some : (bytes : List ℕ) → is_ascii_alphabetic (slice_index bytes 0) ≡ true → 0 < length bytes
letter_some [] e = cc
letter_some (b ∷ bytes) e = omega arith

-- a keyword
pub fine_word : (keyword : Keyword) → IsFine (Word keyword) (keyword_spelling keyword)
fine_word keyword =
    let good = both_true _ _ (all_good keyword) in
    let bytes = letter_some (keyword_spelling keyword) good.0 in
    record {
      some = bytes;
      allowed = all_more is_run_byte is_allowed run_allowed (keyword_spelling keyword) good.1;
      spelled = λ rest ends. (
        ap is_ascii_alphabetic (first_of (keyword_spelling keyword) rest bytes) ∙ good.0,
        sym (run_is is_run_byte (keyword_spelling keyword) rest good.1 refl refl ends),
        (first_is (keyword_spelling keyword) rest).0,
      );
    }

-- ---- numbers

digits_pass : (ds : List ℕ) → AllDigits 10 ds → list_all is_ascii_digit ds ≡ true
digits_pass [] all = refl
digits_pass (d ∷ ds) all =
    let range = digit_from_value d all.0 in
    let low = range.0 in
    let high = range.1 in
    let here : is_ascii_digit d ≡ true = grind (arith, nat_tests) in
    rw here (digits_pass ds all.1)

digit_runs : (b : ℕ) → is_ascii_digit b ≡ true → is_run_byte b ≡ true
digit_runs b e = grind (arith, nat_tests)

digit_allowed : (b : ℕ) → is_ascii_digit b ≡ true → is_allowed b ≡ true
digit_allowed b e = grind (arith, nat_tests)

first_passes : (p : ℕ → Bool) (xs : List ℕ) → 0 < length xs → list_all p xs ≡ true → p (slice_index xs 0) ≡ true
first_passes p [] some all = absurd (omega arith)
first_passes p (x ∷ xs) some all = (both_true (p x) (list_all p xs) all).0

one_digit : (n : ℕ) → n < 2 ^ 64 → slice_index (decimal n) 0 ≡ 48 → length (decimal n) ≡ 1
one_digit zero small e = ap length (decimal_digit 0 (omega arith))
one_digit (suc n) small e = let more = first_decimal (suc n) (omega arith) small in absurd (omega arith)

-- a number
pub fine_number : (n : ℕ) → n < 2 ^ 64 → IsFine (Number n) (decimal n)
fine_number n small =
    let numeral = decimal_is_IsNumeral n small in
    let some : 0 < length (decimal n) = numeral.0.0 in
    let all = digits_pass (decimal n) numeral.0.1 in
    record {
      some = some;
      allowed = all_more is_ascii_digit is_allowed digit_allowed (decimal n) all;
      spelled = λ rest ends. (
        ap is_ascii_digit (first_of (decimal n) rest some) ∙ first_passes is_ascii_digit (decimal n) some all,
        sym (run_is is_ascii_digit (decimal n) rest all refl refl ends),
        sym (run_is is_run_byte (decimal n) rest (all_more is_ascii_digit is_run_byte digit_runs (decimal n) all) refl refl ends),
        λ e. one_digit n small (sym (first_of (decimal n) rest some) ∙ e),
        value rest,
      );
    }
  where
    value : (rest : List ℕ) → n ≡ min (digits_value 10 (take (length (decimal n)) (decimal n ++ rest))) (2 ^ 64 - 1)
    value rest =
        let e : digits_value 10 (take (length (decimal n)) (decimal n ++ rest)) ≡ n = ap (digits_value 10) (first_is (decimal n) rest).0 ∙ (decimal_is_IsNumeral n small).1 in
        omega arith

-- ---- names and texts

name_allowed : (b : ℕ) → is_name_byte b ≡ true → is_allowed b ≡ true
name_allowed b e = grind (arith, nat_tests)

closed_allowed : (bytes : List ℕ) (quote : ℕ) → is_allowed quote ≡ true → list_all is_allowed bytes ≡ true → list_all is_allowed (quote ∷ (bytes ++ quote ∷ [])) ≡ true
closed_allowed bytes quote q all = rw (q, list_all-append is_allowed bytes (quote ∷ []), all, q) refl

-- a name
pub fine_name : (value : List ℕ) → is_name value ≡ true → IsFine Name (single_quoted value)
fine_name value is = record {
  some = omega arith;
  allowed = closed_allowed value 39 refl (all_more is_name_byte is_allowed name_allowed value (name_parts value is).0);
  spelled = λ rest ends. (value, is, first_is (single_quoted value) rest);
}

text_allowed : (b : ℕ) → is_text_byte b ≡ true → is_allowed b ≡ true
text_allowed b e = grind (arith, nat_tests)

doubled_allowed : (bytes : List ℕ) → list_all is_text_byte bytes ≡ true → list_all is_allowed (doubled bytes) ≡ true
doubled_allowed [] all = refl
doubled_allowed (b ∷ bytes) all =
    let two = both_true (is_text_byte b) (list_all is_text_byte bytes) all in
    let rest = doubled_allowed bytes two.1 in
    let here = text_allowed b two.0 in
    elim (eqb b 34) as (λ t. list_all is_allowed (if t then 34 ∷ 34 ∷ doubled bytes else b ∷ doubled bytes) ≡ true) [ true ↦ rest | false ↦ rw here rest ]

quote_stops : (bytes rest : List ℕ) → Ends rest → slice_index (bytes ++ rest) (length bytes) ≢ 34
quote_stops [] [] AtEnd e = omega arith
quote_stops [] _ (AtBlank {rest}) e = omega arith
quote_stops [] _ (AtFeed {rest}) e = omega arith
quote_stops (b ∷ bytes) rest ends e = quote_stops bytes rest ends e

-- a text
pub fine_text : (value : List ℕ) → is_text value ≡ true → IsFine Text (double_quoted value)
fine_text value is = record {
  some = omega arith;
  allowed = closed_allowed (doubled value) 34 refl (doubled_allowed value (both_true _ _ is).1);
  spelled = λ rest ends. (value, is, first_is (double_quoted value) rest, quote_stops (double_quoted value) rest ends);
}

-- the return code
pub fine_rc : IsFine Rc (codes "'_RC'")
fine_rc = record { some = omega arith; allowed = refl; spelled = λ rest ends. first_is (codes "'_RC'") rest }
