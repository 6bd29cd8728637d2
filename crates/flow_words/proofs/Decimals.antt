-- Which texts are numbers in decimal.
use Rattle.std.proofs.Common.{◌≡◌, ◌≢◌, ℕ, zero, suc, ◌<◌, ◌≤◌, ◌==◌, false, ◌^◌, Result, Ok, Err, IfSome, IfNone, List, [], ◌∷◌, length, get_or, decimal, sym, ap, ◌∙◌, arith}
use Rattle.std.specs.Result.{OkIff, result_ok}
use Rattle.std.specs.Str.Parse.{AllDigits, digits_value, ParsesUnsigned}
use Rattle.std.proofs.lemmas.Fmt.{parse-decimal, decimal_digit, decimal_nonempty, first_decimal, digits_decimal, decimal-digits_value}
use Rattle.std.proofs.lemmas.Str.Parse.{IsNumeralModel, numerals_by_value, tells_digits, not_in_digits, parse_plain}

own : IsNumeralModel (AllDigits 10) (digits_value 10)
own = numerals_by_value (AllDigits 10) tells_digits

-- it has a digit
pub has_digit : (bytes : List ℕ) (n : ℕ) → n < 2 ^ 64 → bytes ≡ decimal n → 0 < length bytes
has_digit bytes n small is = rw is (decimal_nonempty n small)

-- it has no sign
pub no_sign : (bytes : List ℕ) (n : ℕ) → n < 2 ^ 64 → bytes ≡ decimal n → get_or bytes 0 0 ≢ 43
no_sign bytes n small is = rw is (not_in_digits own (decimal n) 43 (digits_decimal own n small) (λ within. omega arith) 0 (decimal_nonempty n small))

-- it has no zero before another digit
pub no_zero : (bytes : List ℕ) (n : ℕ) → n < 2 ^ 64 → bytes ≡ decimal n → get_or bytes 0 0 ≡ 48 → length bytes ≡ 1
no_zero bytes zero small is first = ap length (is ∙ decimal_digit 0 (omega arith))
no_zero bytes (suc n) small is first = absurd (let more = first_decimal (suc n) (omega arith) small in omega (arith, more, sym first, ap (λ (l : List ℕ). get_or l 0 0) is))

-- at most one byte, and not none
pub at_most_one : (bytes : List ℕ) → length bytes ≤ 1 → (length bytes == 0) ≡ false → length bytes ≡ 1
at_most_one [] few some_ = absurd (cc)
at_most_one (b ∷ bs) few some_ = omega arith

-- what is read of a text without a sign and without a zero before other digits is the number that it writes
pub read_number : {E : Type 0} (bytes : List ℕ) (r : Result ℕ E) → ParsesUnsigned 64 10 bytes r → get_or bytes 0 0 ≢ 43 → (get_or bytes 0 0 ≡ 48 → length bytes ≡ 1) → IfSome (result_ok r) (λ n. bytes ≡ decimal n)
read_number bytes r reads unsigned lone = go r (parse_plain own 64 bytes r reads unsigned)
  where
    go : {E : Type 0} (r : Result ℕ E) → OkIff r (AllDigits 10 bytes × (0 < length bytes) × (digits_value 10 bytes < 2 ^ 64)) (digits_value 10 bytes) → IfSome (result_ok r) (λ n. bytes ≡ decimal n)
    go (Ok n) (is, value) = sym (rw value (decimal-digits_value own bytes is.0 is.1 lone is.2))
    go (Err e) none = tt

-- where nothing is read it writes no number
pub read_none : {E : Type 0} (bytes : List ℕ) (r : Result ℕ E) → ParsesUnsigned 64 10 bytes r → IfNone (result_ok r) ((n : ℕ) → n < 2 ^ 64 → bytes ≡ decimal n → ⊥)
read_none bytes (Ok n) reads = tt
read_none {E} bytes (Err e) reads = λ n small is. absurd (let f : (let r : Result ℕ E = Err e in r) ≡ Ok n = parse-decimal 64 n bytes (Err e) small small is reads in cc)
