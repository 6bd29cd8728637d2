-- Digits, read one after the other, and the number that they write.
use Rattle.std.proofs.Common.{◌≡◌, ℕ, zero, suc, ◌+◌, ◌-◌, ◌*◌, ◌^◌, ◌<◌, ◌≤◌, true, false, List, decimal, length, take, get_or, arith, ap, ◌∙◌, refl, sym, subst}
use Rattle.std.proofs.lemmas.Bool.{lt-ltb, le-ltb}
use Rattle.std.proofs.lemmas.Bool.Decides.{nat_tests}
use Rattle.std.proofs.lemmas.Int.Digits.{digits_value_more, digits_more}
use Rattle.std.proofs.lemmas.Str.Parse.{IsNumeralModel, digit_at, digits_value-take-le, numerals_by_value, tells_digits}
use Rattle.std.proofs.lemmas.Fmt.{decimal-digits_value, digits_value-decimal, digits_decimal, first_decimal, decimal_digit}
use Rattle.std.specs.Prelude.{Option, Some, None, IfSome}
use Rattle.std.specs.Char.{is_ascii_digit, digit_value}
use Rattle.std.specs.Str.Parse.{AllDigits, digits_value}

pub digit_bounds : (d : ℕ) → is_ascii_digit d ≡ true → (48 ≤ d) × (d ≤ 57)
digit_bounds d e = (grind (arith, nat_tests), grind (arith, nat_tests))

digit_value_is : (d : ℕ) → is_ascii_digit d ≡ true → digit_value d ≡ d - 48
digit_value_is d e =
    let b = digit_bounds d e in
    rw (le-ltb d 48 b.0, lt-ltb d 58 (omega (arith, b.1))) refl

-- the first bytes are digits, and write this number
pub record Wrote (ds : List ℕ) (i n : ℕ) : Type 0 where
  pub digits : AllDigits 10 (take i ds)
  pub value : n ≡ digits_value 10 (take i ds)

-- one digit more
pub one_more : (ds : List ℕ) (i n : ℕ) → i < length ds → is_ascii_digit (get_or ds i 0) ≡ true → Wrote ds i n → Wrote ds (i + 1) (n * 10 + (get_or ds i 0 - 48))
one_more ds i n lt e w =
    let value = digit_value_is (get_or ds i 0) e in
    let small : digit_value (get_or ds i 0) < 10 = rw value (omega (arith, (digit_bounds (get_or ds i 0) e).1)) in
    record {
      digits = digits_more 10 ds i lt w.digits small;
      value = rw (digits_value_more 10 ds i lt, value) (ap (λ (m : ℕ). m * 10 + (get_or ds i 0 - 48)) w.value);
    }

-- no number on the way is greater than the whole
pub within : (ds : List ℕ) (i n : ℕ) → i < length ds → is_ascii_digit (get_or ds i 0) ≡ true → Wrote ds i n → n * 10 + (get_or ds i 0 - 48) ≤ digits_value 10 ds
within ds i n lt e w =
    rw (one_more ds i n lt e w).value (digits_value-take-le 10 ds (i + 1) (omega arith))

-- digits have no other byte among them
pub no_other : (ds : List ℕ) (i : ℕ) → i < length ds → is_ascii_digit (get_or ds i 0) ≡ false → AllDigits 10 ds → ⊥
no_other ds i lt e all =
    let b = digit_at ds i all lt in
    grind (arith, nat_tests)

-- ---- digits with no zero in front

own : IsNumeralModel (AllDigits 10) (digits_value 10)
own = numerals_by_value (AllDigits 10) tells_digits

-- they are those that are written of their number
written : (ds : List ℕ) (n : ℕ) → 0 < length ds → (get_or ds 0 0 ≡ 48 → ⊥) → n < 2 ^ 64 → AllDigits 10 ds → digits_value 10 ds ≡ n → ds ≡ decimal n
written ds n some first small all value =
    let below : digits_value 10 ds < 2 ^ 64 = subst (λ (m : ℕ). m < 2 ^ 64) (sym value) small in
    sym (ap decimal (sym value) ∙ decimal-digits_value own ds all some (λ zero. absurd (first zero)) below)

positive : (n : ℕ) (ds : List ℕ) → (get_or ds 0 0 ≡ 48 → ⊥) → ds ≡ decimal n → 1 ≤ n
positive zero ds first is = absurd (first (ap (λ (l : List ℕ). get_or l 0 0) (is ∙ decimal_digit 0 (omega arith))))
positive (suc n) ds first is = omega arith

-- so is the number that was read, which is none but from 1 on
pub read_written : (ds : List ℕ) (o : Option ℕ) → 0 < length ds → (get_or ds 0 0 ≡ 48 → ⊥) → IfSome o (λ n. n < 2 ^ 64) → IfSome o (λ n. AllDigits 10 ds × (digits_value 10 ds ≡ n)) → IfSome o (λ n. ds ≡ decimal n)
read_written ds None some first small read = _
read_written ds (Some n) some first small read = written ds n some first small read.0 read.1

pub read_positive : (ds : List ℕ) (o : Option ℕ) → (get_or ds 0 0 ≡ 48 → ⊥) → IfSome o (λ n. ds ≡ decimal n) → IfSome o (λ n. 1 ≤ n)
read_positive ds None first is = _
read_positive ds (Some n) first is = positive n ds first is

-- what is written of a number is read
pub read_back : (ds : List ℕ) (n : ℕ) (o : Option ℕ) → n < 2 ^ 64 → ds ≡ decimal n → (AllDigits 10 ds → digits_value 10 ds < 2 ^ 64 → o ≡ Some (digits_value 10 ds)) → o ≡ Some n
read_back ds n o small is found =
    let value : digits_value 10 ds ≡ n = ap (digits_value 10) is ∙ digits_value-decimal own n small in
    let all = subst (AllDigits 10) (sym is) (digits_decimal own n small) in
    found all (subst (λ (m : ℕ). m < 2 ^ 64) (sym value) small) ∙ ap Some value

-- the first digit of a number from 1 on
pub first_digit : (ds : List ℕ) (n : ℕ) → 1 ≤ n → n < 2 ^ 64 → ds ≡ decimal n → 48 < get_or ds 0 0
first_digit ds n counted small is = subst (λ (l : List ℕ). 48 < get_or l 0 0) (sym is) (first_decimal n counted small)
