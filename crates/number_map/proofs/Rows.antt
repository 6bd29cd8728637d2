-- Which value stands under a number of rising rows, and what a row that is changed or put between them makes of that.
use Rattle.std.proofs.Common.{◌≡◌, ℕ, zero, suc, ◌<◌, ◌≤◌, ◌==◌, Bool, true, false, if◌then◌else◌, Option, Some, None, List, [], ◌∷◌, refl, sym, ap, subst, ◌∙◌, arith, ◌⊎◌, inl, inr, ◌+◌}
use Rattle.std.specs.Prelude.{slice_get, slice_set, unwrap_or}
use Rattle.std.specs.List.{insert, filter}
use Rattle.std.specs.Option.{is_some, OnSome}
use Rattle.std.proofs.lemmas.Bool.{cases_Bool}
use Rattle.std.specs.List.{AllByRecursion}
use Rattle.std.specs.List.Sorted.{IsStrictlySortedBy}
use Rattle.std.specs.Map.{lookup, keys_of}
use Rattle.std.specs.Ordering.{nat_cmp}
use Rattle.std.specs.BTreeMap.{is_at}
use Rattle.std.specs.Cmp.{unsigned_ties, nat_cmp_is}
use Rattle.std.specs.declared.cmp.Ordering.TheVariants.{Less}
use Rattle.std.proofs.lemmas.Grind.{common_steps}
use Rattle.std.proofs.lemmas.Bool.Decides.{nat_tests}
use Rattle.std.proofs.lemmas.Option.{none-some}
use Rattle.number_map.specs.declared.place.Row.{Row}
use Rattle.number_map.specs.Rows.{entry_before, entries_of, IsBelow, IsRising, IsAboveAll, IsBelowAll, has_value}

pub some_is : {A : Type 0} {x y : A} → Some x ≡ Some y → x ≡ y
some_is {x = x} e = ap (λ o. unwrap_or o x) e

before_or_from : (k place : ℕ) → (k < place) ⊎ (place ≤ k)
before_or_from k place = grind arith

less_or_same : (k place : ℕ) → k < place + 1 → (k < place) ⊎ (k ≡ place)
less_or_same k place lt = grind arith

pub if_yes : {A : Type 0} (b : Bool) (x y : A) → b ≡ true → (if b then x else y) ≡ x
if_yes b x y is = subst (λ (d : Bool). (if d then x else y) ≡ x) (sym is) refl

pub if_no : {A : Type 0} (b : Bool) (x y : A) → b ≡ false → (if b then x else y) ≡ y
if_no b x y is = subst (λ (d : Bool). (if d then x else y) ≡ y) (sym is) refl

apart_below : (n m : ℕ) → n < m → (n == m) ≡ false
apart_below n m lt = grind (arith, nat_tests)

apart_above : (n m : ℕ) → m < n → (n == m) ≡ false
apart_above n m lt = grind (arith, nat_tests)

pub same_number : (n m : ℕ) → (n == m) ≡ true → n ≡ m
same_number n m e = grind (arith, nat_tests)

pub same_yes : (n : ℕ) → (n == n) ≡ true
same_yes n = grind (arith, nat_tests)

module _ {V : Type 0} where
  -- what stands under a number, by its own row
  abbrev pub under : ℕ → List (Row V) → Option V
  under number [] = None
  under number (row ∷ rows) = if number == row.number then row.value else under number rows

  pub below_get : (n : ℕ) (rows : List (Row V)) (k : ℕ) (row : Row V) → IsBelow n rows → slice_get rows k ≡ Some row → n < row.number
  below_get n [] k row b e = absurd (none-some row e)
  below_get n (r ∷ rows) zero row b e = subst (λ (x : Row V). n < x.number) (some_is e) b.0
  below_get n (r ∷ rows) (suc k) row b e = below_get n rows k row b.1 e

  -- a later row has a greater number
  pub rises : (rows : List (Row V)) (k m : ℕ) (a b : Row V) → IsRising rows → k < m → slice_get rows k ≡ Some a → slice_get rows m ≡ Some b → a.number < b.number
  rises [] k m a b is lt at_a at_b = absurd (none-some a at_a)
  rises (r ∷ rows) zero zero a b is lt at_a at_b = omega (arith, lt)
  rises (r ∷ rows) zero (suc m) a b is lt at_a at_b = subst (λ (x : Row V). x.number < b.number) (some_is at_a) (below_get r.number rows m b is.0 at_b)
  rises (r ∷ rows) (suc k) zero a b is lt at_a at_b = omega (arith, lt)
  rises (r ∷ rows) (suc k) (suc m) a b is lt at_a at_b = rises rows k m a b is.1 (omega (arith, lt)) at_a at_b

  -- whatever is above one row is above all before it, and what is below one is below all behind it
  pub above_up_to : (n place : ℕ) (rows : List (Row V)) (r : Row V) → IsRising rows → slice_get rows place ≡ Some r → r.number < n → IsAboveAll n rows (place + 1)
  above_up_to n place rows r is at lt k row before there = above_by (less_or_same k place before)
    where
      above_by : (k < place) ⊎ (k ≡ place) → row.number < n
      above_by (inl less) = let first : row.number < r.number = rises rows k place row r is less there at in omega (arith, first, lt)
      above_by (inr same) = subst (λ (x : Row V). x.number < n) (some_is (sym at ∙ ap (slice_get rows) (sym same) ∙ there)) lt

  pub below_from : (n place : ℕ) (rows : List (Row V)) (r : Row V) → IsRising rows → slice_get rows place ≡ Some r → n < r.number → IsBelowAll n rows place
  below_from n place rows r is at lt k row from there = below_by (less_or_same place k (omega (arith, from)))
    where
      below_by : (place < k) ⊎ (place ≡ k) → n < row.number
      below_by (inl less) = let first : r.number < row.number = rises rows place k r row is less at there in omega (arith, first, lt)
      below_by (inr same) = subst (λ (x : Row V). n < x.number) (some_is (sym at ∙ ap (slice_get rows) same ∙ there)) lt

  -- ---- what stands under a number

  -- a number below all rows stands in none of them
  pub under_below : (n : ℕ) (rows : List (Row V)) → IsBelow n rows → under n rows ≡ None
  under_below n [] b = refl
  under_below n (r ∷ rows) b = if_no (n == r.number) r.value (under n rows) (apart_below n r.number b.0) ∙ under_below n rows b.1

  -- an entry in front of others
  looked_up : (n number : ℕ) (o : Option V) (es : List (ℕ × V)) → (o ≡ None → n ≡ number → lookup (is_at (nat_cmp n)) es ≡ None)
      → lookup (is_at (nat_cmp n)) (entry_before number o es) ≡ (if n == number then o else lookup (is_at (nat_cmp n)) es)
  looked_up n number None es none = no_value (cases_Bool (n == number))
    where
      no_value : ((n == number) ≡ true) ⊎ ((n == number) ≡ false)
          → lookup (is_at (nat_cmp n)) es ≡ (if n == number then None else lookup (is_at (nat_cmp n)) es)
      no_value (inl e) = none refl (same_number n number e) ∙ sym (if_yes (n == number) None (lookup (is_at (nat_cmp n)) es) e)
      no_value (inr e) = sym (if_no (n == number) None (lookup (is_at (nat_cmp n)) es) e)
  looked_up n number (Some value) es none =
      ap (λ (b : Bool). if b then Some value else lookup (is_at (nat_cmp n)) es) (sym (unsigned_ties n number))

  -- the value under a number is that of its row
  pub looked_under : (n : ℕ) (rows : List (Row V)) → IsRising rows → lookup (is_at (nat_cmp n)) (entries_of rows) ≡ under n rows
  looked_under n [] is = refl
  looked_under n (r ∷ rows) is =
      looked_up n r.number r.value (entries_of rows)
      (λ none same. looked_under n rows is.1 ∙ under_below n rows (subst (λ (m : ℕ). IsBelow m rows) (sym same) is.0))
      ∙ ap (λ (o : Option V). if n == r.number then r.value else o) (looked_under n rows is.1)

  pub under_at : (rows : List (Row V)) (place : ℕ) (row : Row V) → IsRising rows → slice_get rows place ≡ Some row → under row.number rows ≡ row.value
  under_at [] place row is at = absurd (none-some row at)
  under_at (r ∷ rows) zero row is at =
      subst (λ (x : Row V). under x.number (r ∷ rows) ≡ x.value) (some_is at) (if_yes (r.number == r.number) r.value (under r.number rows) (same_yes r.number))
  under_at (r ∷ rows) (suc place) row is at =
      if_no (row.number == r.number) r.value (under row.number rows) (apart_above row.number r.number (below_get r.number rows place row is.0 at))
      ∙ under_at rows place row is.1 at

  pub under_none : (n : ℕ) (rows : List (Row V)) → ((k : ℕ) (row : Row V) → slice_get rows k ≡ Some row → (n == row.number) ≡ false) → under n rows ≡ None
  under_none n [] apart = refl
  under_none n (r ∷ rows) apart = if_no (n == r.number) r.value (under n rows) (apart 0 r refl) ∙ under_none n rows (λ k row at. apart (suc k) row at)

  -- ---- a row that is changed

  below_set : (n : ℕ) (rows : List (Row V)) (place : ℕ) (old new : Row V) → slice_get rows place ≡ Some old → new.number ≡ old.number → IsBelow n rows → IsBelow n (slice_set rows place new)
  below_set n [] place old new at same b = absurd (none-some old at)
  below_set n (r ∷ rows) zero old new at same b = (subst (λ (m : ℕ). n < m) (ap (λ (x : Row V). x.number) (some_is at) ∙ sym same) b.0, b.1)
  below_set n (r ∷ rows) (suc place) old new at same b = (b.0, below_set n rows place old new at same b.1)

  pub rising_set : (rows : List (Row V)) (place : ℕ) (old new : Row V) → slice_get rows place ≡ Some old → new.number ≡ old.number → IsRising rows → IsRising (slice_set rows place new)
  rising_set [] place old new at same is = absurd (none-some old at)
  rising_set (r ∷ rows) zero old new at same is = (subst (λ (m : ℕ). IsBelow m rows) (ap (λ (x : Row V). x.number) (some_is at) ∙ sym same) is.0, is.1)
  rising_set (r ∷ rows) (suc place) old new at same is = (below_set r.number rows place old new at same is.0, rising_set rows place old new at same is.1)

  pub under_set : (other : ℕ) (rows : List (Row V)) (place : ℕ) (old new : Row V) → slice_get rows place ≡ Some old → new.number ≡ old.number → IsRising rows
      → under other (slice_set rows place new) ≡ (if new.number == other then new.value else under other rows)
  under_set other [] place old new at same is = absurd (none-some old at)
  under_set other (r ∷ rows) zero old new at same is = set_here (ap (λ (x : Row V). x.number) (some_is at) ∙ sym same)
    where
      set_here : r.number ≡ new.number
          → (if other == new.number then new.value else under other rows) ≡ (if new.number == other then new.value else (if other == r.number then r.value else under other rows))
      set_here e = grind (arith, common_steps, nat_tests)
  under_set other (r ∷ rows) (suc place) old new at same is =
      let lt : r.number < old.number = below_get r.number rows place old is.0 at in
      set_behind (under other (slice_set rows place new)) (under_set other rows place old new at same is.1) (subst (λ (m : ℕ). r.number < m) (sym same) lt)
    where
      set_behind : (o : Option V) → o ≡ (if new.number == other then new.value else under other rows) → r.number < new.number
          → (if other == r.number then r.value else o) ≡ (if new.number == other then new.value else (if other == r.number then r.value else under other rows))
      set_behind o e lt = grind (arith, common_steps, nat_tests)

  -- ---- a row that is put between others

  pub below_all : (n : ℕ) (rows : List (Row V)) → ((k : ℕ) (row : Row V) → slice_get rows k ≡ Some row → n < row.number) → IsBelow n rows
  below_all n [] each = tt
  below_all n (r ∷ rows) each = (each 0 r refl, below_all n rows (λ k row at. each (suc k) row at))

  below_put : (n : ℕ) (rows : List (Row V)) (place : ℕ) (new : Row V) → n < new.number → IsBelow n rows → IsBelow n (insert rows place new)
  below_put n [] zero new lt b = (lt, tt)
  below_put n [] (suc place) new lt b = (lt, tt)
  below_put n (r ∷ rows) zero new lt b = (lt, b)
  below_put n (r ∷ rows) (suc place) new lt b = (b.0, below_put n rows place new lt b.1)

  later : (n : ℕ) (r : Row V) (rows : List (Row V)) (place : ℕ) → IsAboveAll n (r ∷ rows) (suc place) → IsAboveAll n rows place
  later n r rows place above k row lt at = above (suc k) row (omega (arith, lt)) at

  later_below : (n : ℕ) (r : Row V) (rows : List (Row V)) (place : ℕ) → IsBelowAll n (r ∷ rows) (suc place) → IsBelowAll n rows place
  later_below n r rows place below k row le at = below (suc k) row (omega (arith, le)) at

  pub rising_put : (rows : List (Row V)) (place : ℕ) (new : Row V) → IsRising rows → IsAboveAll new.number rows place → IsBelowAll new.number rows place → IsRising (insert rows place new)
  rising_put [] zero new is above below = (tt, tt)
  rising_put [] (suc place) new is above below = (tt, tt)
  rising_put (r ∷ rows) zero new is above below = (below_all new.number (r ∷ rows) (λ k row at. below k row (omega arith) at), is)
  rising_put (r ∷ rows) (suc place) new is above below = (
    below_put r.number rows place new (above 0 r (omega arith) refl) is.0,
    rising_put rows place new is.1 (later new.number r rows place above) (later_below new.number r rows place below),
  )

  pub under_put : (other : ℕ) (rows : List (Row V)) (place : ℕ) (new : Row V) → IsAboveAll new.number rows place
      → under other (insert rows place new) ≡ (if new.number == other then new.value else under other rows)
  under_put other [] zero new above = grind (arith, common_steps, nat_tests)
  under_put other [] (suc place) new above = grind (arith, common_steps, nat_tests)
  under_put other (r ∷ rows) zero new above = put_here (under other (r ∷ rows))
    where
      put_here : (o : Option V) → (if other == new.number then new.value else o) ≡ (if new.number == other then new.value else o)
      put_here o = grind (arith, common_steps, nat_tests)
  under_put other (r ∷ rows) (suc place) new above =
      put_behind (under other (insert rows place new)) (under_put other rows place new (later new.number r rows place above)) (above 0 r (omega arith) refl)
    where
      put_behind : (o : Option V) → o ≡ (if new.number == other then new.value else under other rows) → r.number < new.number
          → (if other == r.number then r.value else o) ≡ (if new.number == other then new.value else (if other == r.number then r.value else under other rows))
      put_behind o e lt = grind (arith, common_steps, nat_tests)

  -- ---- rows without a value

  below_kept_by : (n : ℕ) (r : Row V) (kept : List (Row V)) (has : Bool) → n < r.number → IsBelow n kept → IsBelow n (if has then r ∷ kept else kept)
  below_kept_by n r kept true lt b = (lt, b)
  below_kept_by n r kept false lt b = b

  below_kept : (n : ℕ) (rows : List (Row V)) → IsBelow n rows → IsBelow n (filter has_value rows)
  below_kept n [] b = tt
  below_kept n (r ∷ rows) b = below_kept_by n r (filter has_value rows) (has_value r) b.0 (below_kept n rows b.1)

  rising_kept_by : (r : Row V) (kept : List (Row V)) (has : Bool) → IsBelow r.number kept → IsRising kept → IsRising (if has then r ∷ kept else kept)
  rising_kept_by r kept true b is = (b, is)
  rising_kept_by r kept false b is = is

  -- without the rows that have no value the numbers still rise, and the entries are the same
  pub rising_kept : (rows : List (Row V)) → IsRising rows → IsRising (filter has_value rows)
  rising_kept [] is = tt
  rising_kept (r ∷ rows) is = rising_kept_by r (filter has_value rows) (has_value r) (below_kept r.number rows is.0) (rising_kept rows is.1)

  entries_kept_by : (r : Row V) (rows kept : List (Row V)) (o : Option V) → r.value ≡ o → entries_of kept ≡ entries_of rows
      → entries_of (if is_some o then r ∷ kept else kept) ≡ entry_before r.number o (entries_of rows)
  entries_kept_by r rows kept None e same = same
  entries_kept_by r rows kept (Some value) e same =
      ap (λ (x : Option V). entry_before r.number x (entries_of kept)) e ∙ ap (λ (es : List (ℕ × V)). (r.number, value) ∷ es) same

  pub entries_kept : (rows : List (Row V)) → entries_of (filter has_value rows) ≡ entries_of rows
  entries_kept [] = refl
  entries_kept (r ∷ rows) = entries_kept_by r rows (filter has_value rows) r.value refl (entries_kept rows)

  -- ---- the calls

  pub found : (number : ℕ) (rows : List (Row V)) (place : ℕ) (row : Row V) → IsRising rows → slice_get rows place ≡ Some row → row.number ≡ number
      → row.value ≡ lookup (is_at (nat_cmp number)) (entries_of rows)
  found number rows place row is at same =
      sym (under_at rows place row is at) ∙ ap (λ (n : ℕ). under n rows) same ∙ sym (looked_under number rows is)

  pub missed : (number : ℕ) (rows : List (Row V)) (place : ℕ) → IsRising rows → IsAboveAll number rows place → IsBelowAll number rows place
      → None ≡ lookup (is_at (nat_cmp number)) (entries_of rows)
  missed number rows place is above below =
      sym (looked_under number rows is ∙ under_none number rows (λ k row at. apart_by k row at (before_or_from k place)))
    where
      apart_by : (k : ℕ) (row : Row V) → slice_get rows k ≡ Some row → (k < place) ⊎ (place ≤ k) → (number == row.number) ≡ false
      apart_by k row at (inl lt) = apart_above number row.number (above k row lt at)
      apart_by k row at (inr le) = apart_below number row.number (below k row le at)

  pub changed : (other : ℕ) (rows : List (Row V)) (place : ℕ) (old new : Row V) → slice_get rows place ≡ Some old → old.number ≡ new.number → IsRising rows
      → lookup (is_at (nat_cmp other)) (entries_of (slice_set rows place new)) ≡ (if new.number == other then new.value else lookup (is_at (nat_cmp other)) (entries_of rows))
  changed other rows place old new at same is =
      looked_under other (slice_set rows place new) (rising_set rows place old new at (sym same) is)
      ∙ under_set other rows place old new at (sym same) is
      ∙ ap (λ (o : Option V). if new.number == other then new.value else o) (sym (looked_under other rows is))

  pub added : (other : ℕ) (rows : List (Row V)) (place : ℕ) (new : Row V) → IsRising rows → IsAboveAll new.number rows place → IsBelowAll new.number rows place
      → lookup (is_at (nat_cmp other)) (entries_of (insert rows place new)) ≡ (if new.number == other then new.value else lookup (is_at (nat_cmp other)) (entries_of rows))
  added other rows place new is above below =
      looked_under other (insert rows place new) (rising_put rows place new is above below) ∙ under_put other rows place new above
      ∙ ap (λ (o : Option V). if new.number == other then new.value else o) (sym (looked_under other rows is))

-- under a number that isn't there nothing is taken away
pub stays_none : {A : Type 0} (b : Bool) (here : Option A) → (b ≡ true → None ≡ here) → here ≡ (if b then None else here)
stays_none true here none = sym (none refl)
stays_none false here none = refl

module _ {V : Type 0} where
  -- a row that is put into its own place changes nothing
  pub set_same : (rows : List (Row V)) (place : ℕ) (row : Row V) → slice_get rows place ≡ Some row → slice_set rows place row ≡ rows
  set_same [] place row at = absurd (none-some row at)
  set_same (r ∷ rows) zero row at = ap (λ (x : Row V). x ∷ rows) (sym (some_is at))
  set_same (r ∷ rows) (suc place) row at = ap (λ (xs : List (Row V)). r ∷ xs) (set_same rows place row at)

  -- a number has what is written to the value of its row
  pub written : (number : ℕ) (rows : List (Row V)) (place : ℕ) (row : Row V) (value : V) → slice_get rows place ≡ Some row → row.number ≡ number → IsRising rows → (other : ℕ)
      → lookup (is_at (nat_cmp other)) (entries_of (slice_set rows place (record row { value = Some value })))
      ≡ (if number == other then Some value else lookup (is_at (nat_cmp other)) (entries_of rows))
  written number rows place row value at same is other =
      changed other rows place row (record row { value = Some value }) at refl is
      ∙ ap (λ (n : ℕ). if n == other then Some value else lookup (is_at (nat_cmp other)) (entries_of rows)) same

pub on_some : {A P : Type 0} (o : Option A) → P → OnSome o P
on_some None so = tt
on_some (Some a) so = so

-- ---- the entries rise

empty_sorted : IsStrictlySortedBy nat_cmp []
unfolding IsStrictlySortedBy
empty_sorted = tt

sorted_before : {V : Type 0} (number : ℕ) (o : Option V) (es : List (ℕ × V)) → AllByRecursion (λ m. nat_cmp number m ≡ Less) (keys_of es)
    → IsStrictlySortedBy nat_cmp (keys_of es) → IsStrictlySortedBy nat_cmp (keys_of (entry_before number o es))
unfolding IsStrictlySortedBy
sorted_before number None es below is = is
sorted_before number (Some value) es below is = (below, is)

below_before : {V : Type 0} (n number : ℕ) (o : Option V) (es : List (ℕ × V)) → n < number → AllByRecursion (λ m. nat_cmp n m ≡ Less) (keys_of es)
    → AllByRecursion (λ m. nat_cmp n m ≡ Less) (keys_of (entry_before number o es))
below_before n number None es lt below = below
below_before n number (Some value) es lt below = (sym (nat_cmp_is n number Less lt), below)

below_entries : {V : Type 0} (n : ℕ) (rows : List (Row V)) → IsBelow n rows → AllByRecursion (λ m. nat_cmp n m ≡ Less) (keys_of (entries_of rows))
below_entries n [] b = tt
below_entries n (r ∷ rows) b = below_before n r.number r.value (entries_of rows) b.0 (below_entries n rows b.1)

pub entries_rise : {V : Type 0} (rows : List (Row V)) → IsRising rows → IsStrictlySortedBy nat_cmp (keys_of (entries_of rows))
entries_rise [] is = empty_sorted
entries_rise (r ∷ rows) is = sorted_before r.number r.value (entries_of rows) (below_entries r.number rows is.0) (entries_rise rows is.1)
