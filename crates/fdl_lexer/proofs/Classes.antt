-- The kind of a token is known by its first two bytes.
use Rattle.std.proofs.Common.{◌≡◌, ◌≢◌, ℕ, ◌≤◌, true, false, List, [], ◌∷◌, ◌++◌, take, drop, slice_index, ◌+◌, subst, Some, None, cond, eqb, arith, refl, sym, ◌∙◌}
use Rattle.std.specs.Prelude.{codes}
use Rattle.std.specs.List.{prefix_len}
use Rattle.std.proofs.lemmas.Bool.Decides.{nat_tests}
use Rattle.std.proofs.lemmas.Grind.{common_steps}
use Rattle.std.specs.Char.{is_ascii_digit, is_ascii_alphabetic}
use Rattle.flow_model.specs.Words.{is_name_byte}
use Rattle.fdl_lexer.specs.Bytes.{is_item_byte, single_quoted, double_quoted}
use Rattle.fdl_lexer.specs.Tokens.{Spells, NoTokenBegins, mark_of}
use Rattle.fdl_lexer.specs.declared.kinds.What.{What}
use Rattle.fdl_lexer.specs.declared.kinds.What.TheVariants.{Word, Name, Rc, Item, Number, Text, Mark}
use Rattle.fdl_lexer.proofs.Quotes.{front_is, name_parts, item_parts, quoted_run}

-- the kinds, numbered
abbrev pub kind_of : What → ℕ
kind_of (Word keyword) = 1
kind_of Name = 2
kind_of Rc = 3
kind_of Item = 4
kind_of (Number value) = 5
kind_of Text = 6
kind_of (Mark mark) = 7

-- the only kind that may begin with these two bytes
unfoldable pub kind_at : ℕ → ℕ → ℕ
kind_at a b =
    cond (is_ascii_alphabetic a) 1
    (cond (is_ascii_digit a) 5
    (cond (eqb a 39) (cond (is_ascii_alphabetic b) 2 (cond (is_ascii_digit b) 4 3))
    (cond (eqb a 34) 6 7)))

pub letter_bounds : (a : ℕ) → is_ascii_alphabetic a ≡ true → (65 ≤ a) × (a ≤ 122) × (a ≢ 91) × (a ≢ 93)
letter_bounds a e = (grind (arith, nat_tests), grind (arith, nat_tests), grind (arith, nat_tests), grind (arith, nat_tests))

pub digit_bounds : (d : ℕ) → is_ascii_digit d ≡ true → (48 ≤ d) × (d ≤ 57)
digit_bounds d e = (grind (arith, nat_tests), grind (arith, nat_tests))

pub no_digit : (a : ℕ) → is_ascii_alphabetic a ≡ true → is_ascii_digit a ≡ false
no_digit a e = grind (arith, nat_tests)

pub no_letter : (a : ℕ) → is_ascii_digit a ≡ true → is_ascii_alphabetic a ≡ false
no_letter a e = grind (arith, nat_tests)

mark_kind : (a b : ℕ) → mark_of a b ≢ None → kind_at a b ≡ 7
unfolding kind_at
mark_kind a b some = grind (arith, nat_tests, common_steps)

name_kind : (name rest bytes : List ℕ) → is_ascii_alphabetic (slice_index name 0) ≡ true → bytes ≡ single_quoted name ++ rest → kind_at (slice_index bytes 0) (slice_index bytes 1) ≡ 2
unfolding kind_at
name_kind [] rest bytes letter e = cc
name_kind (b ∷ bs) rest bytes letter e = rw (e, letter) refl

item_kind : (item rest bytes : List ℕ) → is_ascii_digit (slice_index item 0) ≡ true → bytes ≡ single_quoted item ++ rest → kind_at (slice_index bytes 0) (slice_index bytes 1) ≡ 4
unfolding kind_at
item_kind [] rest bytes digit e = cc
item_kind (b ∷ bs) rest bytes digit e = rw (e, no_letter b digit, digit) refl

pub spelled_kind : (what : What) (n : ℕ) (bytes : List ℕ) → Spells what n bytes → kind_of what ≡ kind_at (slice_index bytes 0) (slice_index bytes 1)
unfolding kind_at
spelled_kind (Word keyword) n bytes s = rw s.0 refl
spelled_kind Name n bytes (name, is, first) = sym (name_kind name (drop n bytes) bytes (name_parts name is).2 (front_is _ n bytes first))
spelled_kind Rc n bytes s = rw (front_is (codes "'_RC'") n bytes s) refl
spelled_kind Item n bytes (item, is, first) = sym (item_kind item (drop n bytes) bytes (item_parts item is).2 (front_is _ n bytes first))
spelled_kind (Number value) n bytes s = rw (no_letter (slice_index bytes 0) s.0, s.0) refl
spelled_kind Text n bytes (value, is, first, more) = rw (front_is (double_quoted value) n bytes first) refl
spelled_kind (Mark mark) n bytes s = sym (mark_kind (slice_index bytes 0) (slice_index bytes 1) (λ none. let e : Some (mark, n) ≡ None = sym s ∙ none in cc))

-- what quotes and the byte behind them say of the kind
pub kind_name : (bytes : List ℕ) → slice_index bytes 0 ≡ 39 → is_ascii_alphabetic (slice_index bytes 1) ≡ true → kind_at (slice_index bytes 0) (slice_index bytes 1) ≡ 2
unfolding kind_at
kind_name bytes quote letter = rw (quote, letter) refl

pub kind_item : (bytes : List ℕ) → slice_index bytes 0 ≡ 39 → is_ascii_digit (slice_index bytes 1) ≡ true → kind_at (slice_index bytes 0) (slice_index bytes 1) ≡ 4
unfolding kind_at
kind_item bytes quote digit = rw (quote, no_letter (slice_index bytes 1) digit, digit) refl

pub kind_rc : (bytes : List ℕ) → slice_index bytes 0 ≡ 39 → is_ascii_alphabetic (slice_index bytes 1) ≡ false → is_ascii_digit (slice_index bytes 1) ≡ false → kind_at (slice_index bytes 0) (slice_index bytes 1) ≡ 3
unfolding kind_at
kind_rc bytes quote letter digit = rw (quote, letter, digit) refl

pub kind_text : (bytes : List ℕ) → slice_index bytes 0 ≡ 34 → kind_at (slice_index bytes 0) (slice_index bytes 1) ≡ 6
unfolding kind_at
kind_text bytes quote = rw quote refl

-- no name begins here, and so no token
pub no_name : (bytes : List ℕ) → kind_at (slice_index bytes 0) (slice_index bytes 1) ≡ 2 → (prefix_len is_name_byte (drop 1 bytes) ≤ 32 → slice_index bytes (prefix_len is_name_byte (drop 1 bytes) + 1) ≡ 39 → ⊥) → NoTokenBegins bytes
no_name bytes kind none Name n (name, is, first) =
    let parts = name_parts name is in
    let r = quoted_run is_name_byte name n bytes refl parts.0 first in
    none (omega (arith, r.run)) (rw r.run r.quote)
no_name bytes kind none what n s = let e = spelled_kind what n bytes s in absurd (omega arith)

pub no_item : (bytes : List ℕ) → kind_at (slice_index bytes 0) (slice_index bytes 1) ≡ 4 → (prefix_len is_item_byte (drop 1 bytes) ≤ 1024 → slice_index bytes (prefix_len is_item_byte (drop 1 bytes) + 1) ≡ 39 → ⊥) → NoTokenBegins bytes
no_item bytes kind none Item n (item, is, first) =
    let parts = item_parts item is in
    let r = quoted_run is_item_byte item n bytes refl parts.0 first in
    none (omega (arith, r.run)) (rw r.run r.quote)
no_item bytes kind none what n s = let e = spelled_kind what n bytes s in absurd (omega arith)

pub no_rc : (bytes : List ℕ) → kind_at (slice_index bytes 0) (slice_index bytes 1) ≡ 3 → (take 5 bytes ≡ codes "'_RC'" → ⊥) → NoTokenBegins bytes
no_rc bytes kind none Rc n (first, size) = none (subst (λ (m : ℕ). take m bytes ≡ codes "'_RC'") size first)
no_rc bytes kind none what n s = let e = spelled_kind what n bytes s in absurd (omega arith)

pub no_text : (bytes : List ℕ) → kind_at (slice_index bytes 0) (slice_index bytes 1) ≡ 6 → ((n : ℕ) → Spells Text n bytes → ⊥) → NoTokenBegins bytes
no_text bytes kind none Text n s = none n s
no_text bytes kind none what n s = let e = spelled_kind what n bytes s in absurd (omega arith)
