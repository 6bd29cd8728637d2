-- Texts, whose quotes are doubled.
use Rattle.std.proofs.Common.{◌≡◌, ◌≢◌, ℕ, ◌+◌, ◌<◌, ◌≤◌, Bool, true, false, List, [], ◌∷◌, ◌++◌, length, take, drop, get_or, slice_index, eqb, arith, refl, sym, ◌∙◌, ap, subst, append_assoc, append-nil, length-append, lit<}
use Rattle.std.proofs.lemmas.List.{take-append-drop, take_more, get_or-drop, drop-drop, length-drop}
use Rattle.std.proofs.lemmas.List.Folds.{list_all-append}
use Rattle.std.proofs.lemmas.Bool.Decides.{nat_tests}
use Rattle.std.proofs.lemmas.Grind.{common_steps}
use Rattle.std.specs.List.{list_all}
use Rattle.flow_model.specs.Words.{is_text_byte, is_text}
use Rattle.fdl_lexer.specs.Bytes.{doubled, double_quoted, next_len, written_len}
use Rattle.fdl_lexer.specs.Tokens.{AreFirst, Spells}
use Rattle.fdl_lexer.specs.declared.kinds.What.TheVariants.{Text}
use Rattle.fdl_lexer.proofs.Quotes.{front_is, within}

pub doubled_quote : (x : ℕ) (xs : List ℕ) → eqb x 34 ≡ true → doubled (x ∷ xs) ≡ 34 ∷ 34 ∷ doubled xs
doubled_quote x xs e = rw e refl

pub doubled_other : (x : ℕ) (xs : List ℕ) → eqb x 34 ≡ false → doubled (x ∷ xs) ≡ x ∷ doubled xs
doubled_other x xs e = rw e refl

pub doubled-append : (xs ys : List ℕ) → doubled (xs ++ ys) ≡ doubled xs ++ doubled ys
doubled-append [] ys = refl
doubled-append (x ∷ xs) ys = grind (arith, common_steps, nat_tests, doubled-append xs ys)

pub too_long : (x : ℕ) (xs t r : List ℕ) (b : Bool) → eqb x 34 ≡ b → doubled (x ∷ xs) ++ t ≡ 34 ∷ r → slice_index r 0 ≢ 34 → ⊥
too_long x xs t r true quote e stop =
    let f : 34 ∷ 34 ∷ (doubled xs ++ t) ≡ 34 ∷ r = rw (doubled_quote x xs quote) at e in
    let g : 34 ∷ (doubled xs ++ t) ≡ r = cc in
    stop (subst (λ (rest : List ℕ). slice_index rest 0 ≡ 34) g refl)
too_long x xs t r false quote e stop =
    let f : x ∷ (doubled xs ++ t) ≡ 34 ∷ r = rw (doubled_other x xs quote) at e in
    let g : x ≡ 34 = cc in
    grind (arith, nat_tests)

-- the first byte and what is behind it, where two texts begin alike
heads : (x : ℕ) (xs t : List ℕ) (y : ℕ) (ys u : List ℕ) (b c : Bool) → eqb x 34 ≡ b → eqb y 34 ≡ c → doubled (x ∷ xs) ++ t ≡ doubled (y ∷ ys) ++ u → (x ≡ y) × (doubled xs ++ t ≡ doubled ys ++ u)
heads x xs t y ys u true true p q e =
    let f : 34 ∷ 34 ∷ (doubled xs ++ t) ≡ 34 ∷ 34 ∷ (doubled ys ++ u) = rw (doubled_quote x xs p, doubled_quote y ys q) at e in
    (grind (arith, nat_tests), cc)
heads x xs t y ys u true false p q e =
    let f : 34 ∷ 34 ∷ (doubled xs ++ t) ≡ y ∷ (doubled ys ++ u) = rw (doubled_quote x xs p, doubled_other y ys q) at e in
    let g : 34 ≡ y = cc in
    absurd (grind (arith, nat_tests))
heads x xs t y ys u false true p q e =
    let f : x ∷ (doubled xs ++ t) ≡ 34 ∷ 34 ∷ (doubled ys ++ u) = rw (doubled_other x xs p, doubled_quote y ys q) at e in
    let g : x ≡ 34 = cc in
    absurd (grind (arith, nat_tests))
heads x xs t y ys u false false p q e =
    let f : x ∷ (doubled xs ++ t) ≡ y ∷ (doubled ys ++ u) = rw (doubled_other x xs p, doubled_other y ys q) at e in
    (cc, cc)

-- a text that begins like another one goes on to its closing quote
pub split : (xs t ys r : List ℕ) → doubled xs ++ t ≡ doubled ys ++ 34 ∷ r → slice_index r 0 ≢ 34 → (left : List ℕ) × (ys ≡ xs ++ left) × (t ≡ doubled left ++ 34 ∷ r)
split [] t ys r e stop = (ys, refl, e)
split (x ∷ xs) t [] r e stop = absurd (too_long x xs t r (eqb x 34) refl e stop)
split (x ∷ xs) t (y ∷ ys) r e stop =
    let h = heads x xs t y ys (34 ∷ r) (eqb x 34) (eqb y 34) refl refl e in
    let s = split xs t ys r h.1 stop in
    (s.0, ap (λ (all : List ℕ). y ∷ all) s.1 ∙ ap (λ (b : ℕ). b ∷ (xs ++ s.0)) (sym h.0), s.2)

-- so much of a text is read: these bytes of it, of that number
pub record IsHalfRead (bytes : List ℕ) (at size : ℕ) (so_far : List ℕ) : Type 0 where
  pub read : take at bytes ≡ 34 ∷ doubled so_far
  pub within : at ≤ length bytes
  pub few : size < at
  pub count : size ≡ length so_far
  pub allowed : list_all is_text_byte so_far ≡ true

pub half_read_start : (bytes : List ℕ) → slice_index bytes 0 ≡ 34 → IsHalfRead bytes 1 0 []
half_read_start [] quote = absurd (omega arith)
half_read_start (b ∷ bs) quote = record { read = rw quote refl; within = omega arith; few = omega arith; count = refl; allowed = refl }

step_quote : (bytes : List ℕ) (at size : ℕ) (so_far : List ℕ) → slice_index bytes at ≡ 34 → slice_index bytes (at + 1) ≡ 34 → IsHalfRead bytes at size so_far → IsHalfRead bytes (at + 2) (size + 1) (so_far ++ slice_index bytes at ∷ [])
step_quote bytes at size so_far first second h =
    let lt = within bytes at 34 first (lit< tt) in
    let lt_next = within bytes (at + 1) 34 second (lit< tt) in
    let two : at + 2 ≡ at + 1 + 1 = omega arith in
    record {
      read = rw (two, take_more bytes (at + 1) 0 lt_next, take_more bytes at 0 lt, h.read, first, second, doubled-append so_far (34 ∷ [])) (ap (λ (all : List ℕ). 34 ∷ all) (append_assoc (doubled so_far) (34 ∷ []) (34 ∷ [])));
      within = omega arith;
      few = omega (arith, h.few);
      count = rw (h.count, length-append so_far (slice_index bytes at ∷ [])) refl;
      allowed = rw (list_all-append is_text_byte so_far (slice_index bytes at ∷ []), h.allowed, first) refl;
    }

step_other : (bytes : List ℕ) (at size : ℕ) (so_far : List ℕ) → eqb (slice_index bytes at) 34 ≡ false → is_text_byte (slice_index bytes at) ≡ true → IsHalfRead bytes at size so_far → IsHalfRead bytes (at + 1) (size + 1) (so_far ++ slice_index bytes at ∷ [])
step_other bytes at size so_far other text h =
    let b = slice_index bytes at in
    let some : 0 < b = grind (arith, nat_tests) in
    let lt = within bytes at b refl some in
    record {
      read = rw (take_more bytes at 0 lt, h.read, doubled-append so_far (b ∷ []), doubled_other b [] other) refl;
      within = omega arith;
      few = omega (arith, h.few);
      count = rw (h.count, length-append so_far (b ∷ [])) refl;
      allowed = rw (list_all-append is_text_byte so_far (b ∷ []), h.allowed, text) refl;
    }

step_more : (bytes : List ℕ) (at size : ℕ) (so_far : List ℕ) (b : Bool) → eqb (slice_index bytes at) 34 ≡ b → IsHalfRead bytes at size so_far → 0 < next_len (slice_index bytes at) (slice_index bytes (at + 1)) → IsHalfRead bytes (at + next_len (slice_index bytes at) (slice_index bytes (at + 1))) (size + 1) (so_far ++ slice_index bytes at ∷ [])
step_more bytes at size so_far true quote h some =
    let first : slice_index bytes at ≡ 34 = grind (arith, nat_tests) in
    let second : slice_index bytes (at + 1) ≡ 34 = grind (arith, nat_tests) in
    let len : next_len (slice_index bytes at) (slice_index bytes (at + 1)) ≡ 2 = rw (first, second) refl in
    rw len (step_quote bytes at size so_far first second h)
step_more bytes at size so_far false quote h some =
    let text : is_text_byte (slice_index bytes at) ≡ true = grind (arith, nat_tests) in
    let len : next_len (slice_index bytes at) (slice_index bytes (at + 1)) ≡ 1 = rw (quote, text) refl in
    rw len (step_other bytes at size so_far quote text h)

-- one more byte of the text
pub half_read_more : (bytes : List ℕ) (at size : ℕ) (so_far : List ℕ) → IsHalfRead bytes at size so_far → 0 < next_len (slice_index bytes at) (slice_index bytes (at + 1)) → IsHalfRead bytes (at + next_len (slice_index bytes at) (slice_index bytes (at + 1))) (size + 1) (so_far ++ slice_index bytes at ∷ [])
half_read_more bytes at size so_far h some = step_more bytes at size so_far (eqb (slice_index bytes at) 34) refl h some

next_of : (left rest : List ℕ) (b : Bool) → eqb (slice_index left 0) 34 ≡ b → 0 < length left → list_all is_text_byte left ≡ true → 0 < next_len (slice_index (doubled left ++ rest) 0) (slice_index (doubled left ++ rest) 1)
next_of [] rest b is some text = absurd (omega arith)
next_of (x ∷ xs) rest true is some text = rw (doubled_quote x xs is) (lit< tt)
next_of (x ∷ xs) rest false is some text =
    let here : is_text_byte x ≡ true = grind (arith, nat_tests, common_steps) in
    rw (doubled_other x xs is, is, here) (lit< tt)

-- where the text doesn't go on, nothing is left of it
pub none_left : (left rest : List ℕ) → list_all is_text_byte left ≡ true → next_len (slice_index (doubled left ++ rest) 0) (slice_index (doubled left ++ rest) 1) ≡ 0 → left ≡ []
none_left [] rest text stop = refl
none_left (x ∷ xs) rest text stop =
    let some = next_of (x ∷ xs) rest (eqb x 34) refl (omega arith) text in absurd (omega arith)

-- the first two bytes behind a place
pub first_of : (at : ℕ) (bytes : List ℕ) → slice_index (drop at bytes) 0 ≡ slice_index bytes at
first_of at bytes = get_or-drop at bytes 0 0 ∙ ap (λ (i : ℕ). get_or bytes i 0) (omega arith)

pub second_of : (at : ℕ) (bytes : List ℕ) → slice_index (drop at bytes) 1 ≡ slice_index bytes (at + 1)
second_of at bytes = get_or-drop at bytes 1 0

-- what a text's token says of the bytes behind a part of it
pub record IsLeft (bytes : List ℕ) (at n : ℕ) (so_far value left : List ℕ) : Type 0 where
  pub whole : value ≡ so_far ++ left
  pub there : drop at bytes ≡ doubled left ++ 34 ∷ drop n bytes

pub left_of : (bytes : List ℕ) (at size n : ℕ) (so_far value : List ℕ) → IsHalfRead bytes at size so_far → AreFirst (double_quoted value) n bytes → slice_index bytes n ≢ 34 → (left : List ℕ) × IsLeft bytes at n so_far value left
left_of bytes at size n so_far value h first stop =
    let one : bytes ≡ (34 ∷ doubled so_far) ++ drop at bytes = sym (take-append-drop at bytes) ∙ ap (λ (front : List ℕ). front ++ drop at bytes) h.read in
    let two : bytes ≡ (34 ∷ (doubled value ++ 34 ∷ [])) ++ drop n bytes = front_is (double_quoted value) n bytes first in
    let three : 34 ∷ (doubled so_far ++ drop at bytes) ≡ 34 ∷ ((doubled value ++ 34 ∷ []) ++ drop n bytes) = sym one ∙ two in
    let four : doubled so_far ++ drop at bytes ≡ (doubled value ++ 34 ∷ []) ++ drop n bytes = cc in
    let ends : slice_index (drop n bytes) 0 ≢ 34 = λ e. stop (sym (first_of n bytes) ∙ e) in
    let s = split so_far (drop at bytes) value (drop n bytes) (four ∙ append_assoc (doubled value) (34 ∷ []) (drop n bytes)) ends in
    (s.0, record { whole = s.1; there = s.2 })

text_parts : (value : List ℕ) → is_text value ≡ true → (length value ≤ 255) × list_all is_text_byte value ≡ true
text_parts value is = (grind (arith, nat_tests, common_steps), grind (arith, nat_tests, common_steps))

-- where the text doesn't go on and isn't closed, no text begins
pub no_text_here : (bytes : List ℕ) (at size : ℕ) (so_far : List ℕ) → IsHalfRead bytes at size so_far → next_len (slice_index bytes at) (slice_index bytes (at + 1)) ≡ 0 → (size ≤ 255 → slice_index bytes at ≡ 34 → ⊥) → (n : ℕ) → Spells Text n bytes → ⊥
no_text_here bytes at size so_far h stop open_end n (value, is, first, more) =
    let parts = text_parts value is in
    let l = left_of bytes at size n so_far value h first more in
    let left = l.0 in
    let whole = l.1.whole in
    let there = l.1.there in
    let all : list_all is_text_byte (so_far ++ left) ≡ true = subst (λ (v : List ℕ). list_all is_text_byte v ≡ true) whole parts.1 in
    let allowed : list_all is_text_byte left ≡ true = sym (rw (list_all-append is_text_byte so_far left, h.allowed) refl) ∙ all in
    let here : slice_index (doubled left ++ 34 ∷ drop n bytes) 0 ≡ slice_index bytes at = rw (← there) (first_of at bytes) in
    let next : slice_index (doubled left ++ 34 ∷ drop n bytes) 1 ≡ slice_index bytes (at + 1) = rw (← there) (second_of at bytes) in
    let none = none_left left (34 ∷ drop n bytes) allowed (rw (here, next) stop) in
    let size_is : length value ≡ size = ap (λ (v : List ℕ). length v) whole ∙ ap (λ (v : List ℕ). length (so_far ++ v)) none ∙ ap (λ (v : List ℕ). length v) (append-nil so_far) ∙ sym h.count in
    let quote : slice_index bytes at ≡ 34 = sym here ∙ ap (λ (v : List ℕ). slice_index (doubled v ++ 34 ∷ drop n bytes) 0) none in
    open_end (omega (arith, parts.0)) quote

-- what is left of a text that is read back
pub record IsUnread (bytes : List ℕ) (at : ℕ) (so_far value left : List ℕ) : Type 0 where
  pub whole : value ≡ so_far ++ left
  pub there : drop at bytes ≡ doubled left ++ 34 ∷ []

unread_at : (bytes : List ℕ) (at : ℕ) (so_far value : List ℕ) (x : ℕ) (xs : List ℕ) (b : Bool) → eqb x 34 ≡ b → IsUnread bytes at so_far value (x ∷ xs) → (slice_index bytes at ≡ x) × IsUnread bytes (at + written_len x) (so_far ++ x ∷ []) value xs
unread_at bytes at so_far value x xs true is h =
    let quote : x ≡ 34 = grind (arith, nat_tests) in
    let there : drop at bytes ≡ 34 ∷ 34 ∷ (doubled xs ++ 34 ∷ []) = rw (doubled_quote x xs is) at h.there in
    let len : written_len x ≡ 2 = rw is refl in (
      sym (first_of at bytes) ∙ ap (λ (all : List ℕ). slice_index all 0) there ∙ sym quote,
      record {
        whole = h.whole ∙ sym (append_assoc so_far (x ∷ []) xs);
        there = rw len (sym (drop-drop 2 at bytes) ∙ ap (λ (all : List ℕ). drop 2 all) there);
      },
    )
unread_at bytes at so_far value x xs false is h =
    let there : drop at bytes ≡ x ∷ (doubled xs ++ 34 ∷ []) = rw (doubled_other x xs is) at h.there in
    let len : written_len x ≡ 1 = rw is refl in (
      sym (first_of at bytes) ∙ ap (λ (all : List ℕ). slice_index all 0) there,
      record {
        whole = h.whole ∙ sym (append_assoc so_far (x ∷ []) xs);
        there = rw len (sym (drop-drop 1 at bytes) ∙ ap (λ (all : List ℕ). drop 1 all) there);
      },
    )

-- one more byte read back
pub unread_more : (bytes : List ℕ) (at : ℕ) (so_far value left : List ℕ) → at + 1 < length bytes → IsUnread bytes at so_far value left → (rest : List ℕ) × IsUnread bytes (at + written_len (slice_index bytes at)) (so_far ++ slice_index bytes at ∷ []) value rest
unread_more bytes at so_far value [] more h =
    let size : length (drop at bytes) ≡ 1 = ap (λ (all : List ℕ). length all) h.there in absurd (omega (arith, length-drop at bytes))
unread_more bytes at so_far value (x ∷ xs) more h =
    let u = unread_at bytes at so_far value x xs (eqb x 34) refl h in
    (xs, subst (λ (b : ℕ). IsUnread bytes (at + written_len b) (so_far ++ b ∷ []) value xs) (sym u.0) u.1)

-- nothing left: all is read back
pub all_read : (bytes : List ℕ) (at : ℕ) (so_far value left : List ℕ) → length bytes ≤ at + 1 → IsUnread bytes at so_far value left → so_far ≡ value
all_read bytes at so_far value [] all h = sym (append-nil so_far) ∙ sym h.whole
all_read bytes at so_far value (x ∷ xs) all h =
    let u = unread_at bytes at so_far value x xs (eqb x 34) refl h in
    let more : drop (at + written_len x) bytes ≡ doubled xs ++ 34 ∷ [] = u.1.there in
    let size : length (drop (at + written_len x) bytes) ≡ length (doubled xs) + 1 = ap (λ (l : List ℕ). length l) more ∙ length-append (doubled xs) (34 ∷ []) in
    let some : 1 ≤ written_len x = grind (arith, nat_tests) in
    absurd (omega (arith, length-drop (at + written_len x) bytes))

pub unread_start : (bytes value : List ℕ) → bytes ≡ double_quoted value → IsUnread bytes 1 [] value value
unread_start bytes value e = record { whole = refl; there = rw e refl }
