-- Tokens that begin alike are the same.
use Rattle.std.proofs.Common.{◌≡◌, ◌≢◌, ℕ, ◌-◌, ◌^◌, min, true, List, [], ◌∷◌, ◌++◌, length, take, drop, slice_index, Some, None, arith, refl, sym, ◌∙◌, ap, eqb, append_assoc, append-nil}
use Rattle.std.proofs.lemmas.Bool.{false_from_ne_true}
use Rattle.std.proofs.lemmas.Bool.Decides.{nat_tests}
use Rattle.std.proofs.lemmas.Grind.{common_steps}
use Rattle.std.specs.Str.Parse.{digits_value}
use Rattle.flow_table.proofs.Apart.{spelling_one}
use Rattle.flow_table.specs.declared.keyword.Keyword.{Keyword}
use Rattle.flow_model.specs.Words.{is_name_byte}
use Rattle.fdl_lexer.specs.Bytes.{is_blank, is_item_byte, double_quoted, doubled}
use Rattle.fdl_lexer.specs.Gaps.{NoGap}
use Rattle.fdl_lexer.specs.Tokens.{Spells, AreFirst, NoTokenBegins, mark_of}
use Rattle.fdl_lexer.specs.declared.kinds.Mark.{Mark as Sign}
use Rattle.fdl_lexer.specs.declared.kinds.What.{What}
use Rattle.fdl_lexer.specs.declared.kinds.What.TheVariants.{Word, Name, Rc, Item, Number, Text, Mark}
use Rattle.fdl_lexer.proofs.Quotes.{front_is, name_parts, item_parts, quoted_run}
use Rattle.fdl_lexer.proofs.Classes.{kind_at, spelled_kind}
use Rattle.fdl_lexer.proofs.Doubled.{split, too_long, first_of}

-- behind a closing quote nothing of the text is left
closed : (left r s : List ℕ) → 34 ∷ r ≡ doubled left ++ 34 ∷ s → slice_index r 0 ≢ 34 → left ≡ []
closed [] r s e stop = refl
closed (x ∷ xs) r s e stop = absurd (too_long x xs (34 ∷ s) r (eqb x 34) refl (sym e) stop)

same_text : (bytes value other : List ℕ) (n m : ℕ) → AreFirst (double_quoted value) n bytes → slice_index (drop n bytes) 0 ≢ 34 → AreFirst (double_quoted other) m bytes → slice_index (drop m bytes) 0 ≢ 34 → n ≡ m
same_text bytes value other n m first stop second stop2 =
    let one : bytes ≡ 34 ∷ (doubled value ++ 34 ∷ drop n bytes) = front_is (double_quoted value) n bytes first ∙ ap (λ (rest : List ℕ). 34 ∷ rest) (append_assoc (doubled value) (34 ∷ []) (drop n bytes)) in
    let two : bytes ≡ 34 ∷ (doubled other ++ 34 ∷ drop m bytes) = front_is (double_quoted other) m bytes second ∙ ap (λ (rest : List ℕ). 34 ∷ rest) (append_assoc (doubled other) (34 ∷ []) (drop m bytes)) in
    let three : 34 ∷ (doubled value ++ 34 ∷ drop n bytes) ≡ 34 ∷ (doubled other ++ 34 ∷ drop m bytes) = sym one ∙ two in
    let four : doubled value ++ 34 ∷ drop n bytes ≡ doubled other ++ 34 ∷ drop m bytes = cc in
    let s = split value (34 ∷ drop n bytes) other (drop m bytes) four stop2 in
    let none = closed s.0 (drop n bytes) (drop m bytes) s.2 stop in
    let whole : other ≡ value = s.1 ∙ ap (λ (left : List ℕ). value ++ left) none ∙ append-nil value in
    first.1 ∙ ap (λ (v : List ℕ). length (double_quoted v)) (sym whole) ∙ sym second.1

pub same_token : (what other : What) (n m : ℕ) (bytes : List ℕ) → Spells what n bytes → Spells other m bytes → (what ≡ other) × (n ≡ m)
same_token (Word a) (Word b) n m bytes s t =
    let size : n ≡ m = s.1 ∙ sym t.1 in
    let keyword : a ≡ b = spelling_one a b (sym s.2 ∙ ap (λ (k : ℕ). take k bytes) size ∙ t.2) in
    (ap (λ (k : Keyword). Word k) keyword, size)
same_token Name Name n m bytes (name, is, first) (name2, is2, second) =
    let p = quoted_run is_name_byte name n bytes refl (name_parts name is).0 first in
    let q = quoted_run is_name_byte name2 m bytes refl (name_parts name2 is2).0 second in
    (refl, omega (arith, p.run, p.size, q.run, q.size))
same_token Rc Rc n m bytes s t = (refl, s.1 ∙ sym t.1)
same_token Item Item n m bytes (item, is, first) (item2, is2, second) =
    let p = quoted_run is_item_byte item n bytes refl (item_parts item is).0 first in
    let q = quoted_run is_item_byte item2 m bytes refl (item_parts item2 is2).0 second in
    (refl, omega (arith, p.run, p.size, q.run, q.size))
same_token (Number v) (Number w) n m bytes s t =
    let size : n ≡ m = s.1 ∙ sym t.1 in
    let value : v ≡ w = s.4 ∙ ap (λ (k : ℕ). min (digits_value 10 (take k bytes)) (2 ^ 64 - 1)) size ∙ sym t.4 in
    (ap (λ (k : ℕ). Number k) value, size)
same_token Text Text n m bytes (value, is, first, stop) (value2, is2, second, stop2) =
    (refl, same_text bytes value value2 n m first (λ e. stop (sym (first_of n bytes) ∙ e)) second (λ e. stop2 (sym (first_of m bytes) ∙ e)))
same_token (Mark a) (Mark b) n m bytes s t =
    let e : Some (a, n) ≡ Some (b, m) = sym s ∙ t in
    let p : (a, n) ≡ (b, m) = cc in
    (ap (λ (k : Sign × ℕ). Mark k.0) p, ap (λ (k : Sign × ℕ). k.1) p)
same_token what other n m bytes s t =
    let e = sym (spelled_kind what n bytes s) in
    let f = spelled_kind other m bytes t in
    absurd (omega arith)

blank_kind : (a b : ℕ) → is_blank a ≡ true → kind_at a b ≡ 7
unfolding kind_at
blank_kind a b blank = grind (arith, nat_tests, common_steps)

slash_kind : (a b : ℕ) → a ≡ 47 → kind_at a b ≡ 7
unfolding kind_at
slash_kind a b slash = rw slash refl

blank_no_mark : (a b : ℕ) → is_blank a ≡ true → mark_of a b ≡ None
blank_no_mark a b blank = grind (arith, nat_tests, common_steps)

-- where a token begins, no gap does
pub token_no_gap : (what : What) (n : ℕ) (bytes : List ℕ) → Spells what n bytes → NoGap bytes
token_no_gap (Mark m) n bytes s =
    (false_from_ne_true _ (λ blank. let none : Some (m, n) ≡ None = sym s ∙ blank_no_mark (slice_index bytes 0) (slice_index bytes 1) blank in cc), λ k h. let none : None ≡ Some (m, n) = rw h.slash at s in cc)
token_no_gap what n bytes s =
    let kind = spelled_kind what n bytes s in (
      false_from_ne_true _ (λ blank. let e = blank_kind (slice_index bytes 0) (slice_index bytes 1) blank in absurd (omega arith)),
      λ k h. let e = slash_kind (slice_index bytes 0) (slice_index bytes 1) h.slash in absurd (omega arith),
    )

empty_kind : kind_at 0 0 ≡ 7
unfolding kind_at
empty_kind = refl

-- no token begins at the end
pub no_token_at_end : NoTokenBegins []
no_token_at_end (Mark m) n s = cc
no_token_at_end what n s = let kind = spelled_kind what n [] s in let e = empty_kind in absurd (omega arith)
