-- Gaps behind gaps.
use Rattle.std.proofs.Common.{◌≡◌, ℕ, ◌+◌, ◌-◌, ◌<◌, ◌≤◌, true, List, [], ◌++◌, length, take, drop, get_or, arith, sym, ◌∙◌, subst, inl, inr, append_assoc, append-nil}
use Rattle.std.proofs.Math.Seq.{take-add}
use Rattle.std.proofs.lemmas.List.{get_or-take, get_or_past, take_more, length-take-le}
use Rattle.std.proofs.lemmas.Bool.{cases_lt}
use Rattle.fdl_lexer.specs.Bytes.{is_blank}
use Rattle.fdl_lexer.specs.Gaps.{EndsAt, HasComment, IsCommentLen, IsGap, Nothing, Blank, Comment}

pub IsGap-append : (xs ys : List ℕ) → IsGap xs → IsGap ys → IsGap (xs ++ ys)
IsGap-append xs ys Nothing h = h
IsGap-append xs ys (Blank b bs e g) h = Blank b (bs ++ ys) e (IsGap-append bs ys g h)
IsGap-append xs ys (Comment k c bs is len g) h = subst IsGap (sym (append_assoc c bs ys)) (Comment k c (bs ++ ys) is len (IsGap-append bs ys g h))

-- one more blank
pub gap_blank : (bytes : List ℕ) (at : ℕ) → at < length bytes → IsGap (take at bytes) → is_blank (get_or bytes at 0) ≡ true → IsGap (take (at + 1) bytes)
gap_blank bytes at lt g e = rw (take_more bytes at 0 lt) (IsGap-append _ _ g (Blank (get_or bytes at 0) [] e Nothing))

-- the bytes of a comment by themselves
pub comment_alone : (bytes : List ℕ) (len : ℕ) → IsCommentLen bytes len → HasComment (take len bytes) (len - 2)
comment_alone bytes len h =
    let c = h.comment in
    let b = c.behind in
    let s = h.some in
    record {
      slash = get_or-take len bytes 0 0 (omega arith) ∙ c.slash;
      star = get_or-take len bytes 1 0 (omega arith) ∙ c.star;
      behind = c.behind;
      ends = (get_or-take len bytes (len - 2) 0 (omega arith) ∙ c.ends.0, get_or-take len bytes (len - 2 + 1) 0 (omega arith) ∙ c.ends.1);
      first = λ j low high e. c.first j low high (sym (get_or-take len bytes j 0 (omega arith)) ∙ e.0, sym (get_or-take len bytes (j + 1) 0 (omega arith)) ∙ e.1);
    }

-- one more comment
pub gap_comment : (bytes : List ℕ) (at len : ℕ) → IsGap (take at bytes) → IsCommentLen (drop at bytes) len → IsGap (take (at + len) bytes)
gap_comment bytes at len g h =
    let c = take len (drop at bytes) in
    let size : length c ≡ len - 2 + 2 = length-take-le len (drop at bytes) h.within ∙ omega (arith, h.some) in
    rw (take-add at len bytes) (IsGap-append _ _ g (subst IsGap (append-nil c) (Comment (len - 2) c [] (comment_alone (drop at bytes) len h) size Nothing)))

-- past the search no comment ends
pub no_end : (bytes : List ℕ) (n k : ℕ) → length bytes ≤ n + 1 → ((j : ℕ) → 2 ≤ j → j < n → EndsAt bytes j → ⊥) → HasComment bytes k → ⊥
no_end bytes n k le none h =
    elim (cases_lt k n) [
      | inl below ↦ none k h.behind below h.ends
      | inr above ↦ let e : get_or bytes (k + 1) 0 ≡ 0 = get_or_past bytes (k + 1) 0 (omega arith) in let f : get_or bytes (k + 1) 0 ≡ 47 = h.ends.1 in absurd (omega arith)
    ]
