-- Gaps that begin alike are the same.
use Rattle.std.proofs.Common.{◌≡◌, ℕ, ◌+◌, ◌≤◌, true, false, List, ◌∷◌, ◌++◌, length, take, drop, slice_index, inl, inr, arith, refl, sym, ◌∙◌, ap, subst, append_assoc}
use Rattle.std.proofs.Math.ListN.{get_or-append}
use Rattle.std.proofs.Math.Seq.{take-append_seam, drop-append_seam}
use Rattle.std.proofs.lemmas.Bool.{cases_lt}
use Rattle.fdl_lexer.specs.Bytes.{is_blank}
use Rattle.fdl_lexer.specs.Gaps.{HasComment, IsGap, Nothing, Blank, Comment, NoGap}

-- a comment stays one, whatever stands behind it
comment_before : (c rest : List ℕ) (k : ℕ) → HasComment c k → length c ≡ k + 2 → HasComment (c ++ rest) k
comment_before c rest k h size =
    let b = h.behind in
    record {
      slash = get_or-append c rest 0 0 (omega arith) ∙ h.slash;
      star = get_or-append c rest 0 1 (omega arith) ∙ h.star;
      behind = h.behind;
      ends = (get_or-append c rest 0 k (omega arith) ∙ h.ends.0, get_or-append c rest 0 (k + 1) (omega arith) ∙ h.ends.1);
      first = λ j low high e. h.first j low high (sym (get_or-append c rest 0 j (omega arith)) ∙ e.0, sym (get_or-append c rest 0 (j + 1) (omega arith)) ∙ e.1);
    }

one_end : (bytes : List ℕ) (j k : ℕ) → HasComment bytes j → HasComment bytes k → j ≤ k
one_end bytes j k h i =
    elim (cases_lt k j) [ inl lt ↦ absurd (h.first k i.behind lt i.ends) | inr le ↦ le ]

-- two comments that begin the same bytes are the same
same_comment : (c d x y : List ℕ) (j k : ℕ) → HasComment c j → length c ≡ j + 2 → HasComment d k → length d ≡ k + 2 → c ++ x ≡ d ++ y → (c ≡ d) × (x ≡ y)
same_comment c d x y j k h size i size2 e =
    let hc = comment_before c x j h size in
    let hd : HasComment (c ++ x) k = subst (λ (all : List ℕ). HasComment all k) (sym e) (comment_before d y k i size2) in
    let a = one_end (c ++ x) j k hc hd in
    let b = one_end (c ++ x) k j hd hc in
    let same : length c ≡ length d = omega arith in
    let front : c ≡ take (length c) (d ++ y) = sym (take-append_seam c x) ∙ ap (λ (all : List ℕ). take (length c) all) e in
    let back : x ≡ drop (length c) (d ++ y) = sym (drop-append_seam c x) ∙ ap (λ (all : List ℕ). drop (length c) all) e in
    (front ∙ ap (λ (n : ℕ). take n (d ++ y)) same ∙ take-append_seam d y, back ∙ ap (λ (n : ℕ). drop n (d ++ y)) same ∙ drop-append_seam d y)

blank_or_comment : (b : ℕ) (bs c rest : List ℕ) (k : ℕ) → is_blank b ≡ true → HasComment c k → length c ≡ k + 2 → b ∷ bs ≡ c ++ rest → ⊥
blank_or_comment b bs c rest k blank h size e =
    let slash : b ≡ 47 = ap (λ (all : List ℕ). slice_index all 0) e ∙ (comment_before c rest k h size).slash in
    let no : is_blank 47 ≡ true = rw slash at blank in
    cc

-- two gaps that begin the same bytes, behind which no gap goes on, are the same
pub same_gap : (xs ys r s : List ℕ) → IsGap xs → IsGap ys → xs ++ r ≡ ys ++ s → NoGap r → NoGap s → xs ≡ ys
same_gap xs ys r s Nothing Nothing e p q = refl
same_gap xs ys r s Nothing (Blank b bs blank g) e p q =
    let no : is_blank b ≡ false = rw e at p.0 in cc
same_gap xs ys r s Nothing (Comment k c bs h size g) e p q =
    absurd (p.1 k (subst (λ (all : List ℕ). HasComment all k) (sym (e ∙ append_assoc c bs s)) (comment_before c (bs ++ s) k h size)))
same_gap xs ys r s (Blank b bs blank g) Nothing e p q =
    let no : is_blank b ≡ false = rw (← e) at q.0 in cc
same_gap xs ys r s (Blank b bs blank g) (Blank d ds blank2 g2) e p q =
    let head : b ≡ d = cc in
    let tail : bs ++ r ≡ ds ++ s = cc in
    let same = same_gap bs ds r s g g2 tail p q in
    cc
same_gap xs ys r s (Blank b bs blank g) (Comment k c ds h size g2) e p q =
    absurd (blank_or_comment b (bs ++ r) c (ds ++ s) k blank h size (e ∙ append_assoc c ds s))
same_gap xs ys r s (Comment k c bs h size g) Nothing e p q =
    absurd (q.1 k (subst (λ (all : List ℕ). HasComment all k) (sym (append_assoc c bs r) ∙ e) (comment_before c (bs ++ r) k h size)))
same_gap xs ys r s (Comment k c bs h size g) (Blank d ds blank g2) e p q =
    absurd (blank_or_comment d (ds ++ s) c (bs ++ r) k blank h size (sym e ∙ append_assoc c bs r))
same_gap xs ys r s (Comment k c bs h size g) (Comment j d ds i size2 g2) e p q =
    let two = same_comment c d (bs ++ r) (ds ++ s) k j h size i size2 (sym (append_assoc c bs r) ∙ e ∙ append_assoc d ds s) in
    let same = same_gap bs ds r s g g2 two.1 p q in
    ap (λ (front : List ℕ). front ++ bs) two.0 ∙ ap (λ (rest : List ℕ). d ++ rest) same
