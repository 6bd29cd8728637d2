-- Two scans of a text are the same.
use Rattle.std.proofs.Common.{◌≡◌, ℕ, ◌-◌, ◌≤◌, List, [], ◌∷◌, ◌++◌, length, drop, arith, refl, sym, ◌∙◌, ap, subst}
use Rattle.std.specs.Prelude.{slice_range}
use Rattle.std.proofs.Math.Seq.{drop-length}
use Rattle.std.proofs.lemmas.List.{take-append-drop, drop-drop, length-take-le, length-drop}
use Rattle.fdl_lexer.specs.Gaps.{IsGap, NoGap}
use Rattle.fdl_lexer.specs.Tokens.{AreTokens, IsNext, IsStuckAt, NoTokenBegins, Scans, Spells}
use Rattle.fdl_lexer.specs.declared.kinds.What.{What}
use Rattle.fdl_lexer.specs.declared.kinds.Token.{Token}
use Rattle.fdl_lexer.proofs.SameGap.{same_gap}
use Rattle.fdl_lexer.proofs.SameToken.{same_token, token_no_gap, no_token_at_end}

front_of : (text : List ℕ) (at to : ℕ) → at ≤ to → slice_range text at to ++ drop to text ≡ drop at text
front_of text at to le =
    ap (λ (rest : List ℕ). slice_range text at to ++ rest) (ap (λ (n : ℕ). drop n text) (omega arith) ∙ sym (drop-drop (to - at) at text)) ∙ take-append-drop (to - at) (drop at text)

size_of : (text : List ℕ) (at to : ℕ) → at ≤ to → to ≤ length text → length (slice_range text at to) ≡ to - at
size_of text at to le within = length-take-le (to - at) (drop at text) (omega (arith, length-drop at text))

-- where a gap ends
one_place : (text : List ℕ) (at p q : ℕ) → at ≤ p → p ≤ length text → IsGap (slice_range text at p) → NoGap (drop p text) → at ≤ q → q ≤ length text → IsGap (slice_range text at q) → NoGap (drop q text) → p ≡ q
one_place text at p q ap_le p_in g stop aq_le q_in h stop2 =
    let same = same_gap (slice_range text at p) (slice_range text at q) (drop p text) (drop q text) g h (front_of text at p ap_le ∙ sym (front_of text at q aq_le)) stop stop2 in
    let sizes : length (slice_range text at p) ≡ length (slice_range text at q) = ap (λ (l : List ℕ). length l) same in
    omega (arith, size_of text at p ap_le p_in, size_of text at q aq_le q_in)

token_of : What → ℕ → ℕ → Token
token_of w f t = record { what = w; from = f; to = t }

next_no_gap : (text : List ℕ) (at : ℕ) (t : Token) → IsNext text at t → NoGap (drop t.from text)
next_no_gap text at t n = token_no_gap t.what (t.to - t.from) (drop t.from text) n.spelled

one_from : (text : List ℕ) (at : ℕ) (t u : Token) → IsNext text at t → IsNext text at u → t.from ≡ u.from
one_from text at t u n m =
    let some = n.some in let within = n.within in let some2 = m.some in let within2 = m.within in
    one_place text at t.from u.from n.behind (omega arith) n.gap (next_no_gap text at t n) m.behind (omega arith) m.gap (next_no_gap text at u m)

-- the next token
one_next : (text : List ℕ) (at : ℕ) (t u : Token) → IsNext text at t → IsNext text at u → t ≡ u
unfolding token_of
one_next text at t u n m =
    let from = one_from text at t u n m in
    let spelled : Spells u.what (u.to - u.from) (drop t.from text) = subst (λ (f : ℕ). Spells u.what (u.to - u.from) (drop f text)) (sym from) m.spelled in
    let same = same_token t.what u.what (t.to - t.from) (u.to - u.from) (drop t.from text) n.spelled spelled in
    let some = n.some in
    let some2 = m.some in
    let size = same.1 in
    let to : t.to ≡ u.to = omega arith in
    ap (λ (w : What). token_of w t.from t.to) same.0 ∙ ap (λ (f : ℕ). token_of u.what f t.to) from ∙ ap (λ (e : ℕ). token_of u.what u.from e) to

-- behind this place a gap goes to that one, and then neither token nor gap
pub record IsDone (text : List ℕ) (at place : ℕ) : Type 0 where
  pub behind : at ≤ place
  pub within : place ≤ length text
  pub gap : IsGap (slice_range text at place)
  pub no_gap : NoGap (drop place text)
  pub no_token : NoTokenBegins (drop place text)

not_done : (text : List ℕ) (at p : ℕ) (t : Token) → IsNext text at t → IsDone text at p → ⊥
not_done text at p t n d =
    let some = n.some in let within = n.within in
    let same = one_place text at t.from p n.behind (omega arith) n.gap (next_no_gap text at t n) d.behind d.within d.gap d.no_gap in
    d.no_token t.what (t.to - t.from) (subst (λ (f : ℕ). Spells t.what (t.to - t.from) (drop f text)) same n.spelled)

pub one_scan : (text : List ℕ) (at : ℕ) (ts us : List Token) (e f p q : ℕ) → Scans text at ts e → Scans text at us f → IsDone text e p → IsDone text f q → (ts ≡ us) × (p ≡ q)
one_scan text at [] [] e f p q s r d g =
    let d2 = subst (λ (n : ℕ). IsDone text n p) s d in
    let g2 = subst (λ (n : ℕ). IsDone text n q) r g in
    (refl, one_place text at p q d2.behind d2.within d2.gap d2.no_gap g2.behind g2.within g2.gap g2.no_gap)
one_scan text at [] (u ∷ us) e f p q s r d g = absurd (not_done text at p u r.0 (subst (λ (n : ℕ). IsDone text n p) s d))
one_scan text at (t ∷ ts) [] e f p q s r d g = absurd (not_done text at q t s.0 (subst (λ (n : ℕ). IsDone text n q) r g))
one_scan text at (t ∷ ts) (u ∷ us) e f p q s r d g =
    let next = one_next text at t u s.0 r.0 in
    let rest : Scans text t.to us f = subst (λ (v : Token). Scans text v.to us f) (sym next) r.1 in
    let same = one_scan text t.to ts us e f p q s.1 rest d g in
    (ap (λ (v : Token). v ∷ ts) next ∙ ap (λ (vs : List Token). u ∷ vs) same.0, same.1)

no_gap_at_end : NoGap []
no_gap_at_end = (refl, λ k h. let e : 0 ≡ 47 = h.slash in absurd (omega arith))

pub tokens_done : (text : List ℕ) (ts : List Token) → (t : AreTokens text ts) → IsDone text t.end (length text)
tokens_done text ts t =
    let none : drop (length text) text ≡ [] = drop-length text in
    record { behind = t.within; within = omega arith; gap = t.rest; no_gap = subst NoGap (sym none) no_gap_at_end; no_token = subst NoTokenBegins (sym none) no_token_at_end }

pub stuck_done : (text : List ℕ) (place : ℕ) → (s : IsStuckAt text place) → IsDone text s.end place
stuck_done text place s = let w = s.within in record { behind = s.behind; within = omega arith; gap = s.gap; no_gap = s.no_gap; no_token = s.no_token }
