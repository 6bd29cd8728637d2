-- Justified lines, one behind the other.
use Rattle.std.proofs.Common.{◌≡◌, ◌⊎◌, ℕ, ◌<◌, ◌≤◌, true, List, [], ◌∷◌, ◌++◌, length, length-append, take, Option, Some, None, sym, ap, ◌∙◌, arith, inl, inr}
use Rattle.std.specs.Prelude.{is_some, unwrap_or, slice_get}
use Rattle.std.proofs.Math.Seq.{take-append_seam}
use Rattle.std.proofs.lemmas.Bool.{cases_lt}
use Rattle.std.proofs.lemmas.List.{take-append-le}
use Rattle.std.proofs.lemmas.List.Sums.{fold-append}
use Rattle.std.proofs.lemmas.Option.{same_Some}
use Rattle.certificates.specs.declared.lines.CertLine.{CertLine}
use Rattle.certificates.specs.Told.{Basis, Told, taken}
use Rattle.certificates.specs.Justified.{told, is_justified, AreJustified}
use Rattle.explanation_laws.proofs.Lists.{in_front, at_end}

module _ (b : Basis) (lines : List CertLine) (line : CertLine) (t : Told) (takes : taken b (told b lines) line ≡ Some t) where
  -- what is told with one line more
  pub told_more : told b (lines ++ line ∷ []) ≡ t
  told_more =
      fold-append (λ t l. unwrap_or (taken b t l) t) (λ p. None) lines (line ∷ [])
      ∙ ap (λ (o : Option Told). unwrap_or o (told b lines)) takes

  -- lines stay justified with one more that is
  pub justified_more : AreJustified b lines (length lines) → AreJustified b (lines ++ line ∷ []) (length (lines ++ line ∷ []))
  justified_more before i l less at_ = by_place (cases_lt i (length lines))
    where
      by_place : (i < length lines) ⊎ (length lines ≤ i) → is_justified b (take i (lines ++ line ∷ [])) l ≡ true
      by_place (inl earlier) =
          ap (λ (ls : List CertLine). is_justified b ls l) (take-append-le i lines (line ∷ []) (omega arith))
          ∙ before i l earlier (sym (in_front lines (line ∷ []) i earlier) ∙ at_)
      by_place (inr later) =
          let long = length-append lines (line ∷ []) in
          let here : i ≡ length lines = omega (arith, less, later, long) in
          let same : line ≡ l = same_Some line l (sym (at_end lines line) ∙ ap (slice_get (lines ++ line ∷ [])) (sym here) ∙ at_) in
          ap (λ (n : ℕ). is_justified b (take n (lines ++ line ∷ [])) l) here
          ∙ ap (λ (ls : List CertLine). is_justified b ls l) (take-append_seam lines (line ∷ []))
          ∙ ap (λ (k : CertLine). is_justified b lines k) (sym same)
          ∙ ap is_some takes
