-- Lines that are justified, one more at a time; each that was, is justified again.
use Rattle.std.proofs.Common.{◌≡◌, ◌⊎◌, inl, inr, ℕ, ◌+◌, ◌<◌, ◌≤◌, Bool, true, false, List, [], ◌∷◌, ◌++◌, length, take, get_or, Option, Some, None, refl, sym, ap, subst, ◌∙◌, arith, ⊎_elim}
use Rattle.std.specs.Prelude.{IfSome, is_some, unwrap_or, slice_get}
use Rattle.std.specs.List.{All}
use Rattle.std.proofs.Math.Path.{fun_ext}
use Rattle.std.proofs.lemmas.List.{take_more}
use Rattle.std.proofs.lemmas.List.Elements.{All-nil, All-cons, All-append, All-weaker}
use Rattle.std.proofs.lemmas.List.Sums.{fold-append}
use Rattle.std.proofs.lemmas.Bool.{cases_lt, false≢true}
use Rattle.std.proofs.lemmas.Option.{slice_get-get_or, same_Some}
use Rattle.flow_model.specs.declared.instances.Path.{Path}
use Rattle.certificates.specs.declared.lines.CertLine.{CertLine}
use Rattle.certificates.specs.Told.{Told, Basis, taken}
use Rattle.certificates.specs.Kept.{AreLaid, AreLaidTemplates, TellNoMore, Takes}
use Rattle.certificates.specs.Justified.{told, is_justified, AreJustified, IsFirstUnjustified}
use Rattle.certificates.proofs.Laid.{AreLaidThrough, laid_here, taken_laid}
use Rattle.certificates.proofs.Sound.{IsSound, sound_none, IsAgain, again_more, Taken, taken_again, taken_after}

-- the first n lines are justified, and what they tell is kept
pub record Progress (b : Basis) (lines : List CertLine) (n : ℕ) (kept : Told) : Type 0 where
  pub told_so_far : (p : Path) → kept p ≡ told b (take n lines) p
  pub laid : AreLaidThrough b.templates (told b (take n lines))
  pub justified : AreJustified b lines n
  pub sound : IsSound b (told b (take n lines))
  pub again : All (IsAgain b (told b (take n lines))) (take n lines)

pub progress_none : (b : Basis) (lines : List CertLine) (kept : Told) → ((p : Path) → kept p ≡ None) → Progress b lines 0 kept
progress_none b lines kept none = record {
  told_so_far = none;
  laid = λ p. tt;
  justified = λ i line lt. absurd (omega arith);
  sound = sound_none b;
  again = All-nil (IsAgain b (λ p. None));
}

module _ (b : Basis) (lines : List CertLine) (n : ℕ) (kept : Told) (so_far : Progress b lines n kept) where
  same_told : kept ≡ told b (take n lines)
  same_told = fun_ext (λ p. so_far.told_so_far p)

  -- so the graphs are laid out right
  pub laid_kept : AreLaid kept
  laid_kept = subst AreLaid (sym same_told) (laid_here b.templates (told b (take n lines)) so_far.laid)

  -- each line so far is taken again, and tells nothing more
  pub told_again : TellNoMore b kept (take n lines)
  told_again =
      subst (λ (t : Told). TellNoMore b t (take n lines)) (sym same_told)
      (All-weaker (IsAgain b (told b (take n lines))) (λ line. taken b (told b (take n lines)) line ≡ Some (told b (take n lines)))
      (λ line h. taken_again b (told b (take n lines)) so_far.sound line h) (take n lines) so_far.again)

  -- once all lines are
  pub all_justified : length lines ≤ n → AreJustified b lines (length lines)
  all_justified le i line lt is = so_far.justified i line (omega arith) is

  module _ (line : CertLine) (lt : n < length lines) (is : line ≡ get_or lines n line) (new : Told) (yes : Bool) (takes : Takes kept new (taken b kept line) yes) where
    this_line : slice_get lines n ≡ Some line
    this_line = slice_get-get_or lines n line lt ∙ ap Some (sym is)

    after : Option Told
    after = taken b (told b (take n lines)) line

    taken_same : taken b kept line ≡ taken b (told b (take n lines)) line
    taken_same = ap (λ (t : Told). taken b t line) same_told

    -- the line isn't justified
    pub first_unjustified : yes ≡ false → IsFirstUnjustified b lines n
    first_unjustified n_yes = record {
      line = line;
      there = this_line;
      before = so_far.justified;
      unjustified = ap is_some (sym taken_same) ∙ sym takes.answered ∙ n_yes;
    }

    lines_more : take (n + 1) lines ≡ take n lines ++ line ∷ []
    lines_more = take_more lines n line lt ∙ ap (λ (l : CertLine). take n lines ++ l ∷ []) (sym is)

    told_more : told b (take (n + 1) lines) ≡ unwrap_or (taken b (told b (take n lines)) line) (told b (take n lines))
    told_more =
        ap (told b) lines_more
        ∙ fold-append (λ t l. unwrap_or (taken b t l) t) (λ p. None) (take n lines) (line ∷ [])

    either_laid : (o : Option Told) → IfSome o (AreLaidThrough b.templates) → AreLaidThrough b.templates (unwrap_or o (told b (take n lines)))
    either_laid None h = so_far.laid
    either_laid (Some t) h = h

    one_more : yes ≡ true → AreJustified b lines (n + 1)
    one_more y i l below at_i = ⊎_elim (λ lt_n. so_far.justified i l lt_n at_i) (λ same. this i l same at_i) (earlier i below)
      where
        earlier : (i : ℕ) → i < n + 1 → (i < n) ⊎ (i ≡ n)
        earlier i below = at_last (cases_lt i n)
          where
            at_last : (i < n) ⊎ (n ≤ i) → (i < n) ⊎ (i ≡ n)
            at_last (inl lt_n) = inl lt_n
            at_last (inr ge) = inr (omega arith)

        this : (i : ℕ) (l : CertLine) → i ≡ n → slice_get lines i ≡ Some l → is_justified b (take i lines) l ≡ true
        this i l same at_i =
            let l_is : line ≡ l = same_Some line l (sym this_line ∙ ap (slice_get lines) (sym same) ∙ at_i) in
            ap (λ (j : ℕ). is_justified b (take j lines) l) same ∙ ap (λ (k : CertLine). is_justified b (take n lines) k) (sym l_is)
            ∙ ap is_some (sym taken_same) ∙ sym takes.answered ∙ y

    -- what is told after the line
    record More (t : Told) : Type 0 where
      told_now : told b (take (n + 1) lines) ≡ t
      taken_now : Taken b (told b (take n lines)) line t

    more : yes ≡ true → (t : Told) × More t
    more y = at (taken b (told b (take n lines)) line) refl
      where
        at : (o : Option Told) → taken b (told b (take n lines)) line ≡ o → (t : Told) × More t
        at None e = absurd (false≢true (ap is_some (sym e) ∙ ap is_some (sym taken_same) ∙ sym takes.answered ∙ y))
        at (Some t) e = (
          t,
          record {
            told_now = told_more ∙ ap (λ (o : Option Told). unwrap_or o (told b (take n lines))) e;
            taken_now = taken_after b (told b (take n lines)) so_far.sound line t e;
          },
        )

    sound_more : yes ≡ true → IsSound b (told b (take (n + 1) lines))
    sound_more y = let m = more y in subst (IsSound b) (sym m.1.told_now) m.1.taken_now.sound

    again_all : yes ≡ true → All (IsAgain b (told b (take (n + 1) lines))) (take (n + 1) lines)
    again_all y =
        let m = more y in
        subst (All (IsAgain b (told b (take (n + 1) lines)))) (sym lines_more)
        (subst (λ (t : Told). All (IsAgain b t) (take n lines ++ line ∷ [])) (sym m.1.told_now)
        (All-append (IsAgain b m.0) (take n lines) (line ∷ [])
        (All-weaker (IsAgain b (told b (take n lines))) (IsAgain b m.0) (again_more b (told b (take n lines)) m.0 m.1.taken_now.grow) (take n lines) so_far.again)
        (All-cons (IsAgain b m.0) line [] m.1.taken_now.again (All-nil (IsAgain b m.0)))))

    -- one more line is justified
    pub progress_more : AreLaidTemplates b.templates → yes ≡ true → Progress b lines (n + 1) new
    progress_more all y = record {
      told_so_far = λ p. takes.told p
          ∙ ap (λ (t : Told). unwrap_or (taken b t line) t p) same_told
          ∙ ap (λ (t : Told). t p) (sym told_more);
      laid = subst (AreLaidThrough b.templates) (sym told_more) (either_laid (taken b (told b (take n lines)) line) (taken_laid b.templates b all refl (told b (take n lines)) so_far.laid line));
      justified = one_more y;
      sound = sound_more y;
      again = again_all y;
    }
