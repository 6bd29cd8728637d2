-- Tokens one after another.
use Rattle.std.proofs.Common.{ℕ, ◌+◌, ◌<◌, ◌≤◌, List, [], ◌∷◌, ◌++◌, length, take, drop, arith, refl, subst}
use Rattle.std.proofs.lemmas.List.{drop-drop}
use Rattle.fdl_lexer.specs.Gaps.{IsGap, NoGap, IsGapLen}
use Rattle.fdl_lexer.specs.Tokens.{AreAllowed, Scans, IsNext, IsStuckAt, Spells, NoTokenBegins}
use Rattle.fdl_lexer.specs.declared.kinds.What.{What}
use Rattle.fdl_lexer.specs.declared.kinds.Token.{Token}

pub Scans-push : (text : List ℕ) (at : ℕ) (ts : List Token) (mid : ℕ) (t : Token) → Scans text at ts mid → IsNext text mid t → Scans text at (ts ++ t ∷ []) t.to
Scans-push text at [] mid t e n = (subst (λ (a : ℕ). IsNext text a t) e n, refl)
Scans-push text at (u ∷ ts) mid t s n = (s.0, Scans-push text u.to ts mid t s.1 n)

-- the token behind a gap
pub next_token : (text : List ℕ) (at gap len : ℕ) (what : What) → IsGapLen (drop at text) gap → at + gap + len ≤ length text → 0 < len → Spells what len (drop (at + gap) text) → IsNext text at (record { what = what; from = at + gap; to = at + gap + len })
next_token text at gap len what g fits some s = record {
  behind = omega arith;
  some = omega arith;
  within = fits;
  gap = subst (λ (n : ℕ). IsGap (take n (drop at text))) (omega arith) g.gap;
  spelled = subst (λ (n : ℕ). Spells what n (drop (at + gap) text)) (omega arith) s;
}

-- no token behind a gap
pub stuck : (text : List ℕ) (ts : List Token) (at gap : ℕ) → AreAllowed text → Scans text 0 ts at → IsGapLen (drop at text) gap → gap < length (drop at text) → at + gap < length text → NoTokenBegins (drop (at + gap) text) → IsStuckAt text (at + gap)
stuck text ts at gap allowed s g more fits none = record {
  allowed = allowed;
  tokens = ts;
  end = at;
  scanned = s;
  behind = omega arith;
  within = fits;
  gap = subst (λ (n : ℕ). IsGap (take n (drop at text))) (omega arith) g.gap;
  no_gap = subst NoGap (drop-drop gap at text) (g.ends more);
  no_token = none;
}
