-- Why a line has no tokens, from the lexer's fault, and what its bytes say.
use Rattle.std.proofs.Common.{◌≡◌, ℕ, ◌+◌, ◌-◌, ◌^◌, ◌<◌, ◌≤◌, ◌==◌, nat_le, nat_lt, cond, min, Bool, true, false, not, ◌||◌, ◌&&◌, Some, None, List, length, refl, sym, ap, subst, ◌∙◌, inr, arith}
use Rattle.std.specs.Prelude.{slice_index_or}
use Rattle.std.specs.List.{position_or_len, list_all}
use Rattle.std.proofs.lemmas.List.Sums.{fails_before_first, position_or_len_is, AllPass-from_list_all}
use Rattle.std.proofs.lemmas.Bool.Decides.{nat_tests}
use Rattle.fdl_lexer.specs.Bytes.{is_allowed}
use Rattle.fdl_lexer.specs.Tokens.{IsStuckAt, AreAllowed}
use Rattle.command_lang.specs.declared.reading.CommandFault.{CommandFault}
use Rattle.command_lang.specs.declared.reading.CommandFault.TheVariants.{Word}
use Rattle.command_lang.specs.Reading.{may_stand, wrong_byte, HasNoTokens}

pub stuck_fault : (line : List ℕ) (place : ℕ) (e : CommandFault) → length line ≤ 65536 → wrong_byte line ≡ None → IsStuckAt line place
    → e ≡ Word (min (place + 1) (2 ^ 32 - 1)) → HasNoTokens line e
stuck_fault line place e short allowed stuck is =
    let within : place < length line = stuck.within in
    let one : min (place + 1) (2 ^ 32 - 1) ≡ place + 1 = omega arith in
    let back : place ≡ place + 1 - 1 = omega arith in
    let f : CommandFault → Type 0 = λ e. HasNoTokens line e in
    let said : e ≡ Word (place + 1) = is ∙ ap (λ n. Word n) one in
    subst f (sym said) (omega arith, inr (allowed, subst (λ p. IsStuckAt line p) back stuck))

or_more : (p q r s : Bool) → (p || r || s) ≡ true → (p || q || r || s) ≡ true
or_more true q r s h = refl
or_more false true r s h = refl
or_more false false r s h = h

-- a byte of a line may stand in a text
allowed_of : (b : ℕ) → may_stand b ≡ true → is_allowed b ≡ true
allowed_of b stands = or_more (b == 9) (b == 10) (b == 13) (nat_le 32 b && nat_le b 126) stands

stays_true : (b : Bool) → not b ≡ false → b ≡ true
stays_true true h = refl
stays_true false h = sym h

past_end : (n len : ℕ) → cond (nat_lt n len) (Some n) None ≡ None → len ≤ n
past_end n len h = grind (arith, nat_tests)

-- a line whose bytes may all stand has no byte that a text may not have
pub allowed_bytes : (line : List ℕ) → wrong_byte line ≡ None → AreAllowed line
allowed_bytes line none = λ k d within.
    let wrong : ℕ → Bool = λ byte. not (may_stand byte) in
    let end : length line ≤ position_or_len wrong line = past_end (position_or_len wrong line) (length line) none in
    allowed_of (slice_index_or line k d) (stays_true (may_stand (slice_index_or line k d)) (fails_before_first wrong line k d (omega arith)))

at_end : (n len : ℕ) → n ≡ len → cond (nat_lt n len) (Some n) None ≡ None
at_end n len h = grind (arith, nat_tests)

-- where each byte may stand, none is wrong
pub none_wrong : (line : List ℕ) → list_all may_stand line ≡ true → wrong_byte line ≡ None
none_wrong line all =
    let wrong : ℕ → Bool = λ byte. not (may_stand byte) in
    at_end (position_or_len wrong line) (length line)
    (position_or_len_is wrong line (length line) 0 (omega arith)
    (λ k within. ap not (AllPass-from_list_all may_stand line all k 0 within))
    (λ within. absurd (omega arith)))
