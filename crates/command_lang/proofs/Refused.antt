-- A line is refused at the first token that can't stand there, and then says nothing.
use Rattle.std.proofs.Common.{◌≡◌, ℕ, ◌+◌, ◌-◌, ◌<◌, ◌^◌, List, [], ◌∷◌, ◌++◌, length, Some, None, min, refl, ap, sym, ◌∙◌, subst, arith, inl, inr}
use Rattle.std.specs.Prelude.{◌⊎◌}
use Rattle.fdl_lexer.specs.declared.kinds.Token.{Token}
use Rattle.fdl_lexer.specs.Tokens.{IsStuckAt}
use Rattle.fdl_lexer.proofs.SameScan.{one_scan, tokens_done, stuck_done}
use Rattle.fdl_parser.specs.Tokens.{Tokens, Reading, reading, spell, place_in, IsRest, Unread, Less, StaysWithin}
use Rattle.fdl_parser.specs.Faults.{Names}
use Rattle.fdl_parser.specs.Lexed.{AreQuoted}
use Rattle.fdl_parser.specs.Stops.{first_and}
use Rattle.fdl_parser.specs.declared.cursor.SyntaxFault.{SyntaxFault}
use Rattle.fdl_parser.specs.declared.cursor.SyntaxFault.TheVariants.{At, NoMemory}
use Rattle.fdl_parser.proofs.Quoted.{tokens_quoted}
use Rattle.command_lang.specs.Refusing.{SomeCommand, SomeCompletion, IsFirstFault, Refuses}
use Rattle.command_lang.specs.Reading.{wrong_byte, AreLineTokens, HasNoTokens, spoken_in, RefusesFirst, RefusesNoCommand, RefusesNoCompletion}
use Rattle.command_lang.specs.declared.reading.CommandFault.{CommandFault}
use Rattle.command_lang.specs.declared.reading.CommandFault.TheVariants.{Word, NoMemory as OutOfMemory}
use Rattle.command_lang.proofs.Spoken.{spoken_tokens}
use Rattle.command_lang.proofs.SameCommands.{one_row}

-- all that is left of some tokens ends where they end
rest_end : {all : Reading} {ts : Tokens} {end : ℕ} → IsRest all ts end → end ≡ all.end
rest_end Unread = refl
rest_end (Less h) = rest_end h

-- where the cursor refuses, the line is refused
pub refused_first : (S : Tokens → Type 0) (line text : List ℕ) (tokens : List Token) (e : SyntaxFault) (fault : CommandFault) (after : Reading) → AreLineTokens line tokens → 0 < length tokens → text ≡ spoken_in line tokens
    → StaysWithin (reading text tokens) after → Names after e → Refuses S (spell text tokens) after.left e
    → ((p : ℕ) → e ≡ At p → fault ≡ Word (min (p + 1) (2 ^ 32 - 1))) → (e ≡ NoMemory → fault ≡ OutOfMemory) → RefusesFirst S line fault
refused_first S line text tokens NoMemory fault after are some is within names refuses place memory =
    let f : CommandFault → Type 0 = RefusesFirst S line in
    subst f (sym (memory refl)) (inl tt)
refused_first S line text tokens (At p) fault after are some is within names refuses place memory =
    let f : CommandFault → Type 0 = RefusesFirst S line in
    let row : spell text tokens ≡ spell line tokens = ap (λ (t : List ℕ). spell t tokens) is ∙ spoken_tokens line tokens are.1 some in
    let at : IsFirstFault S (spell line tokens) after.left =
    subst (λ (x : Tokens). IsFirstFault S x after.left) row (refuses.first p refl (subst AreQuoted (sym row) (tokens_quoted line tokens are.1))) in
    let ends : after.end ≡ (reading (spoken_in line tokens) tokens).end = rest_end (within (reading text tokens) Unread) ∙ ap (λ (t : List ℕ). (reading t tokens).end) is in
    let here : min (p + 1) (2 ^ 32 - 1) ≡ min (place_in after.left (reading (spoken_in line tokens) tokens).end + 1) (2 ^ 32 - 1) =
    ap (λ (n : ℕ). min (n + 1) (2 ^ 32 - 1)) (names ∙ ap (place_in after.left) ends) in
    subst f (sym (place p refl)) (inr (tokens, are, some, (after.left, at, here)))

-- ---- what is refused says nothing

-- tokens that are refused at some place don't say it
whole : {S : Tokens → Type 0} {all rest : Tokens} → IsFirstFault S all rest → S all → ⊥
whole {S} {all} {rest} h said = go rest h.cut h.blocked
  where
    go : (rest : Tokens) → all ≡ h.front ++ rest → ((others : Tokens) → S (h.front ++ first_and rest others) → ⊥) → ⊥
    go [] cut not = not [] (subst S cut said)
    go (t ∷ ts) cut not = not ts (subst S cut said)

-- a line that is refused for its bytes has no tokens
no_tokens : (line : List ℕ) (place : ℕ) (tokens : List Token) → HasNoTokens line (Word place) → AreLineTokens line tokens → ⊥
no_tokens line place tokens h are = go h.1
  where
    byte : wrong_byte line ≡ Some (place - 1) → ⊥
    byte e = apart (sym are.0 ∙ e)
      where
        apart : None ≡ Some (place - 1) → ⊥
        apart f = cc

    stuck : IsStuckAt line (place - 1) → ⊥
    stuck s =
        let one = one_scan line 0 s.tokens tokens s.end are.1.end (place - 1) (length line) s.scanned are.1.scanned (stuck_done line (place - 1) s) (tokens_done line tokens are.1) in
        let within : place - 1 < length line = s.within in
        let same : place - 1 ≡ length line = one.1 in
        omega arith

    go : (wrong_byte line ≡ Some (place - 1)) ⊎ ((wrong_byte line ≡ None) × IsStuckAt line (place - 1)) → ⊥
    go (inl e) = byte e
    go (inr s) = stuck s.1

says_none : (S : Tokens → Type 0) (line : List ℕ) (place : ℕ) (tokens : List Token) → RefusesFirst S line (Word place) → AreLineTokens line tokens → S (spell line tokens) → ⊥
says_none S line place tokens (inl h) are said = no_tokens line place tokens h are
says_none S line place tokens (inr h) are said = whole h.3.1 (subst S (ap (spell line) (one_row line tokens h.0 are.1 h.1.1)) said)

pub no_command_refused : (line : List ℕ) (e : CommandFault) → RefusesFirst SomeCommand line e → RefusesNoCommand line e
no_command_refused line (Word place) h = λ other said. says_none SomeCommand line place said.0 h said.1 (other, said.2)
no_command_refused line OutOfMemory h = tt

pub no_completion_refused : (line : List ℕ) (e : CommandFault) → RefusesFirst SomeCompletion line e → RefusesNoCompletion line e
no_completion_refused line (Word place) h = λ other said. says_none SomeCompletion line place said.0 h said.1 (other, said.2)
no_completion_refused line OutOfMemory h = tt
