-- A line is read in one way.
use Rattle.std.proofs.Common.{◌≡◌, ◌⊎◌, inl, inr, ℕ, ◌+◌, ◌-◌, ◌^◌, ◌<◌, ◌≤◌, List, [], ◌∷◌, length, Some, None}
use Rattle.std.proofs.Common.{refl, sym, ap, subst, ◌∙◌, arith}
use Rattle.std.specs.Prelude.{min}
use Rattle.command_lang.specs.Grammar.{IsCommand, WordAndRest}
use Rattle.command_lang.specs.Reading.{AreLineTokens, HasNoTokens, RefusesToken, wrong_byte, spoken_in}
use Rattle.command_lang.specs.Refusing.{SomeCommand}
use Rattle.command_lang.specs.declared.reading.CommandFault.TheVariants.{Word}
use Rattle.fdl_lexer.specs.declared.kinds.Token.{Token}
use Rattle.fdl_parser.specs.Refusing.{IsFirstFault}
use Rattle.fdl_parser.specs.Tokens.{Tokens, Spelled, spell, reading, place_in}
use Rattle.flow_model.specs.declared.commands.Command.{Command}
use Rattle.text_laws.proofs.Judged.{fault_one}
use Rattle.text_laws.proofs.Trees.{tokens_one, never_stuck, stuck_one}
use Rattle.machine.specs.Scripts.{Reads, AsLong, AsBlank, AsCommand, AsWrong, IsRead}

-- ---- tokens

no_token : (t : Spelled) (ts : Tokens) → [] ≡ t ∷ ts → ⊥
no_token t ts e = cc

nothing_said : (c : Command) → IsCommand c [] → ⊥
nothing_said c (WordAndRest h1 h2) = no_token _ _ h1.first

-- ---- why a line is refused

no_wrong : (line : List ℕ) (place : ℕ) → wrong_byte line ≡ None → wrong_byte line ≡ Some place → ⊥
no_wrong line place none some = let e : None ≡ Some place = sym none ∙ some in cc

has_tokens : (line : List ℕ) (ts : List Token) (place : ℕ) → AreLineTokens line ts → HasNoTokens line (Word place) → ⊥
has_tokens line ts place are (least, inl wrong) = no_wrong line (place - 1) are.0 wrong
has_tokens line ts place are (least, inr stuck) = never_stuck line ts (place - 1) are.1 stuck.1

bytes_one : (line : List ℕ) (p q : ℕ) → HasNoTokens line (Word p) → HasNoTokens line (Word q) → p ≡ q
bytes_one line p q (least, inl wrong) (least', inl wrong') =
    let both : Some (p - 1) ≡ Some (q - 1) = sym wrong ∙ wrong' in
    let same : p - 1 ≡ q - 1 = cc in
    omega arith
bytes_one line p q (least, inl wrong) (least', inr stuck) = absurd (no_wrong line (p - 1) stuck.0 wrong)
bytes_one line p q (least, inr stuck) (least', inl wrong) = absurd (no_wrong line (q - 1) stuck.0 wrong)
bytes_one line p q (least, inr stuck) (least', inr stuck') =
    let same : p - 1 ≡ q - 1 = stuck_one line (p - 1) (q - 1) stuck.1 stuck'.1 in
    omega arith

token_one : (line : List ℕ) (p q : ℕ) → RefusesToken SomeCommand line (Word p)
    → RefusesToken SomeCommand line (Word q) → p ≡ q
token_one line p q a b =
    let tokens : a.0 ≡ b.0 = tokens_one line a.0 b.0 a.1.1 b.1.1 in
    let rest : a.3.0 ≡ b.3.0 = fault_one SomeCommand (spell line b.0) a.3.0 b.3.0
    (subst (λ ts. IsFirstFault SomeCommand (spell line ts) a.3.0) tokens a.3.1) b.3.1 in
    a.3.2 ∙ ap (λ ts. min (place_in a.3.0 (reading (spoken_in line ts) ts).end + 1) (2 ^ 32 - 1)) tokens
    ∙ ap (λ r. min (place_in r (reading (spoken_in line b.0) b.0).end + 1) (2 ^ 32 - 1)) rest ∙ sym b.3.2

wrong_one : (line : List ℕ) (p q : ℕ) → HasNoTokens line (Word p) ⊎ RefusesToken SomeCommand line (Word p)
    → HasNoTokens line (Word q) ⊎ RefusesToken SomeCommand line (Word q) → p ≡ q
wrong_one line p q (inl a) (inl b) = bytes_one line p q a b
wrong_one line p q (inl a) (inr b) = absurd (has_tokens line b.0 p b.1 a)
wrong_one line p q (inr a) (inl b) = absurd (has_tokens line a.0 q a.1 b)
wrong_one line p q (inr a) (inr b) = token_one line p q a b

-- ---- how a line is read

blank_not_wrong : (line : List ℕ) (place : ℕ) → AreLineTokens line []
    → HasNoTokens line (Word place) ⊎ RefusesToken SomeCommand line (Word place) → ⊥
blank_not_wrong line place blank (inl none) = has_tokens line [] place blank none
blank_not_wrong line place blank (inr refused) =
    let none : refused.0 ≡ [] = tokens_one line refused.0 [] refused.1.1 blank.1 in
    let some = refused.2 in
    omega (arith, ap length none)

blank_not_said : (line : List ℕ) (command : Command) (ts : List Token) → AreLineTokens line [] → AreLineTokens line ts
    → IsCommand command (spell line ts) → ⊥
blank_not_said line command ts blank are said =
    nothing_said command (subst (λ us. IsCommand command (spell line us)) (tokens_one line ts [] are.1 blank.1) said)

long_or_not : (line : List ℕ) → 65536 < length line → length line ≤ 65536 → ⊥
long_or_not line more less = omega arith

pub line_read_one : (line : List ℕ) (x y : Reads) → IsRead line x → IsRead line y → x ≡ y
line_read_one line AsLong AsLong a b = refl
line_read_one line AsLong AsBlank a b = absurd (long_or_not line a b.0)
line_read_one line AsLong (AsCommand command) a b = absurd (long_or_not line a b.0)
line_read_one line AsLong (AsWrong place) a b = absurd (long_or_not line a b.0)
line_read_one line AsBlank AsLong a b = absurd (long_or_not line b a.0)
line_read_one line AsBlank AsBlank a b = refl
line_read_one line AsBlank (AsCommand command) a b =
    absurd (blank_not_said line command b.1.0.0 a.1 b.1.0.1 b.1.0.2)
line_read_one line AsBlank (AsWrong place) a b = absurd (blank_not_wrong line place a.1 b.1.first)
line_read_one line (AsCommand command) AsLong a b = absurd (long_or_not line b a.0)
line_read_one line (AsCommand command) AsBlank a b =
    absurd (blank_not_said line command a.1.0.0 b.1 a.1.0.1 a.1.0.2)
line_read_one line (AsCommand command) (AsCommand other) a b = ap AsCommand (sym (a.1.1 other b.1.0))
line_read_one line (AsCommand command) (AsWrong place) a b = absurd (b.1.none command a.1.0)
line_read_one line (AsWrong place) AsLong a b = absurd (long_or_not line b a.0)
line_read_one line (AsWrong place) AsBlank a b = absurd (blank_not_wrong line place b.1 a.1.first)
line_read_one line (AsWrong place) (AsCommand command) a b = absurd (a.1.none command b.1.0)
line_read_one line (AsWrong place) (AsWrong other) a b = ap AsWrong (wrong_one line place other a.1.first b.1.first)
