-- The tokens of a line up to the end of its last token are those of the line.
use Rattle.std.proofs.Common.{◌≡◌, ℕ, suc, ◌+◌, ◌-◌, ◌≤◌, ◌<◌, List, [], ◌∷◌, length, take, drop, Some, refl, ap, sym, subst, ◌∙◌, ◌^◌, min, inl, inr, arith}
use Rattle.std.specs.Prelude.{slice_range, slice_get}
use Rattle.std.specs.Option.{option_map_or}
use Rattle.std.proofs.lemmas.List.{take-take, drop-take}
use Rattle.fdl_lexer.specs.declared.kinds.Token.{Token}
use Rattle.fdl_lexer.specs.Tokens.{AreTokens, Scans}
use Rattle.fdl_parser.specs.Tokens.{Tokens, Spelled, spelled, spell, Reading, reading, Unread, StaysWithin}
use Rattle.fdl_parser.specs.Faults.{Names, NamesOne}
use Rattle.fdl_parser.specs.declared.cursor.SyntaxFault.{SyntaxFault}
use Rattle.fdl_parser.specs.declared.cursor.SyntaxFault.TheVariants.{At, NoMemory}
use Rattle.command_lang.specs.Reading.{last_end, spoken_in, AreLineTokens, SaysCommand, SaysCompletion, IsRefusal}
use Rattle.command_lang.specs.Grammar.{IsCommand, IsCompletion}
use Rattle.command_lang.specs.declared.reading.CommandFault.{CommandFault}
use Rattle.command_lang.specs.declared.reading.CommandFault.TheVariants.{Word, NoMemory as OutOfMemory}
use Rattle.flow_model.specs.declared.commands.Command.{Command}
use Rattle.flow_model.specs.declared.commands.Completion.{Completion}

same_range : (text : List ℕ) (m from to : ℕ) → from ≤ to → to ≤ m → slice_range (take m text) from to ≡ slice_range text from to
same_range text m from to low high =
    let whole : m ≡ from + (m - from) = omega arith in
    ap (λ n. take (to - from) (drop from (take n text))) whole
    ∙ ap (take (to - from)) (drop-take from (m - from) text)
    ∙ take-take (to - from) (m - from) (drop from text) (omega arith)

scans_up : (text : List ℕ) (at : ℕ) (ts : List Token) (end : ℕ) → Scans text at ts end → at ≤ end
scans_up text at [] end is = omega (arith, is)
scans_up text at (t ∷ ts) end is =
    let more = scans_up text t.to ts end is.1 in
    let behind = is.0.behind in
    let some_ = is.0.some in
    omega (arith, more, behind, some_)

spell_same : (text : List ℕ) (m at : ℕ) (ts : List Token) (end : ℕ) → Scans text at ts end → end ≤ m → spell (take m text) ts ≡ spell text ts
spell_same text m at [] end is high = refl
spell_same text m at (t ∷ ts) end is high =
    let up = scans_up text t.to ts end is.1 in
    let some_ = is.0.some in
    let range = same_range text m t.from t.to (omega (arith, some_)) (omega (arith, up, high)) in
    let first : spelled (take m text) t ≡ spelled text t = ap (λ (bytes : List ℕ). record { kind = t.what; place = t.from; bytes = bytes }) range in
    let rest : spell (take m text) ts ≡ spell text ts = spell_same text m t.to ts end is.1 high in
    ap (λ (s : Spelled). s ∷ spell (take m text) ts) first ∙ ap (λ ss. spelled text t ∷ ss) rest

last_is_end : (text : List ℕ) (at : ℕ) (ts : List Token) (end : ℕ) → Scans text at ts end → 0 < length ts → last_end ts ≡ end
last_is_end text at [] end is some_ = absurd (omega arith)
last_is_end text at (t ∷ []) end is some_ = sym is.1
last_is_end text at (t ∷ u ∷ ts) end is some_ =
    let number : suc (suc (length ts)) - 1 ≡ suc (suc (length ts) - 1) = omega arith in
    let rest : last_end (u ∷ ts) ≡ end = last_is_end text t.to (u ∷ ts) end is.1 (omega arith) in
    ap (λ n. option_map_or (λ (x : Token). x.to) (slice_get (t ∷ u ∷ ts) n) 0) number ∙ rest

-- what is spoken has the tokens of the line
pub spoken_tokens : (line : List ℕ) (tokens : List Token) → AreTokens line tokens → 0 < length tokens → spell (spoken_in line tokens) tokens ≡ spell line tokens
spoken_tokens line tokens are some_ =
    let end = last_is_end line 0 tokens are.end are.scanned some_ in
    spell_same line (last_end tokens) 0 tokens are.end are.scanned (omega (arith, end))

-- a fault of what is left names one of the tokens
pub names_one : (before after : Reading) (e : SyntaxFault) → StaysWithin before after → Names after e → NamesOne before e
names_one before after NoMemory within names = tt
names_one before after (At place) within names = (after.left, after.end, within before Unread, names)

-- what is read of the line up to its last token, is read of the line
pub says_command : (line text : List ℕ) (tokens : List Token) (command : Command) → AreLineTokens line tokens → 0 < length tokens → text ≡ spoken_in line tokens
    → IsCommand command (spell text tokens) → SaysCommand line (Some command)
says_command line text tokens command are some_ is read =
    (tokens, are, (let P : Tokens → Type 0 = IsCommand command in subst P (ap (λ t. spell t tokens) is ∙ spoken_tokens line tokens are.1 some_) read))

pub says_completion : (line text : List ℕ) (tokens : List Token) (completion : Completion) → AreLineTokens line tokens → 0 < length tokens → text ≡ spoken_in line tokens
    → IsCompletion completion (spell text tokens) → SaysCompletion line (Some completion)
says_completion line text tokens completion are some_ is read =
    (tokens, are, (let P : Tokens → Type 0 = IsCompletion completion in subst P (ap (λ t. spell t tokens) is ∙ spoken_tokens line tokens are.1 some_) read))

-- and so is a fault
pub refused : (line text : List ℕ) (tokens : List Token) (e : SyntaxFault) (fault : CommandFault) (after : Reading) → AreLineTokens line tokens → 0 < length tokens → text ≡ spoken_in line tokens
    → StaysWithin (reading text tokens) after → Names after e
    → ((p : ℕ) → e ≡ At p → fault ≡ Word (min (p + 1) (2 ^ 32 - 1))) → (e ≡ NoMemory → fault ≡ OutOfMemory) → IsRefusal line fault
refused line text tokens NoMemory fault after are some_ is within names place memory = let f : CommandFault → Type 0 = IsRefusal line in subst f (sym (memory refl)) (inl tt)
refused line text tokens (At p) fault after are some_ is within names place memory =
    let f : CommandFault → Type 0 = IsRefusal line in
    let g : List ℕ → Type 0 = λ t. NamesOne (reading t tokens) (At p) in
    subst f (sym (place p refl)) (inr (tokens, are, some_, (p, refl, subst g is (names_one (reading text tokens) after (At p) within names))))
