-- A command that a line says has its words in range: what the lexer gives is handed on by each form of the grammar.
use Rattle.std.proofs.Common.{◌≡◌, ℕ, ◌+◌, ◌-◌, ◌*◌, ◌^◌, ◌<◌, ◌≤◌, min, true, List, [], ◌∷◌, ◌++◌, length, take, drop}
use Rattle.std.proofs.Common.{Option, Some, sym, ap, subst, ◌∙◌, arith}
use Rattle.std.specs.List.{All}
use Rattle.std.specs.Str.Parse.{digits_value}
use Rattle.std.proofs.Math.Nat.{min-le_right}
use Rattle.std.proofs.lemmas.List.{length-append, length-map}
use Rattle.std.proofs.lemmas.List.Elements.{All-nil, All-cons, All-append}
use Rattle.flow_table.specs.declared.keyword.Keyword.{Keyword}
use Rattle.command_lang.specs.Grammar as grammar
use Rattle.command_lang.specs.Reading.{SaysCommand}
use Rattle.fdl_lexer.specs.declared.kinds.Token.{Token}
use Rattle.fdl_lexer.specs.declared.kinds.What.{What}
use Rattle.fdl_lexer.specs.declared.kinds.What.TheVariants.{Word, Name as Named, Rc, Item, Number, Text, Mark}
use Rattle.fdl_lexer.specs.Tokens.{Spells, Scans}
use Rattle.fdl_parser.specs.Lexed.{IsQuoted}
use Rattle.fdl_parser.specs.Tokens.{Tokens, Spelled, spelled, spell, IsToken, IsName, IsQuote, IsItemToken, IsNumber, IsSigned, Unsigned}
use Rattle.fdl_parser.specs.Tokens.{Negative, IsFirstStep, RcFirst, NameFirst, IsNextStep, MemberNext, PlaceNext, IsLeaf, FirstStep}
use Rattle.fdl_parser.specs.Tokens.{MoreSteps}
use Rattle.flow_model.specs.Words.{is_name, is_text}
use Rattle.flow_model.specs.declared.commands.Command.{Command}
use Rattle.flow_model.specs.declared.commands.Outcome.{Outcome}
use Rattle.flow_model.specs.declared.commands.RawSetting.{RawSetting}
use Rattle.flow_model.specs.declared.commands.RawValue.{RawValue}
use Rattle.flow_model.specs.declared.instances.Who.{Who}
use Rattle.flow_model.specs.declared.names.Name.{Name}
use Rattle.flow_model.specs.declared.trees.LeafAt.{LeafAt}
use Rattle.flow_model.specs.declared.trees.NameAt.{NameAt}
use Rattle.flow_model.specs.declared.trees.NumberAt.{NumberAt}
use Rattle.flow_model.specs.declared.trees.StepTree.{StepTree}
use Rattle.flow_txn.specs.Ranges.{KeyFits, WhoFits}
use Rattle.reopening_laws.specs.Ranges.{IsWritable, AreWritable, IsWorded}
use Rattle.range_laws.specs.Lines.{NamesNoZero}

-- ---- tokens

-- the number of a token has 64 bits
abbrev HasBits : What → Type 0
HasBits (Number value) = value < 2 ^ 64
HasBits _ = Unit {0}

-- the bytes of each name and text are in quotes, and each number has its bits
abbrev AreFine : Tokens → Type 0
AreFine [] = Unit {0}
AreFine (t ∷ ts) = IsQuoted t.kind t.bytes × HasBits t.kind × AreFine ts

spells_fine : (w : What) (n : ℕ) (bytes : List ℕ) → Spells w n bytes → IsQuoted w (take n bytes) × HasBits w
spells_fine Named n bytes s = ((s.0, s.2.0, s.1), tt)
spells_fine Text n bytes s = ((s.0, s.2.0, s.1), tt)
spells_fine (Word w) n bytes s = (tt, tt)
spells_fine Rc n bytes s = (tt, tt)
spells_fine Item n bytes s = (tt, tt)
spells_fine (Number v) n bytes s =
    let most = min-le_right (digits_value 10 (take n bytes)) (2 ^ 64 - 1) in
    let is : v ≡ min (digits_value 10 (take n bytes)) (2 ^ 64 - 1) = s.4 in
    (tt, subst (λ (x : ℕ). x < 2 ^ 64) (sym is) (omega (arith, most)))
spells_fine (Mark m) n bytes s = (tt, tt)

scans_fine : (text : List ℕ) (at : ℕ) (ts : List Token) (end : ℕ) → Scans text at ts end → AreFine (spell text ts)
scans_fine text at [] end s = tt
scans_fine text at (t ∷ ts) end s =
    let one = spells_fine t.what (t.to - t.from) (drop t.from text) s.0.spelled in
    (one.0, one.1, scans_fine text t.to ts end s.1)

-- each token has a byte
scans_few : (text : List ℕ) (at : ℕ) (ts : List Token) (end : ℕ) → Scans text at ts end → at + length ts ≤ end
scans_few text at [] end s = omega (arith, s)
scans_few text at (t ∷ ts) end s =
    let less = scans_few text t.to ts end s.1 in
    let behind = s.0.behind in
    let some = s.0.some in
    omega (arith, less, behind, some)

-- ---- what is left behind a form is fine where the whole is, and it is some tokens fewer

record Leaves (n : ℕ) (a b : Tokens) : Type 0 where
  pub fine : AreFine a → AreFine b
  pub fewer : length b + n ≤ length a

both : {n m : ℕ} {a b c : Tokens} → Leaves n a b → Leaves m b c → Leaves (n + m) a c
both {n} {m} h j =
    let first = h.fewer in
    let second = j.fewer in
    record { fine = λ q. j.fine (h.fine q); fewer = omega (arith, first, second) }

at_least : {n m : ℕ} {a b : Tokens} → m ≤ n → Leaves n a b → Leaves m a b
at_least less h = let first = h.fewer in record { fine = h.fine; fewer = omega (arith, less, first) }

nothing : {a : Tokens} → Leaves 0 a a
nothing = record { fine = λ q. q; fewer = omega arith }

first_leaves : {x : Spelled} {a b : Tokens} → a ≡ x ∷ b → Leaves 1 a b
first_leaves {x} {a} {b} is =
    let long : length a ≡ length (x ∷ b) = ap length is in
    record { fine = λ q. (subst AreFine is q).2; fewer = omega (arith, long) }

token_leaves : {k : What} {p : ℕ} {a b : Tokens} → IsToken k p a b → Leaves 1 a b
token_leaves h = first_leaves h.first

name_leaves : {n : NameAt} {a b : Tokens} → IsName n a b → Leaves 1 a b
name_leaves h = first_leaves h.first

name_fine : {n : NameAt} {a b : Tokens} → IsName n a b → AreFine a → is_name n.name ≡ true
name_fine {n} h q =
    let whole = (subst AreFine h.first q).0 in
    ap is_name (h.inside whole.0 whole.1) ∙ whole.2

quote_fine : {v : List ℕ} {p : ℕ} {a b : Tokens} → IsQuote v p a b → AreFine a → is_text v ≡ true
quote_fine {v} h q =
    let whole = (subst AreFine h.first q).0 in
    ap is_text (h.inside whole.0 whole.1) ∙ whole.2

item_leaves : {v : List ℕ} {a b : Tokens} → IsItemToken v a b → Leaves 1 a b
item_leaves h = first_leaves h.first

number_leaves : {n : NumberAt} {a b : Tokens} → IsNumber n a b → Leaves 1 a b
number_leaves h = token_leaves h.first

number_fine : {n : NumberAt} {a b : Tokens} → IsNumber n a b → AreFine a → n.size < 2 ^ 64
number_fine h q = (subst AreFine h.first.first q).1

signed_leaves : {n : NumberAt} {a b : Tokens} → IsSigned n a b → Leaves 1 a b
signed_leaves (Unsigned h) = number_leaves h
signed_leaves (Negative h j) = at_least (omega arith) (both (token_leaves h) (number_leaves j))

first_step_leaves : {s : StepTree} {p : ℕ} {a b : Tokens} → IsFirstStep s p a b → Leaves 1 a b
first_step_leaves (RcFirst h) = token_leaves h
first_step_leaves (NameFirst h) = name_leaves h

next_step_leaves : {s : StepTree} {a b : Tokens} → IsNextStep s a b → Leaves 0 a b
next_step_leaves (MemberNext h j) = at_least (omega arith) (both (token_leaves h) (name_leaves j))
next_step_leaves (PlaceNext h j k) =
    at_least (omega arith) (both (token_leaves h) (both (number_leaves j) (token_leaves k)))

leaf_leaves : {l : LeafAt} {a b : Tokens} → IsLeaf l a b → Leaves 1 a b
leaf_leaves (FirstStep h) = first_step_leaves h
leaf_leaves (MoreSteps h j) = at_least (omega arith) (both (leaf_leaves h) (next_step_leaves j))

-- ---- settings

-- a setting is written
abbrev IsWrittenOne : RawSetting → Type 0
IsWrittenOne s = IsWritable s.value

-- settings are written, and each takes four tokens
record AreWritten (ss : List RawSetting) (a b : Tokens) : Type 0 where
  pub texts : AreFine a → All IsWrittenOne ss
  pub leaves : Leaves (4 * length ss) a b

value_leaves : {v : RawValue} {a b : Tokens} → grammar.IsValue v a b → Leaves 1 a b
value_leaves (grammar.NumberValue h) = signed_leaves h
value_leaves (grammar.TextValue h) = first_leaves h.first

value_fine : {v : RawValue} {a b : Tokens} → grammar.IsValue v a b → AreFine a → IsWritable v
value_fine (grammar.NumberValue h) q = tt
value_fine (grammar.TextValue h) q = quote_fine h q

setting_leaves : {s : RawSetting} {a b : Tokens} → grammar.IsSetting s a b → Leaves 3 a b
setting_leaves (grammar.LeafAndValue h j k) =
    at_least (omega arith) (both (leaf_leaves h) (both (token_leaves j) (value_leaves k)))

setting_fine : {s : RawSetting} {a b : Tokens} → grammar.IsSetting s a b → AreFine a → IsWrittenOne s
setting_fine (grammar.LeafAndValue h j k) q = value_fine k ((token_leaves j).fine ((leaf_leaves h).fine q))

settings_written : {ss : List RawSetting} {a b : Tokens} → grammar.AreSettings ss a b → AreWritten ss a b
settings_written (grammar.FirstSetting {s} h j) = record {
  texts = λ q. All-cons IsWrittenOne s [] (setting_fine j ((token_leaves h).fine q)) (All-nil IsWrittenOne);
  leaves = at_least (omega arith) (both (token_leaves h) (setting_leaves j));
}
settings_written (grammar.MoreSettings {ss} {s} h j k) =
    let before = settings_written h in
    let long : length (ss ++ s ∷ []) ≡ length ss + 1 = length-append ss (s ∷ []) in
    record {
      texts = λ q. All-append IsWrittenOne ss (s ∷ []) (before.texts q)
          (All-cons IsWrittenOne s [] (setting_fine k ((token_leaves j).fine (before.leaves.fine q)))
          (All-nil IsWrittenOne));
      leaves = at_least (omega (arith, long)) (both before.leaves (both (token_leaves j) (setting_leaves k)));
    }

with_written : {ss : List RawSetting} {a b : Tokens} → grammar.IsWith ss a b → AreWritten ss a b
with_written grammar.NoSettings = record { texts = λ q. All-nil IsWrittenOne; leaves = nothing }
with_written (grammar.Settings h) = settings_written h

with_writable : {ss : List RawSetting} {a b : Tokens} → grammar.IsWith ss a b → AreFine a → length a ≤ 65536
    → AreWritable ss
with_writable h q few =
    let w = with_written h in
    let fewer = w.leaves.fewer in
    (omega (arith, few, fewer), w.texts q)

-- ---- other parts

named_leaves : {w : Keyword} {n : Name} {a b : Tokens} → grammar.IsNamed w n a b → Leaves 0 a b
named_leaves (grammar.WordAndName h j) = at_least (omega arith) (both (token_leaves h) (name_leaves j))

named_fine : {w : Keyword} {n : Name} {a b : Tokens} → grammar.IsNamed w n a b → AreFine a → is_name n ≡ true
named_fine (grammar.WordAndName h j) q = name_fine j ((token_leaves h).fine q)

code_leaves : {n : Option NumberAt} {a b : Tokens} → grammar.IsReturnCode n a b → Leaves 0 a b
code_leaves grammar.NoCode = nothing
code_leaves (grammar.Code h j) = at_least (omega arith) (both (token_leaves h) (signed_leaves j))

outcome_writable : {o : Outcome} {a b : Tokens} → grammar.IsOutcome o a b → AreFine a → length a ≤ 65536
    → AreWritable o.settings
outcome_writable (grammar.CodeAndSettings h j) q few =
    let code = code_leaves h in
    let fewer = code.fewer in
    with_writable j (code.fine q) (omega (arith, few, fewer))

key_leaves : {k : Option Name} {a b : Tokens} → grammar.IsKey k a b → Leaves 0 a b
key_leaves grammar.NoKey = nothing
key_leaves (grammar.Key h) = named_leaves h

key_fine : {k : Option Name} {a b : Tokens} → grammar.IsKey k a b → AreFine a → KeyFits k
key_fine grammar.NoKey q = tt
key_fine (grammar.Key h) q = named_fine h q

who_leaves : {w : Who} {a b : Tokens} → grammar.IsWho w a b → Leaves 0 a b
who_leaves (grammar.ByPerson h) = named_leaves h
who_leaves (grammar.ByTake h j) = at_least (omega arith) (both (token_leaves h) (number_leaves j))

who_fine : {w : Who} {a b : Tokens} → grammar.IsWho w a b → AreFine a → WhoFits w
who_fine (grammar.ByPerson h) q = named_fine h q
who_fine (grammar.ByTake h j) q = number_fine j ((token_leaves h).fine q)

-- ---- commands

-- no more tokens are left behind a form than a line has
fewer_left : {n : ℕ} {a b : Tokens} → Leaves n a b → length a ≤ 65536 → length b ≤ 65536
fewer_left h few = let fewer = h.fewer in omega (arith, few, fewer)

behind_worded : {w : Keyword} {c : Command} {a b : Tokens} → grammar.IsBehind w c a b → AreFine a → length a ≤ 65536
    → NamesNoZero c → IsWorded c
behind_worded grammar.Import q few some = tt
behind_worded (grammar.Start h j k l) q few some =
    let name = name_leaves h in
    let starter = named_leaves j in
    let key = key_leaves k in
    let first = name.fine q in
    let second = starter.fine first in (
      name_fine h q,
      named_fine j first,
      key_fine k second,
      with_writable l (key.fine second) (fewer_left key (fewer_left starter (fewer_left name few))),
    )
behind_worded (grammar.Turn h) q few some = tt
behind_worded grammar.Drain q few some = tt
behind_worded (grammar.Claim h j) q few some = named_fine j ((item_leaves h).fine q)
behind_worded (grammar.Release h j) q few some = named_fine j ((item_leaves h).fine q)
behind_worded (grammar.Transfer h j k) q few some =
    let first = (item_leaves h).fine q in
    (named_fine j first, named_fine k ((named_leaves j).fine first))
behind_worded (grammar.Take h) q few some = tt
behind_worded (grammar.Done h j k) q few some =
    let item = item_leaves h in
    let who = who_leaves j in
    let first = item.fine q in (
      who_fine j first,
      outcome_writable k (who.fine first) (fewer_left who (fewer_left item few)),
    )
behind_worded (grammar.Force h j) q few some =
    let item = item_leaves h in
    outcome_writable j (item.fine q) (fewer_left item few)
behind_worded (grammar.Restart h) q few some = tt
behind_worded (grammar.Suspend h) q few some = (some, number_fine h q)
behind_worded (grammar.Resume h) q few some = (some, number_fine h q)
behind_worded (grammar.Terminate h) q few some = (some, number_fine h q)
behind_worded (grammar.Delete h) q few some = (some, number_fine h q)
behind_worded (grammar.Clock h) q few some = tt
behind_worded grammar.Checkpoint q few some = tt
behind_worded (grammar.Show h) q few some = tt
behind_worded (grammar.Output h) q few some = tt
behind_worded (grammar.Input h) q few some = tt
behind_worded (grammar.Worklist h) q few some = tt
behind_worded (grammar.Queue h) q few some = tt
behind_worded (grammar.Audit h) q few some = tt
behind_worded grammar.Templates q few some = tt

command_worded : {c : Command} {a : Tokens} → grammar.IsCommand c a → AreFine a → length a ≤ 65536 → NamesNoZero c
    → IsWorded c
command_worded (grammar.WordAndRest h j) q few some =
    let word = token_leaves h in
    behind_worded j (word.fine q) (fewer_left word few) some

pub read_worded : (line : List ℕ) (command : Command) → length line ≤ 65536 → SaysCommand line (Some command)
    → NamesNoZero command → IsWorded command
read_worded line command short says some =
    let tokens = says.0 in
    let are = says.1.1 in
    let end = are.end in
    let few = scans_few line 0 tokens end are.scanned in
    let within = are.within in
    let long = length-map tokens (spelled line) in
    command_worded says.2 (scans_fine line 0 tokens end are.scanned) (omega (arith, short, few, within, long)) some
