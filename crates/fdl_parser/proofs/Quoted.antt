-- The tokens of the lexer have their names and texts in quotes.
use Rattle.std.proofs.Common.{ℕ, ◌-◌, List, [], ◌∷◌, take, drop}
use Rattle.fdl_lexer.specs.declared.kinds.What.{What}
use Rattle.fdl_lexer.specs.declared.kinds.What.TheVariants.{Word, Name, Rc, Item, Number, Text, Mark}
use Rattle.fdl_lexer.specs.declared.kinds.Token.{Token}
use Rattle.fdl_lexer.specs.Tokens.{Spells, Scans, AreTokens}
use Rattle.fdl_parser.specs.Tokens.{spell}
use Rattle.fdl_parser.specs.Lexed.{IsQuoted, AreQuoted}

spells_quoted : (w : What) (n : ℕ) (bytes : List ℕ) → Spells w n bytes → IsQuoted w (take n bytes)
spells_quoted Name n bytes s = (s.0, s.2.0, s.1)
spells_quoted Text n bytes s = (s.0, s.2.0, s.1)
spells_quoted (Word w) n bytes s = tt
spells_quoted Rc n bytes s = tt
spells_quoted Item n bytes s = tt
spells_quoted (Number v) n bytes s = tt
spells_quoted (Mark m) n bytes s = tt

scans_quoted : (text : List ℕ) (at : ℕ) (ts : List Token) (end : ℕ) → Scans text at ts end → AreQuoted (spell text ts)
scans_quoted text at [] end s = tt
scans_quoted text at (t ∷ ts) end s = (spells_quoted t.what (t.to - t.from) (drop t.from text) s.0.spelled, scans_quoted text t.to ts end s.1)

pub tokens_quoted : (text : List ℕ) (ts : List Token) → AreTokens text ts → AreQuoted (spell text ts)
tokens_quoted text ts a = scans_quoted text 0 ts a.end a.scanned
