-- How tightly a token goes on with what stands before it: what may stand behind a form goes on less tightly than its
-- parts.
use Rattle.std.specs.Prelude.{ℕ, ◌<◌, [], ◌∷◌}
use Rattle.flow_table.specs.declared.keyword.Keyword.{Keyword}
use Rattle.flow_table.specs.declared.keyword.Keyword.TheVariants as word
use Rattle.fdl_lexer.specs.declared.kinds.Mark.{Mark as Sign}
use Rattle.fdl_lexer.specs.declared.kinds.Mark.TheVariants as mark
use Rattle.fdl_lexer.specs.declared.kinds.What.{What}
use Rattle.fdl_lexer.specs.declared.kinds.What.TheVariants.{Word, Name, Mark}
use Rattle.fdl_parser.specs.Tokens.{Tokens}

-- how tightly a word goes on
abbrev pub word_tier : Keyword → ℕ
word_tier word.And = 7
word_tier word.Or = 6
word_tier word.When = 4
word_tier word.Otherwise = 4
word_tier word.Exit = 4
word_tier word.Start = 4
word_tier word.Expires = 4
word_tier word.DoneBy = 4
word_tier word.Roles = 4
word_tier word.ProgramActivity = 3
word_tier word.ProcessActivity = 3
word_tier word.Block = 3
word_tier word.Control = 3
word_tier word.Data = 3
word_tier word.Structure = 1
word_tier word.Person = 1
word_tier word.Process = 1
word_tier _ = 0

-- how tightly a mark does
abbrev pub mark_tier : Sign → ℕ
mark_tier mark.Dot = 9
mark_tier mark.OpenBracket = 9
mark_tier mark.Plus = 8
mark_tier mark.Minus = 8
mark_tier mark.Comma = 5
mark_tier mark.Open = 1
mark_tier _ = 0

-- how tightly a token of this kind does
abbrev pub kind_tier : What → ℕ
kind_tier (Word w) = word_tier w
kind_tier (Mark m) = mark_tier m
kind_tier Name = 2
kind_tier _ = 0

-- how tightly the first token does
abbrev pub tier : Tokens → ℕ
tier [] = 0
tier (t ∷ ts) = kind_tier t.kind

-- what stands here goes on less tightly than that
abbrev pub Looser : ℕ → Tokens → Type 0
Looser high rest = tier rest < high
