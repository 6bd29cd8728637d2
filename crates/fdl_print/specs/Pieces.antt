-- How tokens are laid out in lines: one space between two tokens of a line, a line feed behind each line.
use Rattle.std.specs.Prelude.{ℕ, Bool, true, false, if◌then◌else◌, List, [], ◌∷◌, ◌++◌, codes}
use Rattle.std.specs.Fmt.{decimal}
use Rattle.flow_text.specs.Spelling.{name_in_quotes, text_in_quotes}
use Rattle.flow_table.specs.Spelling.{keyword_spelling}
use Rattle.flow_table.specs.declared.keyword.Keyword.{Keyword}
use Rattle.fdl_lexer.specs.declared.kinds.Mark.{Mark}
use Rattle.fdl_lexer.specs.declared.kinds.Mark.TheVariants as signs

-- a token with its bytes, or the end of a line
pub data Piece : Type 0 where
  Token : List ℕ → Piece
  Stop : Piece

-- the text of pieces; begun says whether a token stands before them on their line
abbrev pub text : Bool → List Piece → List ℕ
text begun [] = []
text begun (Token bytes ∷ pieces) = (if begun then 32 ∷ bytes else bytes) ++ text true pieces
text begun (Stop ∷ pieces) = 10 ∷ text false pieces

-- what has been written, and whether a token stands last on the line
pub record Page : Type 0 where
  pub written : List ℕ
  pub begun : Bool

-- a page with one more piece
abbrev pub with_piece : Piece → Page → Page
with_piece (Token bytes) page = record {
  written = page.written
      ++ (if page.begun then 32 ∷ bytes else bytes);
  begun = true;
}
with_piece Stop page = record { written = page.written ++ 10 ∷ []; begun = false }

-- a page with more pieces, in order
abbrev pub with_pieces : List Piece → Page → Page
with_pieces [] page = page
with_pieces (piece ∷ pieces) page = with_pieces pieces (with_piece piece page)

-- ---- tokens

-- a keyword
abbrev pub word : Keyword → Piece
word keyword = Token (keyword_spelling keyword)

-- how a mark is written
abbrev pub sign_text : Mark → List ℕ
sign_text signs.Open = codes "("
sign_text signs.Close = codes ")"
sign_text signs.Comma = codes ","
sign_text signs.Semicolon = codes ";"
sign_text signs.Colon = codes ":"
sign_text signs.Dot = codes "."
sign_text signs.OpenBracket = codes "["
sign_text signs.CloseBracket = codes "]"
sign_text signs.Equal = codes "="
sign_text signs.NotEqual = codes "<>"
sign_text signs.Less = codes "<"
sign_text signs.AtMost = codes "<="
sign_text signs.Greater = codes ">"
sign_text signs.AtLeast = codes ">="
sign_text signs.Plus = codes "+"
sign_text signs.Minus = codes "-"

-- a mark
abbrev pub sign : Mark → Piece
sign mark = Token (sign_text mark)

-- a name in single quotes
abbrev pub name : List ℕ → Piece
name bytes = Token (name_in_quotes bytes)

-- a text in double quotes
abbrev pub quoted : List ℕ → Piece
quoted bytes = Token (text_in_quotes bytes)

-- a number without a sign
abbrev pub digits : ℕ → Piece
digits size = Token (decimal size)
