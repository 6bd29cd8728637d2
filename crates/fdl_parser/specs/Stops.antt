-- How far a form of tokens is read: to its end, or to the first token that can't stand there.
use Rattle.std.specs.Prelude.{◌≡◌, ◌≢◌, ◌⊎◌, ℕ, List, [], ◌∷◌, ◌++◌, Some}
use Rattle.fdl_parser.specs.declared.cursor.SyntaxFault.{SyntaxFault}
use Rattle.fdl_parser.specs.declared.cursor.SyntaxFault.TheVariants.{At}
use Rattle.fdl_parser.specs.Lexed.{AreQuoted}
use Rattle.fdl_lexer.specs.declared.kinds.What.{What}
use Rattle.fdl_lexer.specs.declared.kinds.What.TheVariants as what
use Rattle.flow_model.specs.declared.trees.StepTree.{StepTree}
use Rattle.fdl_lexer.specs.declared.kinds.Mark.TheVariants as mark
use Rattle.flow_table.specs.declared.keyword.Keyword.TheVariants as word
use Rattle.flow_model.specs.declared.trees.NameAt.{NameAt}
use Rattle.fdl_parser.specs.Activities.{AreStructures}
use Rattle.fdl_parser.specs.Tokens.{Tokens, first_kind, IsQuote, IsFirstStep}

-- something is read so from the first row, and the second is left
abbrev pub Reads : {A : Type 0} → (A → Tokens → Tokens → Type 0) → Tokens → Tokens → Type 0
Reads {A} form before after = (x : A) × form x before after

-- a text is read, at some place
abbrev pub Quotes : Tokens → Tokens → Type 0
Quotes before after = (value : List ℕ) × (place : ℕ) × IsQuote value place before after

-- the first step of a leaf is read, at some place
abbrev pub FirstSteps : Tokens → Tokens → Type 0
FirstSteps before after = (step : StepTree) × (place : ℕ) × IsFirstStep step place before after

-- the structures of a container are read
abbrev pub Structures : Tokens → Tokens → Type 0
Structures before after = (input : NameAt) × (output : NameAt) × AreStructures input output before after

-- the words with which an attribute of any activity begins
abbrev pub common_kinds : List What
common_kinds = what.Word word.When ∷ what.Word word.Exit ∷ []

-- an attribute of a program activity
abbrev pub attribute_kinds : List What
attribute_kinds = what.Word word.When ∷ what.Word word.Exit ∷ what.Word word.Start ∷ what.Word word.Expires ∷ what.Word
    word.DoneBy ∷ []

-- an element
abbrev pub element_kinds : List What
element_kinds = what.Word word.Block ∷ what.Word word.Control ∷ what.Word word.Data ∷ what.Word word.ProcessActivity ∷
    what.Word word.ProgramActivity ∷ []

-- a token of one of these kinds comes next
abbrev pub OneComes : List What → Tokens → Type 0
OneComes [] rest = ⊥
OneComes (k ∷ ks) rest = (first_kind rest ≡ Some k) ⊎ OneComes ks rest

-- none of these does
abbrev pub NoneComes : List What → Tokens → Type 0
NoneComes [] rest = Unit {0}
NoneComes (k ∷ ks) rest = (first_kind rest ≢ Some k) × NoneComes ks rest

-- a further step of a leaf begins here
abbrev pub StepComes : Tokens → Type 0
StepComes rest = (first_kind rest ≡ Some (what.Mark mark.Dot)) ⊎ (first_kind rest ≡ Some (what.Mark mark.OpenBracket))

-- none does
abbrev pub NoStep : Tokens → Type 0
NoStep rest = (first_kind rest ≢ Some (what.Mark mark.Dot)) × (first_kind rest ≢ Some (what.Mark mark.OpenBracket))

-- anything may stand behind
abbrev pub Anything : Tokens → Type 0
Anything rest = Unit {0}

-- nothing stands behind
abbrev pub AtEnd : Tokens → Type 0
AtEnd rest = rest ≡ []

-- the first token of a row, with others behind it; nothing where the row has none
abbrev pub first_and : Tokens → Tokens → Tokens
first_and [] others = []
first_and (t ∷ ts) others = t ∷ others

-- a form is read to its end: whatever stands behind it, and in one way where that begins alike
pub record IsTaken (behind : Tokens → Type 0) (form : Tokens → Tokens → Type 0) (before after : Tokens) : Type 0 where
  pub front : Tokens
  pub cut : before ≡ front ++ after
  pub reads : (rest : Tokens) → form (front ++ rest) rest
  pub only : (rest other : Tokens) → first_kind rest ≡ first_kind after → behind other → form (front ++ rest) other
      → other ≡ rest

-- reading a form stops here: the tokens before this place begin the form, and with the token at this place
-- they begin it no more; where none is left, they don't make it up
pub record IsStop (behind : Tokens → Type 0) (form : Tokens → Tokens → Type 0) (before after : Tokens) : Type 0 where
  pub front : Tokens
  pub cut : before ≡ front ++ after
  pub more : Tokens
  pub lexed : AreQuoted more
  pub goes_on : (rest : Tokens) → behind rest → form (front ++ (more ++ rest)) rest
  pub blocked : (others rest : Tokens) → behind rest → form (front ++ first_and after others) rest → ⊥

-- where the fault names a place, tokens of the lexer stop there
pub record Stops (behind : Tokens → Type 0) (form : Tokens → Tokens → Type 0) (before after : Tokens)
    (e : SyntaxFault) : Type 0 where
  pub stop : (place : ℕ) → e ≡ At place → AreQuoted before → IsStop behind form before after
