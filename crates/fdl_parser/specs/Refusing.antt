-- Where a text is refused: at the first token with which its tokens begin no text.
use Rattle.std.specs.Prelude.{◌≡◌, ℕ, List, ◌++◌}
use Rattle.flow_model.specs.declared.trees.Tree.{Tree}
use Rattle.fdl_lexer.specs.declared.kinds.Token.{Token}
use Rattle.fdl_lexer.specs.Tokens.{AreTokens}
use Rattle.fdl_parser.specs.declared.cursor.SyntaxFault.{SyntaxFault}
use Rattle.fdl_parser.specs.declared.cursor.SyntaxFault.TheVariants.{At, NoMemory}
use Rattle.fdl_parser.specs.Lexed.{AreQuoted}
use Rattle.fdl_parser.specs.Stops.{first_and}
use Rattle.fdl_parser.specs.Tokens.{Tokens, reading, spell, place_in, IsRest}
use Rattle.fdl_parser.specs.Items.{IsTree}

-- this is the first place where a row can't go on: what stands before it begins something that is said so, but not with
-- the token that stands there, whatever follows; where none stands there, it says none
pub record IsFirstFault (says : Tokens → Type 0) (all rest : Tokens) : Type 0 where
  pub front : Tokens
  pub cut : all ≡ front ++ rest
  pub more : Tokens
  pub lexed : AreQuoted more
  pub begins : says (front ++ more)
  pub blocked : (others : Tokens) → says (front ++ first_and rest others) → ⊥

-- where the fault names a place, it is the first of tokens of the lexer
pub record Refuses (says : Tokens → Type 0) (all rest : Tokens) (e : SyntaxFault) : Type 0 where
  pub first : (place : ℕ) → e ≡ At place → AreQuoted all → IsFirstFault says all rest

-- the row has a tree
abbrev pub SomeTree : Tokens → Type 0
SomeTree row = (tree : Tree) × IsTree tree row

-- the place that the fault names for tokens of the lexer is that of the first with which they begin no text, or the
-- text's
-- end, where they begin one and have no tree
abbrev pub RefusesFirst : List ℕ → List Token → SyntaxFault → Type 0
RefusesFirst text tokens NoMemory = Unit {0}
RefusesFirst text tokens (At place) = AreTokens text tokens
    → (rest : Tokens) × (end : ℕ) × IsRest (reading text tokens) rest end × (place ≡ place_in rest end)
    × IsFirstFault SomeTree (spell text tokens) rest

-- tokens of the lexer that are refused at a place have no tree
abbrev pub HaveNoTree : List ℕ → List Token → SyntaxFault → Type 0
HaveNoTree text tokens e = AreTokens text tokens → (tree : Tree) → IsTree tree (spell text tokens) → e ≡ NoMemory
