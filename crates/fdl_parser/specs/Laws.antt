-- A text has one tree.
use Rattle.std.specs.Prelude.{◌≡◌, ℕ, List}
use Rattle.fdl_lexer.specs.declared.kinds.Token.{Token}
use Rattle.fdl_lexer.specs.Tokens.{AreTokens}
use Rattle.flow_model.specs.declared.trees.Tree.{Tree}
use Rattle.fdl_parser.specs.Tokens.{spell}
use Rattle.fdl_parser.specs.Items.{IsTree}

-- two trees of a text's tokens are equal
abbrev pub TreesAreOne : Type 0
TreesAreOne = (text : List ℕ) (tokens : List Token) (t u : Tree) → AreTokens text tokens
    → IsTree t (spell text tokens) → IsTree u (spell text tokens) → t ≡ u
