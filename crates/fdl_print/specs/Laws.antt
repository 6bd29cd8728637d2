-- A canonical text reads back as the tree that it was written from.
use Rattle.std.specs.Prelude.{◌≡◌, ℕ, List}
use Rattle.fdl_lexer.specs.declared.kinds.Token.{Token}
use Rattle.fdl_lexer.specs.Tokens.{AreTokens}
use Rattle.fdl_parser.specs.Tokens.{spell}
use Rattle.fdl_parser.specs.Items.{IsTree}
use Rattle.flow_model.specs.declared.trees.Tree.{Tree}
use Rattle.fdl_print.specs.Same.{SameButPlaces}
use Rattle.fdl_print.specs.Canonical.{canonical_text}

-- this text has tokens, and these have this tree, but for places
pub record ReadsAs (tree : Tree) (text : List ℕ) : Type 0 where
  pub tokens : List Token
  pub lexed : AreTokens text tokens
  pub again : Tree
  pub parsed : IsTree again (spell text tokens)
  pub same : SameButPlaces tree again

-- the canonical text of a tree that some text has reads as that tree
abbrev pub ReadsBack : Type 0
ReadsBack = (source : List ℕ) (tokens : List Token) (tree : Tree) → AreTokens source tokens
    → IsTree tree (spell source tokens) → ReadsAs tree (canonical_text tree)

-- each reading of it is that tree
abbrev pub ReadsOnlyBack : Type 0
ReadsOnlyBack = (source : List ℕ) (tokens : List Token) (tree : Tree) → AreTokens source tokens
    → IsTree tree (spell source tokens)
    → (others : List Token) (again : Tree) → AreTokens (canonical_text tree) others
    → IsTree again (spell (canonical_text tree) others) → SameButPlaces tree again

-- trees that are the same but for places have one canonical text
abbrev pub OneText : Type 0
OneText = (tree other : Tree) → SameButPlaces tree other → canonical_text tree ≡ canonical_text other
