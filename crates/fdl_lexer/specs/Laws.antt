-- A text has one list of tokens, or else one place where it has none.
use Rattle.std.specs.Prelude.{◌≡◌, ℕ, List}
use Rattle.std.specs.List.{All}
use Rattle.fdl_lexer.specs.declared.kinds.Token.{Token}
use Rattle.fdl_lexer.specs.Tokens.{AreTokens, IsFirstBad, IsPlaced, IsStuckAt}

-- two token lists of a text are one
abbrev pub OneTokenList : Type 0
OneTokenList = (text : List ℕ) (tokens others : List Token) → AreTokens text tokens → AreTokens text others
    → tokens ≡ others

-- where no token begins, the text has no tokens
abbrev pub NoTokensWhereStuck : Type 0
NoTokensWhereStuck = (text : List ℕ) (tokens : List Token) (place : ℕ) → AreTokens text tokens → IsStuckAt text place
    → ⊥

-- where a byte may not stand, the text has no tokens
abbrev pub NoTokensWhereBad : Type 0
NoTokensWhereBad = (text : List ℕ) (tokens : List Token) (place : ℕ) → AreTokens text tokens → IsFirstBad text place → ⊥

-- two places where no token begins are one
abbrev pub OneStuckPlace : Type 0
OneStuckPlace = (text : List ℕ) (place other : ℕ) → IsStuckAt text place → IsStuckAt text other → place ≡ other

-- each token of a text stands in it
abbrev pub TokensArePlaced : Type 0
TokensArePlaced = (text : List ℕ) (tokens : List Token) → AreTokens text tokens → All (IsPlaced text) tokens
