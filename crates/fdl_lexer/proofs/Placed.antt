-- Each token of a text lies in it.
use Rattle.std.proofs.Common.{ℕ, List, [], ◌∷◌}
use Rattle.std.specs.List.{All}
use Rattle.std.proofs.lemmas.List.Elements.{All-nil, All-cons}
use Rattle.fdl_lexer.specs.declared.kinds.Token.{Token}
use Rattle.fdl_lexer.specs.Tokens.{AreTokens, IsPlaced, Scans}

scanned_placed : (text : List ℕ) (at : ℕ) (ts : List Token) (end : ℕ) → Scans text at ts end → All (IsPlaced text) ts
scanned_placed text at [] end s = All-nil (IsPlaced text)
scanned_placed text at (t ∷ ts) end s =
    All-cons (IsPlaced text) t ts (record { some = s.0.some; within = s.0.within; spelled = s.0.spelled }) (scanned_placed text t.to ts end s.1)

pub all_placed : (text : List ℕ) (ts : List Token) → AreTokens text ts → All (IsPlaced text) ts
all_placed text ts t = scanned_placed text 0 ts t.end t.scanned
