-- How a text is judged: by its length, its bytes, its tokens and its syntax, and then by the other rules in their
-- order.
use Rattle.std.specs.Prelude.{◌≡◌, ◌==◌, ℕ, ◌+◌, ◌<◌, ◌≤◌, List, length, take, None, Some, Result, Ok, Err}
use Rattle.std.specs.List.{filter}
use Rattle.fdl_lexer.specs.Tokens.{AreTokens, Faults}
use Rattle.fdl_lexer.specs.declared.kinds.Token.{Token}
use Rattle.fdl_lexer.specs.declared.kinds.LexFault.TheVariants as lexed
use Rattle.fdl_parser.specs.Refusing.{RefusesFirst, HaveNoTree}
use Rattle.fdl_parser.specs.declared.cursor.SyntaxFault.TheVariants as parsed
use Rattle.flow_model.specs.declared.graphs.Library.{Library}
use Rattle.flow_model.specs.declared.trees.Tree.{Tree}
use Rattle.template_check.specs.Compiling.{HasTree}
use Rattle.template_check.specs.Rules.{IsFirstBroken, later_rules}
use Rattle.template_check.specs.declared.faults.ImportFault.{ImportFault}
use Rattle.template_check.specs.declared.faults.ImportFault.TheVariants as fault

-- the line of a place: one more than the line feeds before it
abbrev pub line_at : List ℕ → ℕ → ℕ
line_at text place = length (filter (λ byte. byte == 10) (take place text)) + 1

-- a text has no tree, by this rule and at this place: it is too long, it has a byte that may not stand in a text, or a
-- place
-- where no token begins, or its tokens have no tree
pub data IsEarly (text : List ℕ) (rule place : ℕ) : Type 0 where
  TooLong : 1048576 < length text → rule ≡ 24 → place ≡ 0 → IsEarly text rule place
  WrongByte : length text ≤ 1048576 → rule ≡ 1 → Faults text (lexed.Byte place) → IsEarly text rule place
  NoToken : length text ≤ 1048576 → rule ≡ 2 → Faults text (lexed.Token place) → IsEarly text rule place
  NoTree : length text ≤ 1048576 → rule ≡ 3 → (tokens : List Token) → AreTokens text tokens
      → RefusesFirst text tokens (parsed.At place) → HaveNoTree text tokens (parsed.At place) → IsEarly text rule place

-- a fault names this rule and this place, with its line
abbrev pub IsFault : List ℕ → ℕ → ℕ → ImportFault → Type 0
IsFault text rule place (fault.Rule found) = (found.rule ≡ rule) × (found.place ≡ place)
    × (found.line ≡ line_at text place)
IsFault text rule place fault.NoMemory = ⊥

-- a fault of a text that has no tree
abbrev pub IsEarlyFault : List ℕ → ImportFault → Type 0
IsEarlyFault text (fault.Rule found) = IsEarly text found.rule found.place × (found.line ≡ line_at text found.place)
IsEarlyFault text fault.NoMemory = Unit {0}

-- a text that is accepted isn't too long, and has a tree that breaks none of the other rules
pub record IsFaultless (library : Library) (text : List ℕ) : Type 0 where
  pub short : length text ≤ 1048576
  pub tree : Tree
  pub has : HasTree text tree
  pub none : IsFirstBroken (later_rules library tree.items) None

-- it isn't too long, and its tree breaks this rule first, at this place
pub record IsBroken (library : Library) (text : List ℕ) (rule place : ℕ) : Type 0 where
  pub short : length text ≤ 1048576
  pub tree : Tree
  pub has : HasTree text tree
  pub first : IsFirstBroken (later_rules library tree.items) (Some (rule, place))

-- a text is refused by this rule, at this place
pub data IsRefused (library : Library) (text : List ℕ) (rule place : ℕ) : Type 0 where
  Early : IsEarly text rule place → IsRefused library text rule place
  Late : IsBroken library text rule place → IsRefused library text rule place

-- how a text is judged, behind a library
abbrev pub IsJudged : {T : Type 0} → Library → List ℕ → Result T ImportFault → Type 0
IsJudged library text (Ok done) = IsFaultless library text
IsJudged library text (Err (fault.Rule found)) = IsRefused library text found.rule found.place
    × (found.line ≡ line_at text found.place)
IsJudged library text (Err fault.NoMemory) = Unit {0}
