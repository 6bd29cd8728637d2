-- Which place a fault names.
use Rattle.std.specs.Prelude.{◌≡◌, ℕ}
use Rattle.fdl_parser.specs.declared.cursor.SyntaxFault.{SyntaxFault}
use Rattle.fdl_parser.specs.declared.cursor.SyntaxFault.TheVariants.{At, NoMemory}
use Rattle.fdl_parser.specs.Tokens.{Tokens, Reading, place_in, IsRest}

-- the fault is want of memory, or it names the next token, or the text's end where none is left
abbrev pub Names : Reading → SyntaxFault → Type 0
Names r NoMemory = Unit {0}
Names r (At place) = place ≡ place_in r.left r.end

-- the fault is want of memory, or it names one of the tokens or the text's end
abbrev pub NamesOne : Reading → SyntaxFault → Type 0
NamesOne all NoMemory = Unit {0}
NamesOne all (At place) = (rest : Tokens) × (end : ℕ) × IsRest all rest end × (place ≡ place_in rest end)
