-- What a line says by its bytes and its tokens: nothing, something, or that it can't be read. Places are
-- counted from 1.
use Rattle.std.specs.Prelude.{◌≡◌, ◌⊎◌, ℕ, ◌+◌, ◌-◌, ◌^◌, min, take, slice_get, ◌<◌, ◌≤◌, ◌==◌, nat_le, Bool, not, ◌||◌}
use Rattle.std.specs.Prelude.{◌&&◌, Option, Some, None, Result, Ok, Err, List, [], length, position}
use Rattle.std.specs.Option.{option_map_or}
use Rattle.flow_model.specs.declared.commands.Command.{Command}
use Rattle.flow_model.specs.declared.commands.Completion.{Completion}
use Rattle.fdl_parser.specs.Faults.{NamesOne}
use Rattle.fdl_parser.specs.Tokens.{Tokens, spell, reading, place_in}
use Rattle.fdl_parser.specs.declared.cursor.SyntaxFault.TheVariants.{At}
use Rattle.command_lang.specs.Grammar.{IsCommand, IsCompletion}
use Rattle.command_lang.specs.Refusing.{IsFirstFault}
use Rattle.fdl_lexer.specs.declared.kinds.Token.{Token}
use Rattle.fdl_lexer.specs.Tokens.{AreTokens, IsStuckAt}
use Rattle.command_lang.specs.declared.reading.CommandFault.{CommandFault}
use Rattle.command_lang.specs.declared.reading.CommandFault.TheVariants.{Word, NoMemory}

-- a byte that may stand in a line: a tab, a carriage return, or a printable byte
abbrev pub may_stand : ℕ → Bool
may_stand byte = byte == 9 || byte == 13 || nat_le 32 byte && nat_le byte 126

-- the first byte that may not stand in a line
abbrev pub wrong_byte : List ℕ → Option ℕ
wrong_byte line = position (λ byte. not (may_stand byte)) line

-- each byte may stand, and behind some tokens none begins here
abbrev pub IsStuckLine : List ℕ → ℕ → Type 0
IsStuckLine line place = (wrong_byte line ≡ None) × IsStuckAt line place

-- each byte may stand, and these are the tokens of the line
abbrev pub AreLineTokens : List ℕ → List Token → Type 0
AreLineTokens line tokens = (wrong_byte line ≡ None) × AreTokens line tokens

-- the line has tokens, at least one
abbrev pub HasTokens : List ℕ → Type 0
HasTokens line = (tokens : List Token) × AreLineTokens line tokens × (0 < length tokens)

-- why a line has no tokens: a wrong byte, or a place where no token begins
abbrev pub HasNoTokens : List ℕ → CommandFault → Type 0
HasNoTokens line (Word place) = (1 ≤ place) × ((wrong_byte line ≡ Some (place - 1)) ⊎ IsStuckLine line (place - 1))
HasNoTokens line NoMemory = Unit {0}

-- nothing is said by a line of blanks and comments alone; a fault is that of the bytes, or the line has tokens
abbrev pub IsReading : {X : Type 0} → List ℕ → Result (Option X) CommandFault → Type 0
IsReading line (Ok None) = AreLineTokens line []
IsReading line (Ok (Some x)) = HasTokens line
IsReading line (Err e) = HasNoTokens line e ⊎ HasTokens line

-- where the last token ends
abbrev pub last_end : List Token → ℕ
last_end tokens = option_map_or (λ t. t.to) (slice_get tokens (length tokens - 1)) 0

-- the line up to the end of its last token
abbrev pub spoken_in : List ℕ → List Token → List ℕ
spoken_in line tokens = take (last_end tokens) line

-- the tokens of the line say this command, if there is one
abbrev pub SaysCommand : List ℕ → Option Command → Type 0
SaysCommand line None = Unit {0}
SaysCommand line (Some command) = (tokens : List Token) × AreLineTokens line tokens
    × IsCommand command (spell line tokens)

-- the tokens of the line say this completion, if there is one
abbrev pub SaysCompletion : List ℕ → Option Completion → Type 0
SaysCompletion line None = Unit {0}
SaysCompletion line (Some completion) = (tokens : List Token) × AreLineTokens line tokens
    × IsCompletion completion (spell line tokens)

-- the line says no other command, and none where this is none
abbrev pub IsOnlyCommand : List ℕ → Option Command → Type 0
IsOnlyCommand line None = (other : Command) → SaysCommand line (Some other) → ⊥
IsOnlyCommand line (Some command) = (other : Command) → SaysCommand line (Some other) → other ≡ command

-- nor completion
abbrev pub IsOnlyCompletion : List ℕ → Option Completion → Type 0
IsOnlyCompletion line None = (other : Completion) → SaysCompletion line (Some other) → ⊥
IsOnlyCompletion line (Some completion) = (other : Completion) → SaysCompletion line (Some other) → other ≡ completion

-- the fault names the place of one of the tokens, or the place behind the last one
abbrev pub NamesToken : List ℕ → CommandFault → Type 0
NamesToken line (Word place) =
    (tokens : List Token) × AreLineTokens line tokens × (0 < length tokens)
    × ((p : ℕ) × (place ≡ min (p + 1) (2 ^ 32 - 1)) × NamesOne (reading (spoken_in line tokens) tokens) (At p))
NamesToken line NoMemory = Unit {0}

-- why a line is refused: for its bytes, or for one of its tokens
abbrev pub IsRefusal : List ℕ → CommandFault → Type 0
IsRefusal line e = HasNoTokens line e ⊎ NamesToken line e

-- for its tokens: the place, counted from 1, is that of the first of them with which they begin nothing that is said
-- so,
-- or the place behind the last, where they begin something and don't say it
abbrev pub RefusesToken : (Tokens → Type 0) → List ℕ → CommandFault → Type 0
RefusesToken says line (Word place) =
    (tokens : List Token) × AreLineTokens line tokens × (0 < length tokens)
    × ((rest : Tokens) × IsFirstFault says (spell line tokens) rest
    × (place ≡ min (place_in rest (reading (spoken_in line tokens) tokens).end + 1) (2 ^ 32 - 1)))
RefusesToken says line NoMemory = Unit {0}

-- a line is refused for its bytes, or for the first of its tokens that can't stand there
abbrev pub RefusesFirst : (Tokens → Type 0) → List ℕ → CommandFault → Type 0
RefusesFirst says line e = HasNoTokens line e ⊎ RefusesToken says line e

-- only want of memory refuses a line that says a command
abbrev pub RefusesNoCommand : List ℕ → CommandFault → Type 0
RefusesNoCommand line (Word place) = IsOnlyCommand line None
RefusesNoCommand line NoMemory = Unit {0}

-- or a completion
abbrev pub RefusesNoCompletion : List ℕ → CommandFault → Type 0
RefusesNoCompletion line (Word place) = IsOnlyCompletion line None
RefusesNoCompletion line NoMemory = Unit {0}
