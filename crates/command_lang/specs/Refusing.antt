-- Where a line is refused: at the first token with which its tokens begin no command.
use Rattle.std.specs.Prelude.{◌≢◌, Bool, true, false, Some}
use Rattle.flow_table.specs.declared.keyword.Keyword.{Keyword}
use Rattle.flow_table.specs.declared.keyword.Keyword.TheVariants as keyword
use Rattle.flow_model.specs.declared.commands.Command.{Command}
use Rattle.flow_model.specs.declared.commands.Completion.{Completion}
use Rattle.fdl_lexer.specs.declared.kinds.What.TheVariants as what
pub use Rattle.fdl_parser.specs.Refusing.{IsFirstFault, Refuses}
use Rattle.fdl_parser.specs.Tokens.{Tokens, first_kind}
use Rattle.command_lang.specs.Grammar.{IsCommand, IsCompletion}

-- a command that only asks begins with this word
abbrev pub is_query_word : Keyword → Bool
is_query_word keyword.Show = true
is_query_word keyword.Output = true
is_query_word keyword.Input = true
is_query_word keyword.Worklist = true
is_query_word keyword.Queue = true
is_query_word keyword.Audit = true
is_query_word keyword.Templates = true
is_query_word _ = false

-- this, or a command on a root, a queue or the clock
abbrev pub is_number_word : Keyword → Bool
is_number_word keyword.Turn = true
is_number_word keyword.Suspend = true
is_number_word keyword.Resume = true
is_number_word keyword.Terminate = true
is_number_word keyword.Delete = true
is_number_word keyword.Clock = true
is_number_word word = is_query_word word

-- this, or a command on an item
abbrev pub is_item_word : Keyword → Bool
is_item_word keyword.Claim = true
is_item_word keyword.Release = true
is_item_word keyword.Transfer = true
is_item_word keyword.Take = true
is_item_word keyword.Done = true
is_item_word keyword.Force = true
is_item_word keyword.Restart = true
is_item_word word = is_number_word word

-- any command
abbrev pub is_first_word : Keyword → Bool
is_first_word keyword.Import = true
is_first_word keyword.Start = true
is_first_word keyword.Drain = true
is_first_word keyword.Checkpoint = true
is_first_word word = is_item_word word

-- this word doesn't come next
abbrev pub NoWord : Keyword → Tokens → Type 0
NoWord word rest = first_kind rest ≢ Some (what.Word word)

-- the row says a command
abbrev pub SomeCommand : Tokens → Type 0
SomeCommand row = (command : Command) × IsCommand command row

-- or a completion
abbrev pub SomeCompletion : Tokens → Type 0
SomeCompletion row = (completion : Completion) × IsCompletion completion row
