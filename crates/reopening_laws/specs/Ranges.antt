-- Where a command's transaction is in range: what is asked of the words of the command, and of the state.
use Rattle.std.specs.Prelude.{◌≡◌, ℕ, ◌+◌, ◌^◌, ◌<◌, true, Some, List, length, slice_get}
use Rattle.std.specs.List.{All}
use Rattle.activity_states.specs.States.{next_take}
use Rattle.flow_core.specs.declared.judging.Verdict.TheVariants.{Do}
use Rattle.flow_model.specs.Words.{is_text}
use Rattle.flow_model.specs.declared.commands.Command.{Command}
use Rattle.flow_model.specs.declared.commands.Command.TheVariants.{Start, Claim, Release, Transfer, Done, Force}
use Rattle.flow_model.specs.declared.commands.Command.TheVariants.{Suspend, Resume, Terminate, Delete}
use Rattle.flow_model.specs.declared.commands.RawSetting.{RawSetting}
use Rattle.flow_model.specs.declared.commands.RawValue.{RawValue}
use Rattle.flow_model.specs.declared.commands.RawValue.TheVariants.{Number, Text}
use Rattle.flow_model.specs.declared.graphs.Graph.{out-Graph}
use Rattle.flow_model.specs.declared.graphs.Template.{Template}
use Rattle.flow_model.specs.declared.instances.Message.{Message}
use Rattle.flow_model.specs.declared.instances.Path.{Path}
use Rattle.flow_model.specs.declared.names.Name.{Name}
use Rattle.flow_model.specs.declared.transactions.Transaction.{Transaction}
use Rattle.flow_txn.specs.Ranges.{IsCounted, IsName, KeyFits, MessageFits, WhoFits, IsInRange}
use Rattle.machine.specs.Items.{Entry}
use Rattle.machine.specs.States.{State, item_of}
use Rattle.machine.specs.Verdicts.{newest_of, IsVerdict}
use Rattle.recover_queue.specs.Queues.{queue as messages_of}

-- ---- words

-- a text that is written is one
abbrev pub IsWritable : RawValue → Type 0
IsWritable (Number number) = Unit {0}
IsWritable (Text text place) = is_text text ≡ true

-- settings that are written are fewer than two bytes can count, and their texts are texts
abbrev pub AreWritable : List RawSetting → Type 0
AreWritable written = (length written + 1 < 2 ^ 16) × All (λ s. IsWritable s.value) written

-- The words of a command are in range: names are names, texts are texts, numbers have 64 bits.
abbrev pub IsWorded : Command → Type 0
IsWorded (Start process starter key written) = IsName process × IsName starter × KeyFits key × AreWritable written
IsWorded (Claim token who) = IsName who
IsWorded (Release token who) = IsName who
IsWorded (Transfer token who to) = IsName who × IsName to
IsWorded (Done token by outcome) = WhoFits by × AreWritable outcome.settings
IsWorded (Force token outcome) = AreWritable outcome.settings
IsWorded (Suspend root) = IsCounted root
IsWorded (Resume root) = IsCounted root
IsWorded (Terminate root) = IsCounted root
IsWorded (Delete root) = IsCounted root
IsWorded command = Unit {0}

-- ---- a state

-- an item has a path, an output and a number of takes that their bytes hold
pub record ItemIsInRange (path : Path) (e : Entry) : Type 0 where
  pub shallow : length path.parts < 2 ^ 8
  pub small : length e.activity.output.leaves < 2 ^ 16
  pub takes : next_take e.state < 2 ^ 64

-- the newest template of a name has a version and an input that their bytes hold
pub record TemplateIsInRange (t : Template) : Type 0 where
  pub version : t.version < 2 ^ 32
  pub small : length (out-Graph t.graph).input.leaves < 2 ^ 16

-- what a transaction takes from a state has a spelling: its limit, its queues and the messages at their fronts, its
-- items, and the newest templates
pub record StandsInRange (s : State) : Type 0 where
  pub limit : s.limit < 2 ^ 64
  pub queues : length s.queues < 2 ^ 8
  pub fronts : (queue : ℕ) (m : Message) → slice_get (messages_of s.queues queue) 0 ≡ Some m → MessageFits m
  pub items : (path : Path) (e : Entry) → item_of s path ≡ Some e → ItemIsInRange path e
  pub newest : (process : Name) (t : Template) → newest_of s process ≡ Some t → TemplateIsInRange t

-- ---- law

-- in such a state the transaction of a command with such words is in range, under the next number
abbrev pub CommandsAreInRange : Type 0
CommandsAreInRange =
    (s : State) (command : Command) (t : Transaction) → StandsInRange s → IsWorded command
    → IsVerdict s command (Do t) → IsInRange (s.transactions + 1) t
