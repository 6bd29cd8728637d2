-- Which parts of a transaction have a spelling: names, texts, and counts that their bytes hold.
use Rattle.std.specs.Prelude.{◌≡◌, ℕ, ◌<◌, ◌≤◌, ◌^◌, true, Option, Some, None, List, length, FitsSigned}
use Rattle.std.specs.List.{All}
use Rattle.std.specs.Int.{w64}
use Rattle.flow_model.specs.Words.{is_name, is_text}
use Rattle.flow_model.specs.declared.graphs.Value.{Value}
use Rattle.flow_model.specs.declared.graphs.Value.TheVariants.{Whole, Text}
use Rattle.flow_model.specs.declared.instances.Message.{Message}
use Rattle.flow_model.specs.declared.instances.Message.TheVariants.{Begin, Signal, End}
use Rattle.flow_model.specs.declared.instances.Part.{Part}
use Rattle.flow_model.specs.declared.instances.Path.{Path}
use Rattle.flow_model.specs.declared.instances.Who.{Who}
use Rattle.flow_model.specs.declared.instances.Who.TheVariants.{Person, Agent}
use Rattle.flow_model.specs.declared.transactions.Setting.{Setting}
use Rattle.flow_model.specs.declared.transactions.Transaction.{Transaction}
use Rattle.flow_model.specs.declared.transactions.Transaction.TheVariants.{Import, Start, Turn, Claim, Release}
use Rattle.flow_model.specs.declared.transactions.Transaction.TheVariants.{Transfer, Take, Done, Force, Restart}
use Rattle.flow_model.specs.declared.transactions.Transaction.TheVariants.{Suspend, Resume, Terminate, Delete, Clock}

-- a number of 64 bits that is counted from 1
abbrev pub IsCounted : ℕ → Type 0
IsCounted n = (1 ≤ n) × (n < 2 ^ 64)

abbrev pub IsName : List ℕ → Type 0
IsName name = is_name name ≡ true

abbrev pub PartFits : Part → Type 0
PartFits q = IsName q.name × IsCounted q.attempt

-- the path of a scope
abbrev pub PathFits : Path → Type 0
PathFits p = IsCounted p.root × (length p.parts < 2 ^ 8) × All PartFits p.parts

-- the path of an item has a part
abbrev pub ItemFits : Path → Type 0
ItemFits p = PathFits p × (1 ≤ length p.parts)

abbrev pub ValueFits : Value → Type 0
ValueFits (Whole n) = FitsSigned w64 n
ValueFits (Text text) = is_text text ≡ true

abbrev pub SettingFits : Setting → Type 0
SettingFits s = (s.leaf < 2 ^ 16) × ValueFits s.value

abbrev pub SettingsFit : List Setting → Type 0
SettingsFit ss = (length ss < 2 ^ 16) × All SettingFits ss

abbrev pub KeyFits : Option (List ℕ) → Type 0
KeyFits None = Unit {0}
KeyFits (Some key) = IsName key

abbrev pub MessageFits : Message → Type 0
MessageFits (Begin scope) = PathFits scope
MessageFits (Signal scope source target truth) = PathFits scope × IsName source × IsName target
MessageFits (End scope) = PathFits scope

abbrev pub WhoFits : Who → Type 0
WhoFits (Person name) = IsName name
WhoFits (Agent take) = take < 2 ^ 64

-- the parts of a transaction are in range
abbrev pub TransactionFits : Transaction → Type 0
TransactionFits (Import text) = length text ≤ 1048576
TransactionFits (Start root process version starter key settings) = IsCounted root × IsName process × (version < 2 ^ 32)
    × IsName starter × KeyFits key × SettingsFit settings
TransactionFits (Turn queue message) = (queue < 2 ^ 8) × MessageFits message
TransactionFits (Claim item who) = ItemFits item × IsName who
TransactionFits (Release item who) = ItemFits item × IsName who
TransactionFits (Transfer item who to) = ItemFits item × IsName who × IsName to
TransactionFits (Take item take) = ItemFits item × (take < 2 ^ 64)
TransactionFits (Done item who settings) = ItemFits item × WhoFits who × SettingsFit settings
TransactionFits (Force item settings) = ItemFits item × SettingsFit settings
TransactionFits (Restart item) = ItemFits item
TransactionFits (Suspend root) = IsCounted root
TransactionFits (Resume root) = IsCounted root
TransactionFits (Terminate root) = IsCounted root
TransactionFits (Delete root) = IsCounted root
TransactionFits (Clock minutes) = minutes < 2 ^ 64

-- a transaction and its number are in range
abbrev pub IsInRange : ℕ → Transaction → Type 0
IsInRange number t = IsCounted number × TransactionFits t
