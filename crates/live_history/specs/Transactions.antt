-- Which root a transaction names, and which transactions are live.
use Rattle.std.specs.Prelude.{ℕ, ◌==◌, Bool, false, not, if◌then◌else◌, Option, Some, None, List, [], ◌∷◌, ◌++◌}
use Rattle.std.specs.List.{filter}
use Rattle.flow_model.specs.declared.transactions.Numbered.{Numbered}
use Rattle.flow_model.specs.declared.transactions.Setting.{Setting}
use Rattle.flow_model.specs.declared.transactions.Transaction.{Transaction}
use Rattle.flow_model.specs.declared.transactions.Transaction.TheVariants.{Import, Start, Turn, Claim, Release}
use Rattle.flow_model.specs.declared.transactions.Transaction.TheVariants.{Transfer, Take, Done, Force, Restart}
use Rattle.flow_model.specs.declared.transactions.Transaction.TheVariants.{Suspend, Resume, Terminate, Delete, Clock}
pub use Rattle.flow_txn.specs.Records.{is_turn}
use Rattle.recover_queue.specs.Queues.{root_of as root_of_message}

-- the root that a transaction is about
abbrev pub root_about : Transaction → Option ℕ
root_about (Import text) = None
root_about (Start root process version starter key settings) = Some root
root_about (Turn queue message) = Some (root_of_message message)
root_about (Claim item who) = Some item.root
root_about (Release item who) = Some item.root
root_about (Transfer item who to) = Some item.root
root_about (Take item take) = Some item.root
root_about (Done item who settings) = Some item.root
root_about (Force item settings) = Some item.root
root_about (Restart item) = Some item.root
root_about (Suspend root) = Some root
root_about (Resume root) = Some root
root_about (Terminate root) = Some root
root_about (Delete root) = Some root
root_about (Clock minutes) = None

abbrev pub is_root : ℕ → Option ℕ → Bool
is_root root None = false
is_root root (Some other) = other == root

-- the root that a transaction deletes
abbrev pub deleted : Transaction → Option ℕ
deleted (Delete root) = Some root
deleted t = None

-- the root that a transaction starts
abbrev pub started : Transaction → Option ℕ
started (Start root process version starter key settings) = Some root
started t = None

-- the live transactions without those about a root
abbrev pub without_root : ℕ → List Numbered → List Numbered
without_root root live = filter (λ n. not (is_root root (root_about n.transaction))) live

-- the live transactions after one more: a Delete takes those about its root away and isn't live itself, every other one
-- stays
abbrev pub live_by : Option ℕ → ℕ → Transaction → List Numbered → List Numbered
live_by None number t live = live ++ record { number = number; transaction = t } ∷ []
live_by (Some root) number t live = without_root root live

abbrev pub live_after : ℕ → Transaction → List Numbered → List Numbered
live_after number t live = live_by (deleted t) number t live

-- the live transactions about a root
abbrev pub about : ℕ → List Numbered → List Numbered
about root live = filter (λ n. is_root root (root_about n.transaction)) live

-- the settings of a Start; none of another transaction
abbrev pub settings_in : Transaction → List Setting
settings_in (Start root process version starter key settings) = settings
settings_in t = []

-- the settings of the first Start of a root
abbrev pub start_settings : ℕ → List Numbered → List Setting
start_settings root [] = []
start_settings root (n ∷ ns) =
    if is_root root (started n.transaction) then settings_in n.transaction else start_settings root ns
