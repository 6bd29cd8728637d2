-- How a message and an audited transaction are written.
use Rattle.std.specs.Prelude.{ℕ, ℤ, Bool, true, false, if◌then◌else◌, List, [], ◌∷◌, ◌++◌, codes}
use Rattle.std.specs.Fmt.{decimal, signed_decimal}
use Rattle.flow_model.specs.Paths.{spelling}
use Rattle.flow_model.specs.declared.instances.Message.{Message}
use Rattle.flow_model.specs.declared.instances.Message.TheVariants.{Begin, Signal, End}
use Rattle.flow_model.specs.declared.instances.Path.{Path}
use Rattle.flow_model.specs.declared.instances.Who.{Who}
use Rattle.flow_model.specs.declared.instances.Who.TheVariants.{Person, Agent}
use Rattle.flow_model.specs.declared.transactions.Transaction.{Transaction}
use Rattle.flow_model.specs.declared.transactions.Transaction.TheVariants.{Import, Start, Turn, Claim, Release}
use Rattle.flow_model.specs.declared.transactions.Transaction.TheVariants.{Transfer, Take, Done, Force, Restart}
use Rattle.flow_model.specs.declared.transactions.Transaction.TheVariants.{Suspend, Resume, Terminate, Delete, Clock}
use Rattle.flow_text.specs.Spelling.{name_in_quotes}

-- a path in single quotes
abbrev pub path_in_quotes : Path → List ℕ
path_in_quotes p = 39 ∷ [] ++ spelling p ++ 39 ∷ []

abbrev pub truth_word : Bool → List ℕ
truth_word true = codes "TRUE"
truth_word false = codes "FALSE"

-- the text of a message, as `SIGNAL '1' 'A' 'B' TRUE`
abbrev pub message_text : Message → List ℕ
message_text (Begin scope) = codes "BEGIN " ++ path_in_quotes scope
message_text (Signal scope source target truth) = codes "SIGNAL " ++ path_in_quotes scope ++ codes " "
    ++ name_in_quotes source ++ codes " " ++ name_in_quotes target ++ codes " " ++ truth_word truth
message_text (End scope) = codes "END " ++ path_in_quotes scope

-- who completed an item: a person, or an agent by the take number
abbrev pub who_text : Who → List ℕ
who_text (Person name) = codes " BY " ++ name_in_quotes name
who_text (Agent take) = codes " TAKE " ++ decimal take

-- a line tells of each transaction of a root that is no Delete
abbrev pub is_audited : Transaction → Bool
is_audited (Import text) = false
is_audited (Start root process version starter key settings) = true
is_audited (Turn queue message) = true
is_audited (Claim item who) = true
is_audited (Release item who) = true
is_audited (Transfer item who to) = true
is_audited (Take item take) = true
is_audited (Done item who settings) = true
is_audited (Force item settings) = true
is_audited (Restart item) = true
is_audited (Suspend root) = true
is_audited (Resume root) = true
is_audited (Terminate root) = true
is_audited (Delete root) = false
is_audited (Clock minutes) = false

-- what happened; rc is the return code of the output that a completion gave
abbrev pub event_text : Transaction → ℤ → List ℕ
event_text (Import text) rc = []
event_text (Start root process version starter key settings) rc = codes "START " ++ name_in_quotes process ++ codes " "
    ++ decimal version ++ codes " BY " ++ name_in_quotes starter
event_text (Turn queue message) rc = codes "TURN " ++ decimal queue ++ codes " " ++ message_text message
event_text (Claim item who) rc = codes "CLAIM " ++ path_in_quotes item ++ codes " BY " ++ name_in_quotes who
event_text (Release item who) rc = codes "RELEASE " ++ path_in_quotes item ++ codes " BY " ++ name_in_quotes who
event_text (Transfer item who to) rc = codes "TRANSFER " ++ path_in_quotes item ++ codes " BY " ++ name_in_quotes who
    ++ codes " TO " ++ name_in_quotes to
event_text (Take item take) rc = codes "TAKE " ++ path_in_quotes item ++ codes " " ++ decimal take
event_text (Done item who settings) rc = codes "DONE " ++ path_in_quotes item ++ who_text who ++ codes " RC "
    ++ signed_decimal rc
event_text (Force item settings) rc = codes "FORCE " ++ path_in_quotes item ++ codes " RC " ++ signed_decimal rc
event_text (Restart item) rc = codes "RESTART " ++ path_in_quotes item
event_text (Suspend root) rc = codes "SUSPEND " ++ decimal root
event_text (Resume root) rc = codes "RESUME " ++ decimal root
event_text (Terminate root) rc = codes "TERMINATE " ++ decimal root
event_text (Delete root) rc = []
event_text (Clock minutes) rc = []

-- the line with its line feed: the transaction's number and what happened
abbrev pub audit_line : ℕ → Transaction → ℤ → List ℕ
audit_line number t rc = if is_audited t then decimal number ++ 32 ∷ [] ++ event_text t rc ++ 10 ∷ [] else []
