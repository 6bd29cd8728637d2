-- What is replied to the queries that list what is kept: a view, a queue, a root's audited transactions, the templates,
-- a worklist.
use Rattle.std.specs.Prelude.{◌≡◌, ℕ, ℤ, pos, ◌==◌, ◌&&◌, nat_le, Bool, true, false, not, count_by, if◌then◌else◌}
use Rattle.std.specs.Prelude.{Option, Some, None, is_some, option_map, List, [], ◌∷◌, ◌++◌, length, slice_get, codes}
use Rattle.std.specs.List.{flat_map, list_any}
use Rattle.std.specs.Fmt.{decimal}
use Rattle.number_map.specs.Entries.{value_under}
use Rattle.flow_model.specs.Fates.{is_waiting}
use Rattle.flow_model.specs.ScopeContainers.{graph_of}
use Rattle.flow_model.specs.Scopes.{Known}
use Rattle.flow_model.specs.declared.graphs.Container.{Container}
use Rattle.flow_model.specs.declared.graphs.Graph.{Graph}
use Rattle.flow_model.specs.declared.graphs.Library.{Library}
use Rattle.flow_model.specs.declared.graphs.PersonDef.{PersonDef}
use Rattle.flow_model.specs.declared.graphs.Template.{Template}
use Rattle.flow_model.specs.declared.graphs.Value.{Value}
use Rattle.flow_model.specs.declared.graphs.Value.TheVariants.{Whole, Text}
use Rattle.flow_model.specs.declared.instances.FateRow.{FateRow}
use Rattle.flow_model.specs.declared.instances.Message.{Message}
use Rattle.flow_model.specs.declared.instances.Mode.{Mode}
use Rattle.flow_model.specs.declared.instances.Mode.TheVariants as modes
use Rattle.flow_model.specs.declared.instances.WorkLine.{WorkLine}
use Rattle.flow_model.specs.declared.transactions.Numbered.{Numbered}
use Rattle.flow_model.specs.declared.transactions.Setting.{Setting}
use Rattle.flow_model.specs.declared.transactions.Transaction.{Transaction}
use Rattle.flow_model.specs.declared.transactions.Transaction.TheVariants.{Import, Start, Turn, Claim, Release}
use Rattle.flow_model.specs.declared.transactions.Transaction.TheVariants.{Transfer, Take, Done, Force, Restart}
use Rattle.flow_model.specs.declared.transactions.Transaction.TheVariants.{Suspend, Resume, Terminate, Delete, Clock}
use Rattle.flow_text.specs.Spelling.{name_in_quotes}
use Rattle.reply_text.specs.Replies.{path_in_quotes, mode_text, row_text}
use Rattle.audit_trail.specs.Lines.{message_text, audit_line}
use Rattle.recover_queue.specs.Queues.{queue as messages_of}
use Rattle.staff_worklists.specs.Listing.{IsWorklist}
use Rattle.navigator.specs.Instances.{mode_of}
use Rattle.navigator.specs.ViewRows.{view_rows}
use Rattle.navigator.specs.Views.{Shows}
use Rattle.navigator.specs.declared.instance.Instance.{Instance}
use Rattle.navigator.specs.declared.scopes.ScopeState.{out-ScopeState}
use Rattle.flow_core.specs.Replies.{refusal_text}
pub use Rattle.live_history.specs.Transactions.{about}
use Rattle.flow_core.specs.declared.refusals.Refusal.TheVariants as refused
use Rattle.flow_core.specs.declared.state.Core.{Core}
use Rattle.flow_core.specs.declared.state.Root.{Root}

-- SHOW: the root, its mode and the number of rows, then each row
abbrev pub view_text : ℕ → Mode → List FateRow → List ℕ
view_text root mode rows =
    codes "ok SHOW " ++ decimal root ++ 32 ∷ [] ++ mode_text mode ++ 32 ∷ [] ++ decimal (length rows) ++ 10 ∷ []
    ++ flat_map row_text rows

-- a message as a line
abbrev pub message_line : Message → List ℕ
message_line message = message_text message ++ 10 ∷ []

-- QUEUE: the number of the queue and of its messages, then each message, the front first
abbrev pub queue_text : ℕ → List Message → List ℕ
queue_text number messages =
    codes "ok QUEUE " ++ decimal number ++ 32 ∷ [] ++ decimal (length messages) ++ 10 ∷ []
    ++ flat_map message_line messages

-- a template as a line: its name and its version
abbrev pub template_line : Template → List ℕ
template_line template = name_in_quotes template.name ++ 32 ∷ [] ++ decimal template.version ++ 10 ∷ []

-- TEMPLATES: their number, then each template in the order of the imports
abbrev pub templates_text : List Template → List ℕ
templates_text templates =
    codes "ok TEMPLATES " ++ decimal (length templates) ++ 10 ∷ [] ++ flat_map template_line templates

-- a line of a worklist: the item's path, and whether the person holds it
abbrev pub work_line : WorkLine → List ℕ
work_line line = path_in_quotes line.item ++ (if line.held then codes " HELD\n" else codes " READY\n")

-- WORKLIST: the person and the number of lines, then each line
abbrev pub worklist_text : List ℕ → List WorkLine → List ℕ
worklist_text name lines =
    codes "ok WORKLIST " ++ name_in_quotes name ++ 32 ∷ [] ++ decimal (length lines) ++ 10 ∷ []
    ++ flat_map work_line lines

-- the return code after one more setting: a whole number for the first leaf is the new one
abbrev pub code_by : ℤ → ℕ → Value → ℤ
code_by code leaf (Whole number) = if leaf == 0 then number else code
code_by code leaf (Text text) = code

abbrev pub code_after : ℤ → List Setting → ℤ
code_after code [] = code
code_after code (setting ∷ settings) = code_after (code_by code setting.leaf setting.value) settings

-- the return code that settings give: the last whole number for the first leaf, or 0
abbrev pub return_code : List Setting → ℤ
return_code settings = code_after (pos 0) settings

-- the return code of a completion; 0 of other transactions
abbrev pub code_of : Transaction → ℤ
code_of (Import text) = pos 0
code_of (Start root process version starter key settings) = pos 0
code_of (Turn queue message) = pos 0
code_of (Claim item who) = pos 0
code_of (Release item who) = pos 0
code_of (Transfer item who to) = pos 0
code_of (Take item take) = pos 0
code_of (Done item who settings) = return_code settings
code_of (Force item settings) = return_code settings
code_of (Restart item) = pos 0
code_of (Suspend root) = pos 0
code_of (Resume root) = pos 0
code_of (Terminate root) = pos 0
code_of (Delete root) = pos 0
code_of (Clock minutes) = pos 0

-- a live transaction as a line
abbrev pub numbered_line : Numbered → List ℕ
numbered_line n = audit_line n.number n.transaction (code_of n.transaction)

-- the root and the number of these transactions, then each of them
abbrev pub audited_text : ℕ → List Numbered → List ℕ
audited_text root entries =
    codes "ok AUDIT " ++ decimal root ++ 32 ∷ [] ++ decimal (length entries) ++ 10 ∷ []
    ++ flat_map numbered_line entries

-- AUDIT: those of the live transactions that are about the root, the oldest first
abbrev pub audit_text : ℕ → List Numbered → List ℕ
audit_text root live = audited_text root (about root live)

-- a live root
abbrev pub root_at : Core → ℕ → Option Root
root_at c root = value_under root c.live_roots

-- the instance of a live root
abbrev pub instance_of : Core → ℕ → Option Instance
instance_of c root = option_map (λ r. r.instance) (root_at c root)

-- the mode of a root
abbrev pub mode_now : Instance → Mode
mode_now i =
    mode_of i.terminated ((out-ScopeState i.scope).begun && ((out-ScopeState i.scope).unsettled == 0)) i.suspended

-- there is a queue of this number, and a message stands at its front
abbrev pub has_message : Core → ℕ → Bool
has_message c number =
    nat_le 1 number && nat_le number (length c.queues) && is_some (slice_get (messages_of c.queues number) 0)

-- QUEUE shows the queue of a number from 1 to the number of queues, and else is refused
abbrev pub queue_answer : Core → ℕ → List ℕ
queue_answer c number =
    if nat_le 1 number && nat_le number (length c.queues)
    then queue_text number (messages_of c.queues number)
    else refusal_text (refused.Queue (length c.queues))

-- AUDIT shows a live root, and else is refused
abbrev pub audit_answer : Core → ℕ → List ℕ
audit_answer c root =
    if is_some (instance_of c root) then audit_text root c.live.items else refusal_text (refused.Root root)

-- the rows are those of the view of what the instance shows
abbrev pub AreRowsOf : Library → Instance → List FateRow → Type 0
AreRowsOf library i rows =
    (g : Graph) → graph_of library.templates i.template ≡ Some g →
    (depth : ℕ) → (k : Known) → (input : Container) → Shows library.templates depth k g input i.scope →
    rows ≡ view_rows library.templates depth k g input i.scope (record { root = i.root; parts = [] })

-- an activity of the root's own scope that waits no longer
abbrev pub is_at_work : FateRow → Bool
is_at_work row = (length row.scope.parts == 0) && not (is_waiting row.fate)

-- the rows of a root that has begun: none while all of its own scope waits
abbrev pub begun_of : List FateRow → List FateRow
begun_of rows = if list_any is_at_work rows then rows else []

-- they are those of a live root
abbrev pub AreBegun : Library → Option Instance → Option (List FateRow) → Type 0
AreBegun library None found = found ≡ None
AreBegun library (Some i) found = (rows : List FateRow) × AreRowsOf library i rows × (found ≡ Some (begun_of rows))

-- a root that is done
abbrev pub is_done : Mode → Bool
is_done modes.Active = false
is_done modes.Suspended = false
is_done modes.Done = true
is_done modes.Terminated = false

-- how many live roots are done
abbrev pub done_roots : Core → ℕ
done_roots c = count_by (λ r. is_done (mode_now r.1.instance)) c.live_roots.entries

-- SHOW shows the rows of a live root, and else is refused
abbrev pub IsShown : Library → ℕ → Option Instance → List ℕ → Type 0
IsShown library root None text = text ≡ refusal_text (refused.Root root)
IsShown library root (Some i) text =
    (rows : List FateRow) × AreRowsOf library i rows × (text ≡ view_text root (mode_now i) rows)

-- WORKLIST shows the worklist of a person who is declared, and else is refused
abbrev pub IsListed : Core → List ℕ → Option PersonDef → List ℕ → Type 0
IsListed c name None text = text ≡ refusal_text (refused.Person name)
IsListed c name (Some person) text =
    (lines : List WorkLine) × IsWorklist c.worklists.shelves person lines × (text ≡ worklist_text name lines)
