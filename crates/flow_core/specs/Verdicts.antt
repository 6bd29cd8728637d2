-- The verdict on a command.
use Rattle.std.specs.Prelude.{◌≡◌, ℕ, ◌+◌, ◌-◌, ◌^◌, min, Ok, Some, None, List, length}
use Rattle.std.specs.Option.{option_map_or}
use Rattle.activity_states.specs.States.{next_take, fate_of}
use Rattle.containers.specs.Settings.{outcome_by}
use Rattle.flow_model.specs.Paths.{Spells}
use Rattle.flow_model.specs.declared.commands.Command.{Command}
use Rattle.flow_model.specs.declared.commands.Command.TheVariants.{Import, Start, Turn, Drain, Claim, Release, Transfer}
use Rattle.flow_model.specs.declared.commands.Command.TheVariants.{Take, Done, Force, Restart, Suspend, Resume}
use Rattle.flow_model.specs.declared.commands.Command.TheVariants.{Terminate, Delete, Clock, Checkpoint, Ask}
use Rattle.flow_model.specs.declared.commands.Outcome.{Outcome}
use Rattle.flow_model.specs.declared.commands.RawSetting.{RawSetting}
use Rattle.flow_model.specs.declared.graphs.Graph.{out-Graph}
use Rattle.flow_model.specs.declared.graphs.Template.{Template}
use Rattle.flow_model.specs.declared.instances.Fate.{Fate}
use Rattle.flow_model.specs.declared.instances.Fate.TheVariants as fate
use Rattle.flow_model.specs.declared.instances.Message.{Message}
use Rattle.flow_model.specs.declared.instances.Mode.TheVariants as mode
use Rattle.flow_model.specs.declared.instances.Path.{Path}
use Rattle.flow_model.specs.declared.transactions.Setting.{Setting}
use Rattle.flow_model.specs.declared.transactions.Transaction.{Transaction}
use Rattle.flow_model.specs.declared.transactions.Transaction.TheVariants as made
use Rattle.flow_model.specs.declared.names.Name.{Name}
use Rattle.navigator.specs.Items.{Entry}
pub use Rattle.flow_core.specs.Driving.{IsFront}
use Rattle.flow_core.specs.Driving.{templates, item_of}
use Rattle.flow_core.specs.Refusals.{between, newest_of}
use Rattle.flow_core.specs.declared.applying.Note.{Note}
use Rattle.flow_core.specs.declared.applying.Note.TheVariants as note
use Rattle.flow_core.specs.declared.state.Core.{Core}

-- the number of the next root
abbrev pub next_root : Core → ℕ
next_root c = c.roots + 1

-- what a START takes from the library: the newest version of its process, and the settings that are written for its
-- input
pub record IsNewestFor (c : Core) (process : Name) (written : List RawSetting) (version : ℕ)
    (settings : List Setting) : Type 0 where
  pub template : Template
  pub newest : newest_of c process ≡ Some template
  pub number : template.version ≡ version
  pub set : outcome_by (out-Graph template.graph).input None written ≡ Ok settings

-- a completion has the settings that its outcome writes for the output of the item
pub record IsSetFor (c : Core) (path : Path) (outcome : Outcome) (settings : List Setting) : Type 0 where
  pub item : Entry
  pub there : item_of c path ≡ Some item
  pub set : outcome_by item.activity.output outcome.rc outcome.settings ≡ Ok settings

-- a TAKE has the number of the next take of the item
pub record IsNextTake (c : Core) (path : Path) (take : ℕ) : Type 0 where
  pub item : Entry
  pub there : item_of c path ≡ Some item
  pub next : take ≡ next_take item.state

-- the transaction is the one that a command names in this state; what makes no transaction names none
abbrev pub IsFor : Core → Command → Transaction → Type 0
IsFor c (Import text) t = t ≡ made.Import text
IsFor c (Start process starter key written) t =
    (version : ℕ) × (settings : List Setting) × IsNewestFor c process written version settings
    × (t ≡ made.Start (next_root c) process version starter key settings)
IsFor c (Turn queue) t = (message : Message) × IsFront c queue message × (t ≡ made.Turn queue message)
IsFor c Drain t = ⊥
IsFor c (Claim token who) t = (path : Path) × Spells (between token) path × (t ≡ made.Claim path who)
IsFor c (Release token who) t = (path : Path) × Spells (between token) path × (t ≡ made.Release path who)
IsFor c (Transfer token who to) t = (path : Path) × Spells (between token) path × (t ≡ made.Transfer path who to)
IsFor c (Take token) t =
    (path : Path) × (take : ℕ) × Spells (between token) path × IsNextTake c path take × (t ≡ made.Take path take)
IsFor c (Done token who outcome) t =
    (path : Path) × (settings : List Setting) × Spells (between token) path × IsSetFor c path outcome settings
    × (t ≡ made.Done path who settings)
IsFor c (Force token outcome) t =
    (path : Path) × (settings : List Setting) × Spells (between token) path × IsSetFor c path outcome settings
    × (t ≡ made.Force path settings)
IsFor c (Restart token) t = (path : Path) × Spells (between token) path × (t ≡ made.Restart path)
IsFor c (Suspend root) t = t ≡ made.Suspend root
IsFor c (Resume root) t = t ≡ made.Resume root
IsFor c (Terminate root) t = t ≡ made.Terminate root
IsFor c (Delete root) t = t ≡ made.Delete root
IsFor c (Clock minutes) t = t ≡ made.Clock minutes.size
IsFor c Checkpoint t = ⊥
IsFor c (Ask query) t = ⊥

-- the fate of an item's activity as the state shows it; it waits where there is no such item
abbrev pub fate_now : Core → Path → Fate
fate_now c item = option_map_or (λ e. fate_of e.state) (item_of c item) fate.Waiting

-- what a reply names, by the states before and after its transaction: the number of processes that an Import adds, the
-- message
-- that a Turn takes, the take number of a Take, the fate that the activity of an item has then, the mode
abbrev pub IsNoteOf : Core → Transaction → Core → Note → Type 0
IsNoteOf c (made.Import text) c' n = n ≡ note.Imported (min (length (templates c') - length (templates c)) (2 ^ 32 - 1))
IsNoteOf c (made.Start root process version starter key settings) c' n = n ≡ note.Rooted root
IsNoteOf c (made.Turn queue message) c' n = IsFront c queue message → n ≡ note.Turned queue message
IsNoteOf c (made.Claim item who) c' n = n ≡ note.Fated (fate_now c' item)
IsNoteOf c (made.Release item who) c' n = n ≡ note.Fated (fate_now c' item)
IsNoteOf c (made.Transfer item who to) c' n = n ≡ note.Fated (fate_now c' item)
IsNoteOf c (made.Take item take) c' n = n ≡ note.Taken take
IsNoteOf c (made.Done item who settings) c' n = n ≡ note.Fated (fate_now c' item)
IsNoteOf c (made.Force item settings) c' n = n ≡ note.Fated (fate_now c' item)
IsNoteOf c (made.Restart item) c' n = n ≡ note.Fated (fate_now c' item)
IsNoteOf c (made.Suspend root) c' n = n ≡ note.Moded mode.Suspended
IsNoteOf c (made.Resume root) c' n = n ≡ note.Moded mode.Active
IsNoteOf c (made.Terminate root) c' n = n ≡ note.Moded mode.Terminated
IsNoteOf c (made.Delete root) c' n = n ≡ note.Deleted
IsNoteOf c (made.Clock minutes) c' n = n ≡ note.Clocked minutes
