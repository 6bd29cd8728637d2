-- What the proofs ask of a transaction; that each one that may be meets it is shown in `Making`.
use Rattle.std.specs.Prelude.{◌≡◌, ℕ, ◌≤◌, false, Some, List, length, slice_get}
use Rattle.activity_states.specs.States.{fate_of}
use Rattle.flow_core.specs.Answers.{instance_of}
use Rattle.flow_core.specs.Driving.{templates, item_of}
use Rattle.flow_core.specs.Facts.{start_settings}
use Rattle.flow_core.specs.Verdicts.{IsFront}
use Rattle.flow_core.specs.declared.state.Core.{Core}
use Rattle.flow_model.specs.ScopeContainers.{graph_of}
use Rattle.flow_model.specs.declared.graphs.Container.{Container}
use Rattle.flow_model.specs.declared.graphs.Graph.{Graph}
use Rattle.flow_model.specs.declared.instances.Message.{Message}
use Rattle.flow_model.specs.declared.instances.Path.{Path}
use Rattle.flow_model.specs.declared.instances.Phase.TheVariants.{Ended}
use Rattle.flow_model.specs.declared.transactions.Setting.{Setting}
use Rattle.flow_model.specs.declared.transactions.Transaction.{Transaction}
use Rattle.flow_model.specs.declared.transactions.Transaction.TheVariants.{Import, Start, Turn, Claim, Release, Transfer, Take, Done, Force, Restart, Suspend, Resume, Terminate, Delete, Clock}
use Rattle.library_laws.specs.Larger.{Agrees}
use Rattle.navigator.specs.Driven.{IsServedRoot}
use Rattle.navigator.specs.Items.{Entry, phase_of}
use Rattle.navigator.specs.declared.instance.Instance.{Instance}
use Rattle.recover_queue.specs.Queues.{root_of}
use Rattle.root_laws.specs.RightRoots.{root_in}
use Rattle.core_laws.specs.RightStates.{IsUnused}

-- an item that is there is open, and its root isn't terminated
abbrev pub IsOpen : Core → Path → Type 0
IsOpen c item =
    (i : Instance) (e : Entry) → instance_of c item.root ≡ Some i → item_of c item ≡ Some e
    → (i.terminated ≡ false) × (phase_of (fate_of e.state) e.attempt ≡ Ended → ⊥)

-- a root is new: its number is unused, what is started runs a process that is served, and its Start tells these settings
pub record IsNew (c : Core) (root : ℕ) (settings : List Setting) (c' : Core) : Type 0 where
  pub unused : IsUnused c root
  pub served : (i : Instance) → instance_of c' root ≡ Some i → (g : Graph) → graph_of (templates c) i.template ≡ Some g
      → (input : Container) → (depth : ℕ) × IsServedRoot (root_in (templates c) depth g input)
  pub told : start_settings root c'.live.items ≡ settings

-- the Start of a root that stays live is told as it was
abbrev pub KeepsStarts : Core → Core → Type 0
KeepsStarts c c' = (root : ℕ) (i i' : Instance) → instance_of c root ≡ Some i → instance_of c' root ≡ Some i' → start_settings root c'.live.items ≡ start_settings root c.live.items

-- these messages are all of one root
abbrev pub AreOf : ℕ → List Message → Type 0
AreOf root given = (k : ℕ) (m : Message) → slice_get given k ≡ Some m → root_of m ≡ root

-- a Turn takes the front of its queue, a completion is of an open item, and a Start is of a new root; what a Turn or a completion gives is of its root
abbrev pub IsAsked : Core → Transaction → List Message → Core → Type 0
IsAsked c (Import text) given c' = Unit {0}
IsAsked c (Start root process version starter key settings) given c' = IsNew c root settings c'
IsAsked c (Turn number message) given c' = IsFront c number message × AreOf (root_of message) given
IsAsked c (Claim item who) given c' = Unit {0}
IsAsked c (Release item who) given c' = Unit {0}
IsAsked c (Transfer item who to) given c' = Unit {0}
IsAsked c (Take item take) given c' = Unit {0}
IsAsked c (Done item who settings) given c' = IsOpen c item × AreOf item.root given
IsAsked c (Force item settings) given c' = IsOpen c item × AreOf item.root given
IsAsked c (Restart item) given c' = Unit {0}
IsAsked c (Suspend root) given c' = Unit {0}
IsAsked c (Resume root) given c' = Unit {0}
IsAsked c (Terminate root) given c' = Unit {0}
IsAsked c (Delete root) given c' = Unit {0}
IsAsked c (Clock minutes) given c' = Unit {0}

-- a transaction may be: what is asked of it is so, there is a queue, each template stays at its place in the library after it, and Starts are told as they were
pub record MayBe (c : Core) (t : Transaction) (given : List Message) (c' : Core) : Type 0 where
  pub asked : IsAsked c t given c'
  pub queued : 1 ≤ length c.queues
  pub library : Agrees (templates c) (templates c')
  pub starts : KeepsStarts c c'
