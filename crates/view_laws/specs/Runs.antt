-- The run of one root: its events, the newest first, what is known after them, and what is due.
use Rattle.std.specs.Prelude.{ℕ, ◌==◌, Bool, true, false, ◌&&◌, if◌then◌else◌, Option, Some, None, List, [], ◌∷◌, ◌++◌}
use Rattle.std.specs.Prelude.{length}
use Rattle.std.specs.List.{list_any}
use Rattle.std.specs.Option.{option_or}
use Rattle.flow_model.specs.declared.graphs.Container.{Container}
use Rattle.flow_model.specs.declared.graphs.Graph.{Graph}
use Rattle.flow_model.specs.declared.graphs.Template.{Template}
use Rattle.flow_model.specs.declared.instances.Fact.{Fact}
use Rattle.flow_model.specs.declared.instances.Part.{Part}
use Rattle.flow_model.specs.Rows.{same_parts, output_of, by_facts}
use Rattle.flow_model.specs.Scopes.{Known}
use Rattle.view_laws.specs.Messages.{Note, BeginNote, SignalNote, EndNote, due_in, same_note}
use Rattle.view_laws.specs.Queues.{Engine}

-- ---- events

-- a start, a message taken, an accepted completion, an item held or given back, a termination
pub data Event : Type 0 where
  Started : Event
  Turned : Note → Event
  Completed : Fact → Event
  Held : List Part → Bool → Event
  Stopped : Event

abbrev pub is_stopped : List Event → Bool
is_stopped [] = false
is_stopped (Stopped ∷ h) = true
is_stopped (Started ∷ h) = is_stopped h
is_stopped (Turned m ∷ h) = is_stopped h
is_stopped (Completed f ∷ h) = is_stopped h
is_stopped (Held p b ∷ h) = is_stopped h

-- the run up to where it was stopped
abbrev pub running : List Event → List Event
running [] = []
running (e ∷ h) = if is_stopped h then running h else e ∷ h

abbrev pub has_started : List Event → Bool
has_started [] = false
has_started (Started ∷ h) = true
has_started (Turned m ∷ h) = has_started h
has_started (Completed f ∷ h) = has_started h
has_started (Held p b ∷ h) = has_started h
has_started (Stopped ∷ h) = has_started h

-- the messages taken, the oldest first
abbrev pub taken : List Event → List Note
taken [] = []
taken (Turned m ∷ h) = taken h ++ m ∷ []
taken (Started ∷ h) = taken h
taken (Completed f ∷ h) = taken h
taken (Held p b ∷ h) = taken h
taken (Stopped ∷ h) = taken h

-- the accepted completions, the oldest first
abbrev pub facts : List Event → List Fact
facts [] = []
facts (Completed f ∷ h) = facts h ++ f ∷ []
facts (Turned m ∷ h) = facts h
facts (Started ∷ h) = facts h
facts (Held p b ∷ h) = facts h
facts (Stopped ∷ h) = facts h

-- ---- what is known

abbrev pub has_note : List Note → Note → Bool
has_note ms m = list_any (same_note m) ms

-- the truth that a SIGNAL tells of this connector
abbrev pub told_by : Note → List Part → ℕ → ℕ → Option Bool
told_by (BeginNote q) p a b = None
told_by (SignalNote q c d v) p a b = if same_parts q p && (c == a) && (d == b) then Some v else None
told_by (EndNote q) p a b = None

-- the truth that the first SIGNAL of this connector tells
abbrev pub told : List Note → List Part → ℕ → ℕ → Option Bool
told [] p a b = None
told (m ∷ ms) p a b = option_or (told_by m p a b) (told ms p a b)

-- what counts by the messages taken and the completions
abbrev pub known : List Note → List Fact → Known
known ms fs = record {
  most = length fs;
  begun = λ p. has_note ms (BeginNote p);
  closed = λ p. has_note ms (EndNote p);
  sent = λ p a b v. told ms p a b;
  given = λ p. output_of fs p;
}

-- what counts after a run
abbrev pub seen : List Event → Known
seen h = known (taken h) (facts h)

-- what the completions of a run alone tell
abbrev pub fated : List Event → Known
fated h = by_facts (length (facts h)) (facts h)

-- ---- one root

-- its templates, its graph and its input, and a bound of its depth
pub record Root : Type 0 where
  pub templates : List Template
  pub depth : ℕ
  pub graph : Graph
  pub input : Container

abbrev pub due_now : Root → List Event → List Note
due_now r h = (if has_started h then BeginNote [] ∷ [] else []) ++ due_in r.templates r.depth (seen h) r.graph r.input

-- nothing becomes due once the run was stopped
abbrev pub due : Root → List Event → List Note
due r h = due_now r (running h)

-- the message that an event takes
abbrev pub turned : Event → Option Note
turned Started = None
turned (Turned m) = Some m
turned (Completed f) = None
turned (Held p b) = None
turned Stopped = None

-- SIGNALs are put first, then BEGINs, then ENDs
abbrev pub kind : Note → ℕ
kind (SignalNote p a b v) = 0
kind (BeginNote p) = 1
kind (EndNote p) = 2

-- the root, with its messages in queues by any rule
abbrev pub engine : Root → (Note → ℕ) → Engine Note Event
engine r queue_of = record { same = same_note; due = due r; turned = turned; kind = kind; queue_of = queue_of }
