-- Laws of the run of a root, with blocks and subprocesses, to any depth, whatever the order of its events.
use Rattle.std.specs.Prelude.{◌≡◌, ℕ, suc, ◌+◌, ◌≤◌, false, Some, List, [], ◌∷◌, length, IsTrue}
use Rattle.flow_model.specs.declared.graphs.Container.{Container}
use Rattle.flow_model.specs.declared.graphs.Graph.{Graph}
use Rattle.flow_model.specs.declared.graphs.Template.{Template}
use Rattle.flow_model.specs.declared.instances.Part.{Part}
use Rattle.flow_model.specs.Fates.{is_settled}
use Rattle.flow_model.specs.Rows.{output_of}
use Rattle.flow_model.specs.Scopes.{Known, output, tree_ends, tree_fate}
use Rattle.fate_laws.specs.Causes.{HasFactBelow}
use Rattle.fate_laws.specs.StartedScopes.{AtScope}
use Rattle.fate_laws.specs.WellFormed.{Well}
use Rattle.view_laws.specs.Messages.{Note}
use Rattle.view_laws.specs.Queues.{times, all_put, spent, queue, TakesFronts}
use Rattle.view_laws.specs.Runs.{Root, Event, is_stopped, running, has_started, facts, seen, fated, due, engine}
use Rattle.view_laws.specs.ScopeFacts.{IsSound, IsExact, IsRight, IsReached, AreStarted}

-- ---- stability

-- what is settled in the view of the root's scope stays as it is
abbrev pub ViewStays : Type 0
ViewStays =
    (r : Root) (e : Event) (h : List Event) (a : ℕ)
    → IsTrue (is_settled (tree_ends r.templates r.depth (seen (running h)) r.graph r.input a))
    → tree_ends r.templates r.depth (seen (running (e ∷ h))) r.graph r.input a
    ≡ tree_ends r.templates r.depth (seen (running h)) r.graph r.input a

-- and so does its fate
abbrev pub ViewFatesStay : Type 0
ViewFatesStay =
    (r : Root) (e : Event) (h : List Event) (a : ℕ)
    → IsTrue (is_settled (tree_ends r.templates r.depth (seen (running h)) r.graph r.input a))
    → tree_fate r.templates r.depth (seen (running (e ∷ h))) r.graph r.input a
    ≡ tree_fate r.templates r.depth (seen (running h)) r.graph r.input a

-- what is due stays due
abbrev pub DueStays : Type 0
DueStays =
    (r : Root) (q : Note → ℕ) (e : Event) (h : List Event) (m : Note)
    → times (engine r q) (due r h) m ≤ times (engine r q) (due r (e ∷ h)) m

-- ---- exactly once

-- the message is put at most once, and each that was put was taken once or stands once in its queue
pub record IsNoteOnce (r : Root) (q : Note → ℕ) (h : List Event) (m : Note) : Type 0 where
  pub put_once : times (engine r q) (all_put (engine r q) h) m ≤ 1
  pub queued_or_taken : times (engine r q) (all_put (engine r q) h) m
      ≡ times (engine r q) (spent (engine r q) h) m + times (engine r q) (queue (engine r q) h (q m)) m

-- so it is of every message, where messages are taken from the fronts of queues
abbrev pub ExactlyOnce : Type 0
ExactlyOnce = (r : Root) (q : Note → ℕ) (h : List Event) (m : Note) → Well r.templates r.depth r.graph
    → TakesFronts (engine r q) h → IsNoteOnce r q h m

-- ---- soundness

-- how an activity of the root's scope is shown to have ended is so by the completions alone
abbrev pub Soundness : Type 0
Soundness =
    (r : Root) (q : Note → ℕ) (h : List Event) (a : ℕ) → Well r.templates r.depth r.graph → TakesFronts (engine r q) h
    → IsTrue (is_settled (tree_ends r.templates r.depth (seen (running h)) r.graph r.input a))
    → tree_ends r.templates r.depth (fated (running h)) r.graph r.input a
    ≡ tree_ends r.templates r.depth (seen (running h)) r.graph r.input a

-- the same in every scope that has started
abbrev pub SoundnessBelow : Type 0
SoundnessBelow =
    (r : Root) (q : Note → ℕ) (h : List Event) (path : List Part) → Well r.templates r.depth r.graph
    → TakesFronts (engine r q) h
    → AtScope (IsSound r.templates) r.templates r.depth (seen (running h)) r.graph r.input path

-- in every scope that has started, the fate of what is settled, and of a program activity that no longer waits, is so
-- by the completions alone
abbrev pub ShownFatesRight : Type 0
ShownFatesRight =
    (r : Root) (q : Note → ℕ) (h : List Event) (path : List Part) → Well r.templates r.depth r.graph
    → TakesFronts (engine r q) h
    → AtScope (IsRight r.templates) r.templates r.depth (seen (running h)) r.graph r.input path

-- in every scope that has started, the attempts that have started are those by the completions alone, on the same
-- inputs
abbrev pub StartedReached : Type 0
StartedReached =
    (r : Root) (q : Note → ℕ) (h : List Event) (path : List Part) → Well r.templates r.depth r.graph
    → TakesFronts (engine r q) h
    → AtScope (IsReached r.templates) r.templates r.depth (seen (running h)) r.graph r.input path

-- whatever is known, the attempts that have started are those that start, the newest too, which has given nothing yet
abbrev pub StartedListed : Type 0
StartedListed = (ts : List Template) (depth : ℕ) (k : Known) (g : Graph) (i : Container) → AreStarted ts depth k g i

-- ---- quiescence

-- every fate in the root's scope is that by the completions alone, and so is how each activity has ended
pub record IsQuietView (r : Root) (h : List Event) : Type 0 where
  pub fates : (a : ℕ) → tree_fate r.templates r.depth (seen h) r.graph r.input a
      ≡ tree_fate r.templates r.depth (fated h) r.graph r.input a
  pub ends : (a : ℕ) → tree_ends r.templates r.depth (seen h) r.graph r.input a
      ≡ tree_ends r.templates r.depth (fated h) r.graph r.input a

-- a root that has started and was not stopped, with no message in any queue
pub record IsQuiet (r : Root) (q : Note → ℕ) (h : List Event) : Type 0 where
  pub legal : TakesFronts (engine r q) h
  pub started : IsTrue (has_started h)
  pub runs : is_stopped h ≡ false
  pub empty : (n : ℕ) → queue (engine r q) h n ≡ []

abbrev pub Quiescence : Type 0
Quiescence = (r : Root) (q : Note → ℕ) (h : List Event) → Well r.templates r.depth r.graph → IsQuiet r q h
    → IsQuietView r h

-- the same in every scope that has started
abbrev pub QuiescenceBelow : Type 0
QuiescenceBelow =
    (r : Root) (q : Note → ℕ) (h : List Event) (path : List Part) → Well r.templates r.depth r.graph → IsQuiet r q h
    → AtScope (IsExact r.templates) r.templates r.depth (seen h) r.graph r.input path

-- two quiet runs with the same outputs for all items and as many completions show the same, whatever the orders of
-- turns, holds and completions
abbrev pub OrderFree : Type 0
OrderFree =
    (r : Root) (q q' : Note → ℕ) (h h' : List Event) → Well r.templates r.depth r.graph → IsQuiet r q h
    → IsQuiet r q' h'
    → length (facts h) ≡ length (facts h') → ((p : List Part) → output_of (facts h) p ≡ output_of (facts h') p)
    → (a : ℕ) → tree_fate r.templates r.depth (seen h) r.graph r.input a
    ≡ tree_fate r.templates r.depth (seen h') r.graph r.input a

-- ---- causes

-- a root that is complete in the view has a completion
abbrev pub CompleteRunHasFact : Type 0
CompleteRunHasFact =
    (r : Root) (h : List Event) (out : Container) → Well r.templates r.depth r.graph
    → output r.templates (suc r.depth) (seen h) r.graph r.input ≡ Some out → HasFactBelow (facts h) []
