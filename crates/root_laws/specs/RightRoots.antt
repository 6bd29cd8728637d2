-- A root that is right: what it is after a run of its events, and which messages of it are queued.
use Rattle.std.specs.Prelude.{◌≡◌, ℕ, ◌==◌, Some, List, [], ◌++◌, map, drop, slice_get, if◌then◌else◌, IsTrue}
use Rattle.std.specs.List.{filter}
use Rattle.flow_model.specs.ScopeContainers.{graph_of}
use Rattle.flow_model.specs.declared.graphs.Container.{Container}
use Rattle.flow_model.specs.declared.graphs.Graph.{Graph}
use Rattle.flow_model.specs.declared.graphs.Template.{Template}
use Rattle.flow_model.specs.declared.instances.Message.{Message}
use Rattle.navigator.specs.Driven.{IsServedRoot}
use Rattle.navigator.specs.Showing.{note_in}
use Rattle.navigator.specs.Views.{Shows}
use Rattle.navigator.specs.declared.instance.Instance.{Instance}
use Rattle.view_laws.specs.LegalRuns.{IsLegal}
use Rattle.view_laws.specs.Messages.{Note}
use Rattle.view_laws.specs.Queues.{queue}
use Rattle.view_laws.specs.Runs.{Root, Event, is_stopped, running, has_started, seen, engine}

-- ---- messages in queues

-- the messages of a root that stand in each queue, the front first
abbrev pub Queued : Type 0
Queued = ℕ → List Message

-- no queue has a message of it
abbrev pub none_queued : Queued
none_queued n = []

-- the queues after messages are put, each at the back of its queue
abbrev pub after_put : (Message → ℕ) → List Message → Queued → Queued
after_put queue_of given queued n = queued n ++ filter (λ m. queue_of m == n) given

-- the queues after the front of one is taken
abbrev pub after_taken : ℕ → Queued → Queued
after_taken n queued k = if k == n then drop 1 (queued k) else queued k

-- each of these messages is put where the rule for the places of activities puts it
abbrev pub AgreesOn : List Template → Graph → (Message → ℕ) → (Note → ℕ) → List Message → Type 0
AgreesOn ts g queue_of q given = (k : ℕ) (m : Message) (note : Note) → slice_get given k ≡ Some m
    → note_in ts g m ≡ Some note → queue_of m ≡ q note

-- they are, by the places of their activities, what the run put there and didn't take
abbrev pub AreQueued : Root → (Note → ℕ) → List Event → Queued → Type 0
AreQueued r q h queued = (n : ℕ) → map (note_in r.templates r.graph) (queued n) ≡ map Some (queue (engine r q) h n)

-- ---- roots

-- a root of this library
abbrev pub root_in : List Template → ℕ → Graph → Container → Root
root_in ts depth g input = record { templates = ts; depth = depth; graph = g; input = input }

-- a root is right after a run on this input: the run may be, the state shows its view, and its messages stand in their
-- queues
pub record IsRight (ts : List Template) (q : Note → ℕ) (h : List Event) (queued : Queued) (input : Container)
    (i : Instance) : Type 0 where
  pub depth : ℕ
  pub graph : Graph
  pub process : graph_of ts i.template ≡ Some graph
  pub served : IsServedRoot (root_in ts depth graph input)
  pub legal : IsLegal (root_in ts depth graph input) q h
  pub started : IsTrue (has_started h)
  pub stopped : is_stopped h ≡ i.terminated
  pub shows : Shows ts depth (seen (running h)) graph input i.scope
  pub messages : AreQueued (root_in ts depth graph input) q h queued
