-- Laws of states: all their roots are right, and go on being right.
use Rattle.std.specs.Prelude.{◌≡◌, ℕ, suc, ◌+◌, ◌*◌, ◌<◌, ◌≤◌, false, Some, List, [], length, IsTrue}
use Rattle.blocks_subprocs.specs.Ends.{ends_of}
use Rattle.flow_core.specs.Allowing.{IsBlank}
use Rattle.flow_core.specs.Answers.{instance_of, mode_now}
use Rattle.flow_core.specs.Containing.{IsOutputOf}
use Rattle.flow_core.specs.Driving.{templates}
use Rattle.flow_core.specs.Facts.{accepted}
use Rattle.flow_core.specs.declared.state.Core.{Core}
use Rattle.flow_model.specs.Fates.{is_settled}
use Rattle.flow_model.specs.ScopeContainers.{graph_of}
use Rattle.flow_model.specs.Scopes.{output, tree_ends}
use Rattle.flow_model.specs.declared.graphs.Container.{Container}
use Rattle.flow_model.specs.declared.graphs.Graph.{Graph}
use Rattle.flow_model.specs.declared.graphs.Template.{Template}
use Rattle.flow_model.specs.declared.instances.Mode.TheVariants.{Done}
use Rattle.flow_model.specs.declared.transactions.Transaction.{Transaction}
use Rattle.navigator.specs.Serving.{Served}
use Rattle.navigator.specs.declared.instance.Instance.{Instance}
use Rattle.navigator.specs.declared.scopes.ScopeState.{out-ScopeState}
use Rattle.recover_queue.specs.Queues.{is_quiet}
use Rattle.template_check.specs.Built.{AreSound}
use Rattle.root_laws.specs.RightRoots.{AreQueued, root_in}
use Rattle.view_laws.specs.Laws.{IsNoteOnce}
use Rattle.view_laws.specs.Messages.{Note}
use Rattle.view_laws.specs.Queues.{spent}
use Rattle.view_laws.specs.TurnBound.{expanded_size}
use Rattle.core_laws.specs.RightStates.{messages_in, note_queue, input_now, known_now, runs_after, runs_at, IsRightRoot}
use Rattle.core_laws.specs.RightStates.{IsRightState, Makes}
use Rattle.view_laws.specs.Runs.{Root, Event, engine}

-- a blank state with a queue is right, before any event
abbrev pub BeginsRight : Type 0
BeginsRight = (c : Core) → IsBlank c → c.kept ≤ c.number → 1 ≤ length c.queues → IsRightState c (λ root. [])

-- it stays right with each transaction that may be: the run of its root goes on, all other roots have had the runs that
-- they had
abbrev pub StaysRight : Type 0
StaysRight = (c c' : Core) (t : Transaction) (runs : ℕ → List Event) → IsRightState c runs → Makes c t c'
    → IsRightState c' (runs_after c t runs)

-- so it does along a history, after each of its transactions
abbrev pub HistoriesAreRight : Type 0
HistoriesAreRight =
    (states : ℕ → Core) (made : ℕ → Transaction) (runs : ℕ → List Event) (count : ℕ) → IsRightState (states 0) runs
    → ((n : ℕ) → n < count → Makes (states n) (made n) (states (suc n)))
    → (n : ℕ) → n ≤ count → IsRightState (states n) (runs_at states made runs n)

-- each process of a sound library is served: its nesting ends, and each process activity has its process
abbrev pub ServedTogether : Type 0
ServedTogether = (ts : List Template) → AreSound ts → (t : ℕ) (g : Graph) → graph_of ts t ≡ Some g
    → (depth : ℕ) × Served ts depth g

-- whatever the state of a live root says of how an activity of its scope has ended is so by the accepted completions
-- that its live transactions tell, on the input that its Start tells, and by nothing else
abbrev pub RightStatesAreSound : Type 0
RightStatesAreSound =
    (c : Core) (runs : ℕ → List Event) (right : IsRightState c runs) (root : ℕ) (i : Instance)
    (live : instance_of c root ≡ Some i) (a : ℕ)
    → IsTrue (is_settled (ends_of (out-ScopeState i.scope).ends.items a))
    → ends_of (out-ScopeState i.scope).ends.items a
    ≡ tree_ends (templates c) (right.are root i live).right.depth (known_now c root) (right.are root i live).right.graph
    (input_now c root) a

-- where all queues are empty, and the root isn't terminated, it says all that the completions tell
abbrev pub QuietStatesAreWhole : Type 0
QuietStatesAreWhole =
    (c : Core) (runs : ℕ → List Event) (right : IsRightState c runs) (root : ℕ) (i : Instance)
    (live : instance_of c root ≡ Some i) (a : ℕ)
    → i.terminated ≡ false → IsTrue (is_quiet c.queues)
    → ends_of (out-ScopeState i.scope).ends.items a
    ≡ tree_ends (templates c) (right.are root i live).right.depth (known_now c root) (right.are root i live).right.graph
    (input_now c root) a

-- the container that OUTPUT shows of a root that is done is the output of the recursion by the completions alone
abbrev pub DoneOutputsAreRight : Type 0
DoneOutputsAreRight =
    (c : Core) (runs : ℕ → List Event) (right : IsRightState c runs) (root : ℕ) (i : Instance)
    (live : instance_of c root ≡ Some i) (out : Container)
    → mode_now i ≡ Done → IsOutputOf (templates c) (right.are root i live).right.graph i out
    → output (templates c) (suc (right.are root i live).right.depth) (known_now c root)
    (right.are root i live).right.graph (input_now c root) ≡ Some out

-- the run of a live root, as its queues are numbered
abbrev pub root_of : (c : Core) (root : ℕ) (h : List Event) (i : Instance) → IsRightRoot c root h i → Root
root_of c root h i is = root_in (templates c) is.right.depth is.right.graph (input_now c root)

-- each message of a live root was put at most once since its start, and was then taken once or stands once in its
-- queue; and what stands in the queues of the state is what its run put there and didn't take
abbrev pub MessagesAreOnce : Type 0
MessagesAreOnce =
    (c : Core) (runs : ℕ → List Event) (right : IsRightState c runs) (root : ℕ) (i : Instance)
    (live : instance_of c root ≡ Some i)
    → ((m : Note) → IsNoteOnce (root_of c root (runs root) i (right.are root i live)) (note_queue c root) (runs root) m)
    × AreQueued (root_of c root (runs root) i (right.are root i live)) (note_queue c root) (runs root)
    (messages_in c.queues root)

-- the messages that it has taken are at most the expanded size of its process, times one more than its accepted
-- completions
abbrev pub TurnsAreBounded : Type 0
TurnsAreBounded =
    (c : Core) (runs : ℕ → List Event) (right : IsRightState c runs) (root : ℕ) (i : Instance)
    (live : instance_of c root ≡ Some i)
    → length (spent (engine (root_of c root (runs root) i (right.are root i live)) (note_queue c root)) (runs root))
    ≤ expanded_size (templates c) (right.are root i live).right.depth (right.are root i live).right.graph *
    (1 + length (accepted c root))
