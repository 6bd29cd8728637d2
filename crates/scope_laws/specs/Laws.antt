-- Laws of the scopes inside the live roots of a right state, at every depth.
use Rattle.std.specs.Prelude.{◌≡◌, ℕ, false, Some, List, length, IsTrue}
use Rattle.blocks_subprocs.specs.Ends.{ends_of}
use Rattle.core_laws.specs.RightStates.{input_now, known_now, IsRightState, IsRightCore}
use Rattle.flow_core.specs.Answers.{instance_of}
use Rattle.flow_core.specs.Driving.{graph_now, templates}
use Rattle.flow_core.specs.Facts.{accepted}
use Rattle.flow_core.specs.declared.state.Core.{Core}
use Rattle.flow_model.specs.Rows.{output_of}
use Rattle.flow_model.specs.Scopes.{tree_ends}
use Rattle.flow_model.specs.declared.instances.Part.{Part}
use Rattle.navigator.specs.Items.{Stand, stand}
use Rattle.navigator.specs.declared.instance.Instance.{Instance}
use Rattle.navigator.specs.declared.scopes.ScopeState.{out-ScopeState}
use Rattle.recover_queue.specs.Queues.{is_quiet, count_of_root}
use Rattle.scope_laws.specs.Scopes.{scope_at, LeadsTo, IsStartedScope, SaysRight, SaysAll}
use Rattle.view_laws.specs.Runs.{Event}

-- each scope that the state of a live root has is one that its accepted completions alone start, and whatever it says
-- of how its activities have ended is so by them
abbrev pub ScopesAreSound : Type 0
ScopesAreSound =
    (c : Core) (runs : ℕ → List Event) (right : IsRightState c runs) (root : ℕ) (i : Instance)
    (live : instance_of c root ≡ Some i) (parts : List Part) (here : Stand)
    → scope_at (templates c) parts (stand (right.are root i live).right.graph i.scope) ≡ Some here
    → LeadsTo (SaysRight (templates c) here) (templates c) (right.are root i live).right.depth (known_now c root)
    (right.are root i live).right.graph (input_now c root) parts

-- no message of a root is queued
abbrev pub IsQuietRoot : Core → ℕ → Type 0
IsQuietRoot c root = count_of_root root c.queues ≡ 0

-- so it is of each root where all queues are empty
abbrev pub QuietStatesHaveQuietRoots : Type 0
QuietStatesHaveQuietRoots = (c : Core) (root : ℕ) → IsTrue (is_quiet c.queues) → IsQuietRoot c root

-- where no message of a root is queued, and it isn't terminated, its state says all that its completions tell, whatever
-- is queued of other roots
abbrev pub QuietRootsSayAll : Type 0
QuietRootsSayAll =
    (c : Core) (runs : ℕ → List Event) (right : IsRightState c runs) (root : ℕ) (i : Instance)
    (live : instance_of c root ≡ Some i) (a : ℕ) → i.terminated ≡ false → IsQuietRoot c root
    → ends_of (out-ScopeState i.scope).ends.items a
    ≡ tree_ends (templates c) (right.are root i live).right.depth (known_now c root) (right.are root i live).right.graph
    (input_now c root) a

-- so it says all that they tell of a scope inside it
abbrev pub QuietScopesAreWhole : Type 0
QuietScopesAreWhole =
    (c : Core) (runs : ℕ → List Event) (right : IsRightState c runs) (root : ℕ) (i : Instance)
    (live : instance_of c root ≡ Some i) (parts : List Part) (here : Stand)
    → i.terminated ≡ false → IsQuietRoot c root
    → scope_at (templates c) parts (stand (right.are root i live).right.graph i.scope) ≡ Some here
    → LeadsTo (SaysAll (templates c) here) (templates c) (right.are root i live).right.depth (known_now c root)
    (right.are root i live).right.graph (input_now c root) parts

-- and each scope that the completions alone start is there
abbrev pub QuietScopesAreThere : Type 0
QuietScopesAreThere =
    (c : Core) (runs : ℕ → List Event) (right : IsRightState c runs) (root : ℕ) (i : Instance)
    (live : instance_of c root ≡ Some i) (parts : List Part)
    → i.terminated ≡ false → IsQuietRoot c root
    → IsStartedScope (templates c) (right.are root i live).right.depth (known_now c root)
    (right.are root i live).right.graph (input_now c root) parts
    → (here : Stand) × (scope_at (templates c) parts (stand (right.are root i live).right.graph i.scope) ≡ Some here)

-- ---- the order of events

-- two roots, each of a state of its own, are of one case: they run the same graph on the same input, and have equally
-- many accepted completions, which give each item the same output
pub record AreOfOneCase (c : Core) (root : ℕ) (c' : Core) (root' : ℕ) : Type 0 where
  pub library : templates c' ≡ templates c
  pub graph : graph_now c' root' ≡ graph_now c root
  pub input : input_now c' root' ≡ input_now c root
  pub count : length (accepted c' root') ≡ length (accepted c root)
  pub outputs : (parts : List Part) → output_of (accepted c' root') parts ≡ output_of (accepted c root) parts

-- two such roots of right states have ended alike, where neither is terminated and no message of them is queued:
-- whatever the order of turns, claims and completions was, and whatever became of other roots
abbrev pub QuietRootsAreOrderFree : Type 0
QuietRootsAreOrderFree =
    (c c' : Core) (root root' : ℕ) (i i' : Instance) → IsRightCore c → IsRightCore c' → instance_of c root ≡ Some i
    → instance_of c' root' ≡ Some i' → AreOfOneCase c root c' root' → i.terminated ≡ false → i'.terminated ≡ false
    → IsQuietRoot c root → IsQuietRoot c' root' → (a : ℕ)
    → ends_of (out-ScopeState i'.scope).ends.items a ≡ ends_of (out-ScopeState i.scope).ends.items a
