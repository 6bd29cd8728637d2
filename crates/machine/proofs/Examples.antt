-- A history, computed step by step: a process with a subprocess and a program behind it, with a key that is used,
-- deleted and used again. It inhabits the definitions: a blank state, an Import, a Start, turns, a Claim, a completion,
-- a Clock, a Terminate and a Delete.
use Rattle.std.proofs.Common.{◌≡◌, ℕ, Bool, true, false, Option, Some, None, option_map, List, [], ◌∷◌, map, refl}
use Rattle.activity_states.specs.States.{fate_of, hold_of}
use Rattle.flow_model.specs.declared.graphs.DoneBy.TheVariants.{Starter}
use Rattle.flow_model.specs.declared.graphs.Graph.{Graph, out-Graph, roll-Graph}
use Rattle.flow_model.specs.declared.graphs.Join.TheVariants as join
use Rattle.flow_model.specs.declared.graphs.Leaves.{Leaves}
use Rattle.flow_model.specs.declared.graphs.When.TheVariants.{Always}
use Rattle.flow_model.specs.declared.graphs.Work.{Work, Program, Process}
use Rattle.flow_model.specs.declared.graphs.Work.TheBlock.{shown-the_row-Activity-0}
use Rattle.flow_model.specs.declared.instances.Fate.{Fate}
use Rattle.flow_model.specs.declared.instances.Fate.TheVariants as fates
use Rattle.flow_model.specs.declared.instances.Hold.{Hold}
use Rattle.flow_model.specs.declared.instances.Hold.TheVariants as hold
use Rattle.flow_model.specs.declared.instances.Message.TheVariants.{Begin, Signal, End}
use Rattle.flow_model.specs.declared.instances.Part.{Part}
use Rattle.flow_model.specs.declared.instances.Path.{Path}
use Rattle.flow_model.specs.declared.instances.Who.TheVariants as who
use Rattle.flow_model.specs.declared.names.Name.{Name}
use Rattle.flow_model.specs.declared.transactions.Numbered.{Numbered}
use Rattle.flow_model.specs.declared.transactions.Transaction.{Transaction}
use Rattle.flow_model.specs.declared.transactions.Transaction.TheVariants.{Import, Start, Turn, Claim, Done}
use Rattle.flow_model.specs.declared.transactions.Transaction.TheVariants.{Terminate, Delete, Clock}
use Rattle.machine.specs.Imports.{Added, nothing_added}
use Rattle.machine.specs.Items.{Entry}
use Rattle.machine.specs.Rows.{Stage, Runs, Ended, Standing, Item, Inner, Row}
use Rattle.machine.specs.States.{Root, State, blank, item_of, root_with_key}
use Rattle.machine.specs.Steps.{after, Steps}
use denote.Hole.Carrier

-- ---- the library

-- graphs are opened for the computation
unfoldable pub opened : Unit {0}
unfolding roll-Graph out-Graph Carrier.out Carrier.roll Carrier.shown Carrier.hidden shown-the_row-Activity-0
opened = tt

abbrev no_leaf : Leaves
no_leaf = record { leaves = [] }

abbrev program : Work
program = Program record { manual = true; by = Starter; expires = None }

-- one program activity X
abbrev inner : Graph
inner = roll-Graph record {
  input = no_leaf;
  output = no_leaf;
  activities =
      record { name = 88 ∷ []; work = program; input = no_leaf; output = no_leaf; join = join.All; exit = None } ∷ [];
  controls = [];
  lines = [];
  loops = [];
  wiring = record {
    order = 0 ∷ [];
    incoming = [] ∷ [];
    outgoing = [] ∷ [];
    feeding = [] ∷ [];
    sinking = [];
    looping = [] ∷ [];
  };
}

-- a process activity A, and a program activity B behind it
abbrev outer : Graph
outer = roll-Graph record {
  input = no_leaf;
  output = no_leaf;
  activities =
      record { name = 65 ∷ []; work = Process 0; input = no_leaf; output = no_leaf; join = join.All; exit = None }
      ∷ record { name = 66 ∷ []; work = program; input = no_leaf; output = no_leaf; join = join.All; exit = None }
      ∷ [];
  controls = record { from = 0; to = 1; when = Always } ∷ [];
  lines = [];
  loops = [];
  wiring = record {
    order = 0 ∷ 1 ∷ [];
    incoming = [] ∷ (0 ∷ []) ∷ [];
    outgoing = (0 ∷ []) ∷ [] ∷ [];
    feeding = [] ∷ [] ∷ [];
    sinking = [];
    looping = [] ∷ [] ∷ [];
  };
}

abbrev ann : Name
ann = 97 ∷ []

abbrev key : Name
key = 107 ∷ []

-- the processes Q and P, and a person
abbrev added : Added
added = record {
  templates =
      record { name = 81 ∷ []; version = 1; graph = inner; depth = 1; size = 2 }
      ∷ record { name = 80 ∷ []; version = 1; graph = outer; depth = 2; size = 5 } ∷ [];
  people = record { name = ann; roles = [] } ∷ [];
}

-- ---- paths

abbrev part_of : ℕ → ℕ → Part
part_of letter attempt = record { name = letter ∷ []; attempt = attempt }

abbrev path_of : List Part → Path
path_of parts = record { root = 1; parts = parts }

abbrev scope_a : Path
scope_a = path_of (part_of 65 1 ∷ [])

abbrev item_x : Path
item_x = path_of (part_of 65 1 ∷ part_of 88 1 ∷ [])

abbrev item_b : Path
item_b = path_of (part_of 66 1 ∷ [])

-- ---- the history

abbrev then_does : State → Transaction → State
then_does s t = after nothing_added t s

abbrev starts : ℕ → Transaction
starts root = Start root (80 ∷ []) 1 ann (Some key) []

abbrev imported : State
imported = after added (Import []) (blank 1 100)

abbrev started : State
started = then_does imported (starts 1)

abbrev begun : State
begun = then_does started (Turn 1 (Begin (path_of [])))

abbrev inside : State
inside = then_does begun (Turn 1 (Begin scope_a))

abbrev claimed : State
claimed = then_does inside (Claim item_x ann)

abbrev completed : State
completed = then_does claimed (Done item_x (who.Person ann) [])

abbrev ended : State
ended = then_does completed (Turn 1 (End scope_a))

abbrev signalled : State
signalled = then_does ended (Turn 1 (Signal (path_of []) (65 ∷ []) (66 ∷ []) true))

abbrev later : State
later = then_does signalled (Clock 7)

abbrev terminated : State
terminated = then_does later (Terminate 1)

abbrev deleted : State
deleted = then_does terminated (Delete 1)

abbrev again : State
again = then_does deleted (starts 2)

-- ---- what is so after each step

abbrev fate_at : State → Path → Option Fate
fate_at s item = option_map (λ (e : Entry). fate_of e.state) (item_of s item)

abbrev hold_at : State → Path → Option Hold
hold_at s item = option_map (λ (e : Entry). hold_of e.state) (item_of s item)

-- a blank state has nothing
blank_roots : (blank 1 100).roots 1 ≡ None
blank_roots = refl

-- an Import adds its templates and its people
people_imported : imported.library.people ≡ record { name = ann; roles = [] } ∷ []
people_imported = refl

imported_is_a_count : imported.transactions ≡ 1
imported_is_a_count = refl

-- a Start puts the BEGIN of its root, counts the root and uses the key
started_queues : started.queues ≡ (Begin (path_of []) ∷ []) ∷ []
unfolding opened
started_queues = refl

started_last : started.last_root ≡ 1
started_last = refl

key_used : root_with_key key started.live ≡ Some 1
key_used = refl

-- the first turn opens A: an attempt with no completion yet has its scope, whose BEGIN is queued
begun_queues : begun.queues ≡ (Begin scope_a ∷ []) ∷ []
unfolding opened
begun_queues = refl

-- the stage of a block or process activity, with the number of its scopes
abbrev nested_at : Standing → Option (Stage × ℕ)
nested_at (Item p) = None
nested_at (Inner stage n) = Some (stage, n)

-- the states of the activities of a scope
abbrev standings_at : List (ℕ × ℕ) → Option Root → Option (List Standing)
standings_at steps None = None
standings_at steps (Some r) = option_map (λ (row : Row). row.standings) (r.scopes steps)

-- (A runs its first attempt, and B waits; the scope of the attempt hasn't begun)
-- of each activity its stage, if it is no program
abbrev nested_in : Option (List Standing) → List (Option (Stage × ℕ))
nested_in None = []
nested_in (Some standings) = map nested_at standings

-- whether a scope that is there has begun
abbrev begun_by : List (ℕ × ℕ) → Option Root → Option Bool
begun_by steps None = None
begun_by steps (Some r) = option_map (λ (row : Row). row.begun) (r.scopes steps)

begun_standings : nested_in (standings_at [] (begun.roots 1)) ≡ Some (Runs, 1) ∷ None ∷ []
unfolding opened
begun_standings = refl

begun_root : begun_by [] (begun.roots 1) ≡ Some true
unfolding opened
begun_root = refl

begun_attempt : begun_by ((0, 0) ∷ []) (begun.roots 1) ≡ Some false
unfolding opened
begun_attempt = refl

-- no scope is where no attempt was
begun_no_more : begun_by ((0, 1) ∷ []) (begun.roots 1) ≡ None
unfolding opened
begun_no_more = refl

-- the second turn makes X ready
ready : fate_at inside item_x ≡ Some (fates.Ready 1)
unfolding opened
ready = refl

no_queue_left : inside.queues ≡ [] ∷ []
unfolding opened
no_queue_left = refl

-- a Claim changes the hold of its item, and nothing else of the queues
held : hold_at claimed item_x ≡ Some (hold.Person ann)
unfolding opened
held = refl

-- a completion finishes X, which was the last activity of its scope
finished : fate_at completed item_x ≡ Some (fates.Finished 1)
unfolding opened
finished = refl

ended_queued : completed.queues ≡ (End scope_a ∷ []) ∷ []
unfolding opened
ended_queued = refl

-- the END finishes A, and its signal makes B ready
ended_standings : nested_in (standings_at [] (ended.roots 1)) ≡ Some (Ended, 1) ∷ None ∷ []
unfolding opened
ended_standings = refl

signal_queued : ended.queues ≡ (Signal (path_of []) (65 ∷ []) (66 ∷ []) true ∷ []) ∷ []
unfolding opened
signal_queued = refl

b_ready : fate_at signalled item_b ≡ Some (fates.Ready 1)
unfolding opened
b_ready = refl

-- a Clock sets the clock, and is live
clock_set : later.clock ≡ 7
clock_set = refl

clock_kept : terminated.clock ≡ 7
clock_kept = refl

-- a Delete takes the root, its key and the transactions about it; the Import and the Clock stay
root_gone : deleted.roots 1 ≡ None
root_gone = refl

key_free : root_with_key key deleted.live ≡ None
key_free = refl

live_left : map (λ (n : Numbered). n.number) deleted.live ≡ 1 ∷ 9 ∷ []
live_left = refl

transactions_so_far : deleted.transactions ≡ 11
transactions_so_far = refl

-- the key is used again, by the next root
key_again : root_with_key key again.live ≡ Some 2
key_again = refl

last_root_again : again.last_root ≡ 2
last_root_again = refl

-- ---- the step

-- each of these is a step; of a Clock, for example
clock_steps : Steps signalled (Clock 7) later
clock_steps = record { added = nothing_added; adds = refl; next = refl }

delete_steps : Steps terminated (Delete 1) deleted
delete_steps = record { added = nothing_added; adds = refl; next = refl }
