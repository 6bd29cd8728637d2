-- The item of a path, in the scopes of a root.
use Rattle.std.specs.Prelude.{ℕ, nat_le, ◌&&◌, if◌then◌else◌, Option, Some, None, List}
use Rattle.std.specs.Prelude.{[], ◌∷◌, slice_get, option_and_then}
use Rattle.activity_states.specs.States.{State, fate_of}
use Rattle.flow_model.specs.declared.graphs.Activity.{Activity}
use Rattle.flow_model.specs.declared.graphs.Graph.{Graph, out-Graph}
use Rattle.flow_model.specs.declared.graphs.Program.{Program as ProgramOf}
use Rattle.flow_model.specs.declared.graphs.Template.{Template}
use Rattle.flow_model.specs.declared.graphs.Work.{Work, Program, Block, Process}
use Rattle.flow_model.specs.declared.instances.Fate.{Fate}
use Rattle.flow_model.specs.declared.instances.Fate.TheVariants as fates
use Rattle.flow_model.specs.declared.instances.Part.{Part}
use Rattle.machine.specs.Rows.{Standing, Item, Inner, Row, Scopes, inside, place_of, attempt_place}
use Rattle.machine.specs.Moves.{graph_under}

-- the scopes of an attempt, with the graph that it runs
pub record Stand : Type 0 where
  pub graph : Graph
  pub scopes : Scopes

-- an item: what stands in its scope, the place of its activity, the activity, its state and the attempt
pub record Entry : Type 0 where
  pub graph : Graph
  pub row : Row
  pub number : ℕ
  pub activity : Activity
  pub state : State
  pub attempt : ℕ

-- the attempts that have been made
abbrev pub attempts_in : Fate → ℕ
attempts_in fates.Waiting = 0
attempts_in (fates.Ready j) = j
attempts_in (fates.Running j) = j
attempts_in (fates.Finished j) = j
attempts_in fates.Dead = 0

-- an attempt of a program activity is an item from its first attempt up to the newest one
abbrev pub entry_of : Graph → Row → ℕ → ℕ → Option Activity → Option Standing → Option Entry
entry_of g r j a None state = None
entry_of g r j a (Some activity) None = None
entry_of g r j a (Some activity) (Some (Inner stage n)) = None
entry_of g r j a (Some activity) (Some (Item p)) =
    if nat_le 1 j && nat_le j (attempts_in (fate_of p)) then Some (record {
      graph = g;
      row = r;
      number = a;
      activity = activity;
      state = p;
      attempt = j;
    }) else None

-- the item that a part names in a scope that has begun
abbrev pub entry_in : Graph → Part → Option Row → Option Entry
entry_in g q None = None
entry_in g q (Some r) =
    if r.begun then option_and_then (λ a. entry_of g r q.attempt a (slice_get (out-Graph g).activities a)
    (slice_get r.standings a)) (place_of g q.name) else None

-- the scopes of an attempt of an activity that runs this graph, where there is such an attempt number
abbrev pub stand_by : Scopes → ℕ → Option Graph → Option ℕ → Option Stand
stand_by s a None i = None
stand_by s a (Some h) None = None
stand_by s a (Some h) (Some i) = Some (record { graph = h; scopes = inside a i s })

-- one step further in
abbrev pub into : List Template → Part → Stand → Option Stand
into ts q at =
    option_and_then (λ a. stand_by at.scopes a (graph_under ts (slice_get (out-Graph at.graph).activities a))
    (attempt_place q.attempt)) (place_of at.graph q.name)

-- the item of a path: its last part names it, in the scope to which the others lead
abbrev pub entry_at : List Template → List Part → Stand → Option Entry
entry_at ts [] at = None
entry_at ts (q ∷ []) at = entry_in at.graph q (at.scopes [])
entry_at ts (q ∷ (r ∷ qs)) at = option_and_then (entry_at ts (r ∷ qs)) (into ts q at)

-- the program that an activity runs, if it runs one
abbrev pub program_in : Work → Option ProgramOf
program_in (Program p) = Some p
program_in (Block g) = None
program_in (Process t) = None

-- an item is kept where its activity runs a program
abbrev pub entry_with : Entry → Option ProgramOf → Option Entry
entry_with e None = None
entry_with e (Some p) = Some e

-- the item, if its activity runs a program
abbrev pub program_entry : Option Entry → Option Entry
program_entry None = None
program_entry (Some e) = entry_with e (program_in e.activity.work)
