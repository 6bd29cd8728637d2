-- The reply to each query; of SHOW with all levels of scopes, of WORKLIST by the items that the person sees.
use Rattle.std.specs.Prelude.{◌≡◌, ◌↔◌, ◌||◌, ◌&&◌, ℕ, zero, suc, ◌+◌, ◌-◌, ◌≤◌, nat_le, Bool, true}
use Rattle.std.specs.Prelude.{if◌then◌else◌, Option, Some, None, option_map, option_and_then, unwrap_or, List, [], ◌∷◌}
use Rattle.std.specs.Prelude.{map, length, slice_get}
use Rattle.std.specs.List.{flat_map, Contains}
use Rattle.std.specs.List.Sorted.{IsStrictlySortedBy}
use Rattle.std.specs.Ordering.{nat_cmp}
use Rattle.std.specs.Cmp.Lexicographic.{slice_cmp}
use Rattle.activity_states.specs.States.{fate_of, output_of}
use Rattle.blocks_subprocs.specs.Ends.{ends_of}
use Rattle.flow_core.specs.Answers.{view_text, queue_text, audit_text, templates_text, worklist_text}
use Rattle.flow_core.specs.Containing.{output_text, input_text}
use Rattle.flow_core.specs.Replies.{refusal_text}
use Rattle.flow_core.specs.declared.refusals.Refusal.TheVariants as refused
use Rattle.flow_model.specs.Containers.{fresh}
use Rattle.flow_model.specs.Paths.{Spells}
use Rattle.flow_model.specs.Rows.{below}
use Rattle.flow_model.specs.ScopeContainers.{graph_in, graph_of, base_of, fed, looped, up_to}
use Rattle.flow_model.specs.Scopes.{part}
use Rattle.flow_model.specs.declared.commands.Query.{Query}
use Rattle.flow_model.specs.declared.commands.Query.TheVariants as ask
use Rattle.flow_model.specs.declared.graphs.Activity.{Activity}
use Rattle.flow_model.specs.declared.graphs.Container.{Container}
use Rattle.flow_model.specs.declared.graphs.Graph.{Graph, out-Graph}
use Rattle.flow_model.specs.declared.graphs.MapEnd.TheVariants.{Border}
use Rattle.flow_model.specs.declared.graphs.PersonDef.{PersonDef}
use Rattle.flow_model.specs.declared.graphs.Template.{Template}
use Rattle.flow_model.specs.declared.instances.Fate.{Fate}
use Rattle.flow_model.specs.declared.instances.Fate.TheVariants as fate
use Rattle.flow_model.specs.declared.instances.FateRow.{FateRow}
use Rattle.flow_model.specs.declared.instances.Mode.{Mode}
use Rattle.flow_model.specs.declared.instances.Mode.TheVariants as mode
use Rattle.flow_model.specs.declared.instances.Part.{Part}
use Rattle.flow_model.specs.declared.instances.Path.{Path}
use Rattle.flow_model.specs.declared.instances.Phase.TheVariants as phase
use Rattle.flow_model.specs.declared.instances.WorkLine.{WorkLine}
use Rattle.recover_queue.specs.Queues.{queue as messages_of}
use Rattle.staff_worklists.specs.Rights.{is_eligible, holds_it}
use Rattle.staff_worklists.specs.Shelves.{is_held, is_free}
use Rattle.machine.specs.Items.{Entry}
use Rattle.machine.specs.Moves.{graph_under}
use Rattle.machine.specs.Rows.{Stage, Waits, Runs, Ended, Died, Standing, Item, Inner, Row, Scopes, inside, place_of}
use Rattle.machine.specs.States.{Root, State, templates}
use Rattle.machine.specs.Verdicts.{between, IsNamed, Subject, mode_in, person_of, subject_of, phase_in}
use Rattle.machine.specs.Verdicts.{hold_in, is_going}

-- ---- SHOW: the rows of all scopes that have begun, in show order

-- the fate of a block or process activity, by the number of its scopes
abbrev pub stage_fate : Stage → ℕ → Fate
stage_fate Waits n = fate.Waiting
stage_fate Runs n = fate.Running n
stage_fate Ended n = fate.Finished n
stage_fate Died n = fate.Dead

-- the fate of an activity
abbrev pub standing_fate : Standing → Fate
standing_fate (Item p) = fate_of p
standing_fate (Inner stage n) = stage_fate stage n

-- what is shown of a scope of this graph, with what lies inside it
abbrev pub ShowRows : Type 0
ShowRows = Graph → Scopes → Path → List FateRow

-- the rows of a scope that has begun
abbrev pub begun_rows : ShowRows → Graph → Scopes → Path → Option Row → List FateRow
begun_rows rows h s path None = []
begun_rows rows h s path (Some r) = if r.begun then rows h s path else []

-- the rows of all attempts of an activity, in order
abbrev pub inner_rows : ShowRows → Path → Activity → ℕ → Scopes → Option Graph → Standing → List FateRow
inner_rows rows path activity a s None standing = []
inner_rows rows path activity a s (Some h) (Item p) = []
inner_rows rows path activity a s (Some h) (Inner stage n) =
    flat_map (λ i. begun_rows rows h (inside a i s) (below path (part activity.name (i + 1))) (s ((a, i) ∷ [])))
    (up_to n 0)

-- the row of the activity at a place, then those inside it
abbrev pub place_rows : List Template → ShowRows → Path → Scopes → ℕ → Option Activity → Option Standing → List FateRow
place_rows ts rows path s a None standing = []
place_rows ts rows path s a (Some activity) None = []
place_rows ts rows path s a (Some activity) (Some standing) =
    record { scope = path; name = activity.name; fate = standing_fate standing }
    ∷ inner_rows rows path activity a s (graph_in ts activity.work) standing

-- the rows of the activities of a scope, in order
abbrev pub scope_rows : List Template → ShowRows → Graph → Scopes → Path → Option Row → List FateRow
scope_rows ts rows g s path None = []
scope_rows ts rows g s path (Some r) =
    flat_map (λ a. place_rows ts rows path s a (slice_get (out-Graph g).activities a) (slice_get r.standings a))
    (up_to (length (out-Graph g).activities) 0)

-- the rows of a scope, with at most this number of levels of scopes
abbrev pub rows_within : List Template → ℕ → ShowRows
rows_within ts zero g s path = []
rows_within ts (suc depth) g s path = scope_rows ts (rows_within ts depth) g s path (s [])

-- the path of a root's own scope
abbrev pub root_path : ℕ → Path
root_path root = record { root = root; parts = [] }

-- the rows of a scope with all levels below it: there is a number of levels behind which more show nothing more
pub record AreAllRows (ts : List Template) (g : Graph) (s : Scopes) (path : Path) (rows : List FateRow) : Type 0 where
  pub enough : ℕ
  pub all : (levels : ℕ) → enough ≤ levels → rows ≡ rows_within ts levels g s path

-- the view of a root whose graph this is
abbrev pub ViewSays : List Template → ℕ → Root → Option Graph → List ℕ → Type 0
ViewSays ts root r None text = text ≡ view_text root (mode_in r) []
ViewSays ts root r (Some g) text =
    (rows : List FateRow) × AreAllRows ts g r.scopes (root_path root) rows × (text ≡ view_text root (mode_in r) rows)

-- the reply to SHOW: the view of a live root, else no ROOT
abbrev pub ShowSays : List Template → ℕ → Option Root → List ℕ → Type 0
ShowSays ts root None text = text ≡ refusal_text (refused.Root root)
ShowSays ts root (Some r) text = ViewSays ts root r (graph_of ts r.template) text

-- ---- OUTPUT: the container of a root that is done

-- the output of a root that is done: what the DATA lines feed to the sink of its scope
abbrev pub output_by : ℕ → Option Graph → Option Row → List ℕ
output_by root None r = refusal_text (refused.Root root)
output_by root (Some g) None = refusal_text (refused.Root root)
output_by root (Some g) (Some r) =
    output_text root (out-Graph g).output (fed (out-Graph g).lines Border r.input (ends_of r.ends)
    (fresh (out-Graph g).output))

-- the reply to OUTPUT in a mode: the output where the root is done, else no MODE
abbrev pub output_in : List Template → ℕ → Root → Mode → List ℕ
output_in ts root r mode.Done = output_by root (graph_of ts r.template) (r.scopes [])
output_in ts root r mode.Active = refusal_text (refused.Mode mode.Active)
output_in ts root r mode.Suspended = refusal_text (refused.Mode mode.Suspended)
output_in ts root r mode.Terminated = refusal_text (refused.Mode mode.Terminated)

-- the reply to OUTPUT
abbrev pub output_answer : List Template → ℕ → Option Root → List ℕ
output_answer ts root None = refusal_text (refused.Root root)
output_answer ts root (Some r) = output_in ts root r (mode_in r)

-- ---- INPUT: what an item reads

-- an input with the LOOP maps from the output of the attempt before, if there is one
abbrev pub looped_from : Graph → ℕ → Container → Option Container → Container
looped_from g a base None = base
looped_from g a base (Some last) = looped (out-Graph g).loops a last base

-- what an item reads: its base input, with the LOOP maps from the attempt before
abbrev pub item_input : Entry → Container
item_input e =
    looped_from e.graph e.number (base_of e.graph e.activity e.number e.row.input (ends_of e.row.ends))
    (output_of e.state (e.attempt - 1))

-- the reply to INPUT of the item that a token names, else no ITEM
abbrev pub InputSays : List ℕ → Option Subject → List ℕ → Type 0
InputSays token None text = text ≡ refusal_text (refused.Item token)
InputSays token (Some s) text =
    (path : Path) × Spells (between token) path × (text ≡ input_text path s.item.activity.input (item_input s.item))

-- the reply to INPUT
abbrev pub IsInputAnswer : State → List ℕ → List ℕ → Type 0
IsInputAnswer c token text = (o : Option Subject) × IsNamed c token o × InputSays token o text

-- ---- WORKLIST: the open manual items that a person may see, in show order

-- a part's place and attempt, before the rank of the parts behind it
abbrev pub ranked : ℕ → (ℕ → List ℕ) → Option ℕ → List ℕ
ranked attempt behind None = []
ranked attempt behind (Some a) = a ∷ attempt ∷ behind a

-- the places and attempts along these parts: what rows are sorted by
abbrev pub rank_on : List Template → List Part → Graph → List ℕ
rank_on ts [] g = []
rank_on ts (q ∷ p) g =
    ranked q.attempt (λ a. rank_on ts p (unwrap_or (graph_under ts (slice_get (out-Graph g).activities a)) g))
    (place_of g q.name)

-- the rank of an item: its root, then its place in show order
abbrev pub rank_of : State → Path → Option (List ℕ)
rank_of c path =
    option_map (λ g. path.root ∷ rank_on (templates c) path.parts g)
    (option_and_then (λ r. graph_of (templates c) r.template) (c.roots path.root))

-- the item is open and manual, and the person holds it, or nobody does and the person is eligible
pub record IsForPerson (c : State) (person : PersonDef) (path : Path) (held : Bool) : Type 0 where
  pub subject : Subject
  pub there : subject_of c path ≡ Some subject
  pub goes : is_going subject.mode ≡ true
  pub opens : phase_in subject ≡ phase.Ended → ⊥
  pub manual : subject.program.manual ≡ true
  pub seen : (holds_it (hold_in subject) person.name
      || (is_free (hold_in subject) && is_eligible person subject.program subject.starter subject.performer)) ≡ true
  pub held_so : held ≡ is_held (hold_in subject)

-- the lines are exactly those items, by strictly rising rank
pub record IsWorklist (c : State) (person : PersonDef) (lines : List WorkLine) : Type 0 where
  pub exactly : (path : Path) (held : Bool) → Contains lines (record {
    item = path;
    held = held;
  }) ↔ IsForPerson c person path held
  pub ranks : List (List ℕ)
  pub in_order : map (λ line. rank_of c line.item) lines ≡ map Some ranks
  pub rising : IsStrictlySortedBy (slice_cmp nat_cmp) ranks

-- the reply to WORKLIST: the lines of a person who is declared, else no PERSON
abbrev pub IsListed : State → List ℕ → Option PersonDef → List ℕ → Type 0
IsListed c name None text = text ≡ refusal_text (refused.Person name)
IsListed c name (Some person) text =
    (lines : List WorkLine) × IsWorklist c person lines × (text ≡ worklist_text name lines)

-- ---- all queries

-- the reply to QUEUE: the messages of a queue, else no QUEUE
abbrev pub queue_answer : State → ℕ → List ℕ
queue_answer c number =
    if nat_le 1 number && nat_le number (length c.queues) then queue_text number (messages_of c.queues
    number) else refusal_text (refused.Queue (length c.queues))

-- the reply to AUDIT: the live transactions about a live root, else no ROOT
abbrev pub audit_answer : State → ℕ → Option Root → List ℕ
audit_answer c root None = refusal_text (refused.Root root)
audit_answer c root (Some r) = audit_text root c.live

-- the reply to a query
abbrev pub IsAnswer : State → Query → List ℕ → Type 0
IsAnswer c (ask.Show root) text = ShowSays (templates c) root (c.roots root) text
IsAnswer c (ask.Output root) text = text ≡ output_answer (templates c) root (c.roots root)
IsAnswer c (ask.Input token) text = IsInputAnswer c token text
IsAnswer c (ask.Worklist name) text = IsListed c name (person_of c name) text
IsAnswer c (ask.Queue number) text = text ≡ queue_answer c number
IsAnswer c (ask.Audit root) text = text ≡ audit_answer c root (c.roots root)
IsAnswer c ask.Templates text = text ≡ templates_text (templates c)
