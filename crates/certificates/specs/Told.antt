-- What the lines of a certificate tell of the scopes of a root, and when a line follows from what is told.
use Rattle.std.specs.Prelude.{ℕ, ◌-◌, ◌==◌, nat_lt, Bool, true, false, not, ◌&&◌, if◌then◌else◌, Option, Some, None}
use Rattle.std.specs.Prelude.{option_map, option_and_then, List, [], ◌∷◌, length, take, slice_get, slice_set, replicate}
use Rattle.std.specs.Prelude.{position, bytes_eq, ◌^◌}
use Rattle.std.specs.Option.{option_or}
use Rattle.std.specs.List.{list_all}
use Rattle.flow_model.specs.declared.graphs.Activity.{Activity}
use Rattle.flow_model.specs.declared.graphs.Container.{Container}
use Rattle.flow_model.specs.declared.graphs.Expr.{Expr}
use Rattle.flow_model.specs.declared.graphs.Graph.{Graph, out-Graph}
use Rattle.flow_model.specs.declared.graphs.MapEnd.TheVariants.{Border}
use Rattle.flow_model.specs.declared.graphs.Template.{Template}
use Rattle.flow_model.specs.declared.graphs.Work.{Work, Program, Block, Process}
use Rattle.flow_model.specs.declared.instances.Fact.{Fact}
use Rattle.flow_model.specs.declared.instances.Part.{Part}
use Rattle.flow_model.specs.declared.instances.Path.{Path}
use Rattle.flow_model.specs.declared.instances.SourceEnd.{SourceEnd}
use Rattle.flow_model.specs.declared.instances.SourceEnd.TheVariants as end
use Rattle.flow_model.specs.declared.names.Name.{Name}
use Rattle.flow_model.specs.Conditions.{holds}
use Rattle.flow_model.specs.Containers.{fresh, with_return_code}
use Rattle.flow_model.specs.Fates.{is_settled}
use Rattle.flow_model.specs.Paths.{spelling}
use Rattle.flow_model.specs.Rows.{below}
use Rattle.flow_model.specs.ScopeContainers.{base_of, fed, graph_in, looped, up_to}
use Rattle.flow_model.specs.Scopes.{part, is_fed}
use Rattle.blocks_subprocs.specs.Ends.{ends_of}
use Rattle.fate_laws.specs.Equations.{join_of}
use Rattle.certificates.specs.declared.lines.CertLine.{CertLine}
use Rattle.certificates.specs.declared.lines.CertLine.TheVariants.{Scope, Dead, Finished, Ended}

-- ---- what is told

-- what is told of a scope that has begun
pub record Opened : Type 0 where
  pub graph : Graph
  pub input : Container
  -- how each activity has ended, by its place; unsettled while no line tells of its end
  pub ends : List SourceEnd
  -- what it gave, where a line tells that it has ended
  pub output : Option Container

-- a scope as it begins
abbrev pub opened : Graph → Container → Opened
opened g input = record {
  graph = g;
  input = input;
  ends = replicate
      (length (out-Graph g).activities) end.Unsettled;
  output = None;
}

-- a scope of which one end more is told
abbrev pub with_end : ℕ → SourceEnd → Opened → Opened
with_end a e s = record { graph = s.graph; input = s.input; ends = slice_set s.ends a e; output = s.output }

-- a scope of which it is told what it gave
abbrev pub with_output : Container → Opened → Opened
with_output out s = record { graph = s.graph; input = s.input; ends = s.ends; output = Some out }

-- what is told of each scope
abbrev pub Told : Type 0
Told = Path → Option Opened

-- two paths are written alike
abbrev pub same_path : Path → Path → Bool
same_path p q = bytes_eq (spelling p) (spelling q)

-- what is told, and that a scope begins so; what is told of it already stays
abbrev pub beginning : Told → Path → Opened → Told
beginning t p s q = if same_path p q then option_or (t q) (Some s) else t q

-- what is told, with a change of one scope
abbrev pub changed : Told → Path → (Opened → Opened) → Told
changed t p f q = if same_path p q then option_map f (t q) else t q

-- ---- what a certificate rests on

-- the templates, that of the root, its input, and its accepted completions
pub record Basis : Type 0 where
  pub templates : List Template
  pub root : ℕ
  pub template : ℕ
  pub input : Container
  pub facts : List Fact

-- the first accepted output of an item
abbrev pub accepted : List Fact → Path → Option Container
accepted [] p = None
accepted (f ∷ fs) p = if same_path f.item p then Some f.output else accepted fs p

-- ---- an activity, by what is told of its scope

-- an activity with its place in its graph
pub record Placed : Type 0 where
  pub place : ℕ
  pub activity : Activity

-- the activity at a place; places have 32 bits
abbrev pub placed : Graph → ℕ → Option Placed
placed g a = if nat_lt a (2 ^ 32) then option_map (λ x. record { place = a; activity = x })
    (slice_get (out-Graph g).activities a) else None

-- the first activity of this name
abbrev pub activity_at : Graph → Name → Option Placed
activity_at g name = option_and_then (placed g) (position (λ x. bytes_eq x.name name) (out-Graph g).activities)

-- its join, by the ends that are told
abbrev pub join_in : Opened → Placed → Option Bool
join_in s x = join_of s.graph (ends_of s.ends) x.place x.activity

-- the input of its first attempt
abbrev pub first_input : Opened → Placed → Container
first_input s x = base_of s.graph x.activity x.place s.input (ends_of s.ends)

-- whether a join is known, and so
abbrev pub is_known : Bool → Option Bool → Bool
is_known b None = false
is_known true (Some v) = v
is_known false (Some v) = not v

-- the activity of this name, where its join is so
abbrev pub joined_at : Bool → Name → Opened → Option Placed
joined_at b name s = option_and_then (λ x. if is_known b (join_in s x) then Some x else None) (activity_at s.graph name)

-- ---- attempts

-- attempts of an activity start where its join is true and all that feeds it is settled
abbrev pub is_active : Opened → Placed → Bool
is_active s x = is_known true (join_in s x) && is_fed (out-Graph s.graph).lines x.place (ends_of s.ends)

-- the scope of attempt 1 of a block or process activity
abbrev pub first_start : List Template → Opened → Placed → Option Opened
first_start ts s x = option_map (λ g. opened g (first_input s x)) (graph_in ts x.activity.work)

-- that of the next attempt, where the exit condition is false on what the last one gave
abbrev pub start_after : Opened → Placed → Opened → Container → Option Opened
start_after s x last out = if holds x.activity.exit out then None else Some
    (opened last.graph (looped (out-Graph s.graph).loops x.place out (first_input s x)))

-- so, where it is told what the last one gave
abbrev pub next_start : Opened → Placed → Opened → Option Opened
next_start s x last = option_and_then (start_after s x last) last.output

-- the scope of the attempt of this number, where attempts start
abbrev pub attempt_start : List Template → Told → Path → Part → Opened → Placed → Option Opened
attempt_start ts t outer q s x =
    if q.attempt == 0 then None
    else if q.attempt == 1 then first_start ts s x
    else option_and_then (next_start s x) (t (below outer (part q.name (q.attempt - 1))))

-- the scope of an attempt as it begins, where it starts
abbrev pub start : List Template → Told → Path → Part → Opened → Placed → Option Opened
start ts t outer q s x = if is_active s x then attempt_start ts t outer q s x else None

-- what an attempt gave: the output that was accepted, or what is told that its scope gave
abbrev pub gave : Basis → Told → Path → Name → Work → ℕ → Option Container
gave b t p name (Program x) j = accepted b.facts (below p (part name j))
gave b t p name (Block g) j = option_and_then (λ s. s.output) (t (below p (part name j)))
gave b t p name (Process k) j = option_and_then (λ s. s.output) (t (below p (part name j)))

-- whether one more attempt follows
abbrev pub goes_on : Option Expr → Option Container → Bool
goes_on exit None = false
goes_on exit (Some out) = not (holds exit out)

-- what the last attempt gave: no more follows it
abbrev pub stops : Option Expr → Option Container → Option Container
stops exit None = None
stops exit (Some out) = if holds exit out then Some out else None

-- what attempt n gave, where it is the last: one more follows each of those before it, and none follows it
abbrev pub final : Option Expr → (ℕ → Option Container) → ℕ → Option Container
final exit gives n = if not (n == 0) && list_all (λ j. goes_on exit (gives j)) (up_to (n - 1) 1) then stops exit
    (gives n) else None

-- ---- lines

-- the last step of a path
abbrev pub last_part : Path → Option Part
last_part p = slice_get p.parts (length p.parts - 1)

-- the path before it
abbrev pub outer : Path → Path
outer p = record { root = p.root; parts = take (length p.parts - 1) p.parts }

-- a scope inside this one as it begins, where it starts by what is told
abbrev pub inner_begins : Basis → Told → Path → Part → Option Opened
inner_begins b t p q = option_and_then (λ s. option_and_then (start b.templates t p q s) (activity_at s.graph q.name))
    (t p)

-- the root's graph
abbrev pub root_graph : Basis → Option Graph
root_graph b = option_map (λ x. x.graph) (slice_get b.templates b.template)

-- the root's scope as it begins
abbrev pub root_begins : Basis → Option Opened
root_begins b = option_map (λ g. opened g b.input) (root_graph b)

-- a scope as it begins, by its last step
abbrev pub begins_as : Basis → Told → Path → Option Part → Option Opened
begins_as b t p None = root_begins b
begins_as b t p (Some q) = inner_begins b t p q

-- the scope at a path as it begins, where it starts by what is told
abbrev pub begins : Basis → Told → Path → Option Opened
begins b t p = begins_as b t (outer p) (last_part p)

-- the final output of an activity, where this attempt is its last by what is told
abbrev pub final_at : Basis → Told → Path → ℕ → Placed → Option Container
final_at b t p n x = final x.activity.exit (gave b t p x.activity.name x.activity.work) n

-- what a scope gives, where the ends of all its activities are told
abbrev pub scope_gives : Opened → Option Container
scope_gives s =
    if list_all is_settled s.ends
    then Some (with_return_code (fed (out-Graph s.graph).lines Border s.input (ends_of s.ends)
    (fresh (out-Graph s.graph).output)))
    else None

-- the scope of which a line tells
abbrev pub line_scope : CertLine → Path
line_scope (Scope p) = p
line_scope (Dead p name) = p
line_scope (Finished p name attempt) = p
line_scope (Ended p) = p

-- what is told with one line more, which follows from what was told before; None where it doesn't follow: a scope that
-- starts, an
-- activity whose join is false, one whose join is true and whose last attempt this was, a scope whose activities have
-- all ended
abbrev pub next : Basis → Told → CertLine → Option Told
next b t (Scope p) = option_map (beginning t p) (begins b t p)
next b t (Dead p name) = option_map (λ x. changed t p (with_end x.place end.Dead))
    (option_and_then (joined_at false name) (t p))
next b t (Finished p name n) =
    option_and_then (λ x. option_map (λ out. changed t p (with_end x.place (end.Finished out))) (final_at b t p n x))
    (option_and_then (joined_at true name) (t p))
next b t (Ended p) = if length p.parts == 0 then None else option_map (λ out. changed t p (with_output out))
    (option_and_then scope_gives (t p))

-- a line of another root never follows
abbrev pub taken : Basis → Told → CertLine → Option Told
taken b t line = if (line_scope line).root == b.root then next b t line else None
