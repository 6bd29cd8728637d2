-- The scopes of a root, with blocks and subprocesses. One recursion serves the fates and the view:
-- it asks a record what counts of messages and completions. Paths are relative to the scope at hand.
use Rattle.std.specs.Prelude.{ℕ, zero, suc, ◌+◌, ◌==◌, Bool, true, ◌&&◌, if◌then◌else◌, Option, Some, None, List, []}
use Rattle.std.specs.Prelude.{◌∷◌, map, length, slice_get}
use Rattle.std.specs.List.{filter}
use Rattle.std.specs.Option.{option_map}
use Rattle.flow_model.specs.declared.graphs.Activity.{Activity}
use Rattle.flow_model.specs.declared.graphs.Container.{Container}
use Rattle.flow_model.specs.declared.graphs.Control.{Control}
use Rattle.flow_model.specs.declared.graphs.DataLine.{DataLine}
use Rattle.flow_model.specs.declared.graphs.Expr.{Expr}
use Rattle.flow_model.specs.declared.graphs.Graph.{Graph, out-Graph}
use Rattle.flow_model.specs.declared.graphs.MapEnd.{MapEnd}
use Rattle.flow_model.specs.declared.graphs.MapEnd.TheVariants.{Border, Activity as At}
use Rattle.flow_model.specs.declared.graphs.Template.{Template}
use Rattle.flow_model.specs.declared.graphs.Work.{Work, Program, Block, Process}
use Rattle.flow_model.specs.declared.instances.Fate.{Fate}
use Rattle.flow_model.specs.declared.instances.Fate.TheVariants.{Waiting}
use Rattle.flow_model.specs.declared.instances.Part.{Part}
use Rattle.flow_model.specs.declared.instances.SourceEnd.TheVariants as end
use Rattle.flow_model.specs.declared.names.Name.{Name}
use Rattle.flow_model.specs.Conditions.{holds}
use Rattle.flow_model.specs.Containers.{with_return_code}
use Rattle.flow_model.specs.Fates.{Ends, connector_value, joined, fate_by, ended, is_settled, is_open}
use Rattle.flow_model.specs.ScopeContainers.{same_end, looped, base_of, output_by, graph_of}

-- ---- what counts, at a scope and below it

-- what counts, of a scope and those below it
pub record Known : Type 0 where
  -- no activity has more attempts
  pub most : ℕ
  -- the scope there has begun
  pub begun : List Part → Bool
  -- the scope there has told its end
  pub closed : List Part → Bool
  -- what counts of the value of the connector between two activities there
  pub sent : List Part → ℕ → ℕ → Option Bool → Option Bool
  -- the accepted output of an item
  pub given : List Part → Option Container

-- the same, from the scope one step down
abbrev pub at : Part → Known → Known
at q k = record {
  most = k.most;
  begun = λ p. k.begun (q ∷ p);
  closed = λ p. k.closed (q ∷ p);
  sent = λ p. k.sent (q ∷ p);
  given = λ p. k.given (q ∷ p);
}

-- all that the completions alone tell: every scope has begun, and everything counts at once
abbrev pub all_of : Known → Known
all_of k = record {
  most = k.most;
  begun = λ p. true;
  closed = λ p. true;
  sent = λ p a b v. v;
  given = k.given;
}

-- ---- attempts

-- what repeats an activity: its exit condition, and the input of the next attempt from the output of this one
pub record Trial : Type 0 where
  pub exit : Option Expr
  pub loops : Container → Container

-- what the attempt of this number gives on this input
abbrev pub Gives : Type 0
Gives = ℕ → Container → Option Container

-- an attempt that gave this, and those after it
abbrev pub and_then : Trial → Option Container → (Container → List Container) → List Container
and_then t None next = []
and_then t (Some out) next = out ∷ (if holds t.exit out then [] else next out)

-- the outputs of attempt j and those after it, at most n
abbrev pub tries : ℕ → Gives → Trial → ℕ → Container → List Container
tries zero gives t j input = []
tries (suc n) gives t j input = and_then t (gives j input) (λ out. tries n gives t (j + 1) (t.loops out))

-- an attempt that starts, with its input
pub record Start : Type 0 where
  pub attempt : ℕ
  pub input : Container

abbrev pub then_start : Trial → Option Container → (Container → List Start) → List Start
then_start t None next = []
then_start t (Some out) next = if holds t.exit out then [] else next out

-- the attempts that start, from attempt j on, at most n
abbrev pub starts : ℕ → Gives → Trial → ℕ → Container → List Start
starts zero gives t j input = []
starts (suc n) gives t j input = record { attempt = j; input = input } ∷ then_start t (gives j input)
    (λ out. starts n gives t (j + 1) (t.loops out))

-- ---- one scope, where what the scopes below it give is known

-- what a complete scope gives
abbrev pub Runs : Type 0
Runs = Known → Graph → Container → Option Container

abbrev pub part : Name → ℕ → Part
part a j = record { name = a; attempt = j }

abbrev pub scope_gives : Known → Runs → Option Graph → Part → Container → Option Container
scope_gives k runs None q input = None
scope_gives k runs (Some g) q input = if k.closed (q ∷ []) then option_map with_return_code
    (runs (at q k) g input) else None

-- what attempt j of an activity gives: the accepted output of its item, or the output of its scope
abbrev pub gives : List Template → Known → Runs → Name → Work → Gives
gives ts k runs name (Program p) j input = k.given (part name j ∷ [])
gives ts k runs name (Block g) j input = scope_gives k runs (Some g) (part name j) input
gives ts k runs name (Process t) j input = scope_gives k runs (graph_of ts t) (part name j) input

-- what feeds a line is settled
abbrev pub is_ready_source : MapEnd → Ends → Bool
is_ready_source Border e = true
is_ready_source (At b) e = is_settled (e b)

-- every activity that feeds this one is settled, as it always is once the join is known
abbrev pub is_fed : List DataLine → ℕ → Ends → Bool
is_fed [] a e = true
is_fed (l ∷ lines) a e = (if same_end l.to (At a) then is_ready_source l.from e else true) && is_fed lines a e

abbrev pub trial : Graph → ℕ → Activity → Container → Trial
trial g a activity base = record { exit = activity.exit; loops = λ out. looped (out-Graph g).loops a out base }

abbrev pub tries_on : List Template → Known → Runs → Graph → ℕ → Activity → Container → List Container
tries_on ts k runs g a activity base = tries k.most (gives ts k runs activity.name activity.work)
    (trial g a activity base) 1 base

abbrev pub attempts_at : List Template → Known → Runs → Graph → Container → Ends → ℕ → Option Activity → List Container
attempts_at ts k runs g input e a None = []
attempts_at ts k runs g input e a (Some activity) =
    if is_fed (out-Graph g).lines a e then tries_on ts k runs g a activity (base_of g activity a input e) else []

abbrev pub attempts : List Template → Known → Runs → Graph → Container → Ends → ℕ → List Container
attempts ts k runs g input e a = attempts_at ts k runs g input e a (slice_get (out-Graph g).activities a)

-- the values of the connectors that lead to an activity
abbrev pub values_at : Known → List Control → Ends → ℕ → List (Option Bool)
values_at k controls e a = map (λ c. k.sent [] c.from c.to (connector_value controls c (e c.from)))
    (filter (λ c. c.to == a) controls)

abbrev pub fate_at : Known → List Control → Ends → ℕ → Option Activity → List Container → Fate
fate_at k controls e a None outs = Waiting
fate_at k controls e a (Some activity) outs = fate_by activity (joined activity.join (values_at k controls e a)) outs

-- the fate of an activity, by how the others have ended
abbrev pub fate_given : List Template → Known → Runs → Graph → Container → Ends → ℕ → Fate
fate_given ts k runs g input e a =
    if k.begun []
    then fate_at k (out-Graph g).controls e a (slice_get (out-Graph g).activities a) (attempts ts k runs g input e a)
    else Waiting

abbrev pub step : List Template → Known → Runs → Graph → Container → Ends → Ends
step ts k runs g input e a = ended (fate_given ts k runs g input e a) (attempts ts k runs g input e a)

-- n steps from where nothing is settled
abbrev pub rounds : (Ends → Ends) → ℕ → Ends
rounds next zero a = end.Unsettled
rounds next (suc n) a = next (rounds next n) a

abbrev pub scope_ends : List Template → Known → Runs → Graph → Container → Ends
scope_ends ts k runs g input = rounds (step ts k runs g input) (length (out-Graph g).activities)

-- ---- all scopes, at most this deep

-- what a scope gives once it is complete
abbrev pub output : List Template → ℕ → Runs
output ts zero k g input = None
output ts (suc depth) k g input = output_by g input (scope_ends ts k (output ts depth) g input)

-- how the activities of a scope have ended, with at most this many levels below it
abbrev pub tree_ends : List Template → ℕ → Known → Graph → Container → Ends
tree_ends ts depth k g input = scope_ends ts k (output ts depth) g input

-- the fate of an activity of a scope
abbrev pub tree_fate : List Template → ℕ → Known → Graph → Container → ℕ → Fate
tree_fate ts depth k g input a = fate_given ts k (output ts depth) g input (tree_ends ts depth k g input) a

-- the attempts of an activity that start
abbrev pub started_at : List Template → Known → Runs → Graph → Container → Ends → ℕ → Activity → List Start
started_at ts k runs g input e a activity =
    if is_open (fate_given ts k runs g input e a) && is_fed (out-Graph g).lines a e
    then starts (suc k.most) (gives ts k runs activity.name activity.work)
    (trial g a activity (base_of g activity a input e)) 1 (base_of g activity a input e)
    else []
