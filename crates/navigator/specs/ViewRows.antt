-- The rows of the view in show order, as a state shows them: those of the scopes that have begun, where a ready attempt
-- that somebody holds is running.
use Rattle.std.specs.Prelude.{◌≡◌, ℕ, zero, suc, ◌+◌, if◌then◌else◌, Option, Some, None, List, [], ◌∷◌, length}
use Rattle.std.specs.Prelude.{slice_get}
use Rattle.std.specs.List.{flat_map}
use Rattle.flow_model.specs.Fates.{Ends}
use Rattle.flow_model.specs.Rows.{below}
use Rattle.flow_model.specs.ScopeContainers.{graph_in, up_to}
use Rattle.flow_model.specs.Scopes.{Known, at, part, Runs, Start, fate_given, started_at, scope_ends, output}
use Rattle.flow_model.specs.declared.graphs.Activity.{Activity}
use Rattle.flow_model.specs.declared.graphs.Container.{Container}
use Rattle.flow_model.specs.declared.graphs.Graph.{Graph, out-Graph}
use Rattle.flow_model.specs.declared.graphs.Template.{Template}
use Rattle.flow_model.specs.declared.instances.FateRow.{FateRow}
use Rattle.flow_model.specs.declared.instances.Path.{Path}
use Rattle.navigator.specs.Reading.{hold_in, with_hold, scope_of, inner_of}
use Rattle.navigator.specs.declared.scopes.ActivityState.{ActivityState}
use Rattle.navigator.specs.declared.scopes.ScopeState.{ScopeState}

-- attempts are numbered from 1
abbrev pub AreNumbered : List Start → Type 0
AreNumbered starts = (i : ℕ) (start : Start) → slice_get starts i ≡ Some start → start.attempt ≡ i + 1

abbrev pub ScopeRows : Type 0
ScopeRows = Known → Graph → Container → ScopeState → Path → List FateRow

-- the rows of an attempt that starts, once its scope has begun
abbrev pub attempt_rows : ScopeRows → Known → Activity → Option Graph → Option ScopeState → Path → Start → List FateRow
attempt_rows rows k activity None s path start = []
attempt_rows rows k activity (Some h) None path start = []
attempt_rows rows k activity (Some h) (Some s) path start =
    if k.begun (part activity.name start.attempt ∷ [])
    then rows (at (part activity.name start.attempt) k) h start.input s (below path (part activity.name start.attempt))
    else []

-- the rows below an activity in this state
abbrev pub inner_rows : List Template → ScopeRows → Known → Activity → ActivityState → Path → List Start → List FateRow
inner_rows ts rows k activity state path starts = flat_map
    (λ start. attempt_rows rows k activity (graph_in ts activity.work) (scope_of state start.attempt) path start) starts

-- the row of an activity and those below it, where the activities of its scope have ended so
abbrev pub activity_rows : List Template → Runs → ScopeRows → Known → Graph → Container → Ends → ScopeState → Path → ℕ
    → Option Activity → List FateRow
activity_rows ts runs rows k g input e s path a None = []
activity_rows ts runs rows k g input e s path a (Some activity) =
    record { scope = path; name = activity.name; fate = with_hold (hold_in s a) (fate_given ts k runs g input e a) }
    ∷ flat_map (λ start. attempt_rows rows k activity (graph_in ts activity.work)
    (inner_of s a start.attempt) path start) (started_at ts k runs g input e a activity)

-- the rows of a scope and of those inside it, with fewer levels than this
abbrev pub rows_within : List Template → ℕ → ScopeRows
rows_within ts zero k g input s path = []
rows_within ts (suc depth) k g input s path =
    flat_map
    (λ a. activity_rows ts (output ts depth) (rows_within ts depth) k g input
    (scope_ends ts k (output ts depth) g input) s path a (slice_get (out-Graph g).activities a))
    (up_to (length (out-Graph g).activities) 0)

-- the rows of a scope and of those inside it, with at most this many levels below it
abbrev pub view_rows : List Template → ℕ → ScopeRows
view_rows ts depth k g input s path = rows_within ts (suc depth) k g input s path
