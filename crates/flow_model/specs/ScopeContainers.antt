-- Data lines, and from them the inputs and the output of a scope.
use Rattle.std.specs.Prelude.{ℕ, zero, suc, ◌+◌, ◌==◌, Bool, true, false, if◌then◌else◌, Option, Some, None, List, []}
use Rattle.std.specs.Prelude.{◌∷◌, length}
use Rattle.std.specs.List.{list_all}
use Rattle.flow_model.specs.declared.graphs.Activity.{Activity}
use Rattle.flow_model.specs.declared.graphs.Container.{Container}
use Rattle.flow_model.specs.declared.graphs.DataLine.{DataLine}
use Rattle.flow_model.specs.declared.graphs.Graph.{Graph, out-Graph}
use Rattle.flow_model.specs.declared.graphs.LeafMap.{LeafMap}
use Rattle.flow_model.specs.declared.graphs.LoopLine.{LoopLine}
use Rattle.flow_model.specs.declared.graphs.MapEnd.{MapEnd}
use Rattle.flow_model.specs.declared.graphs.MapEnd.TheVariants.{Border, Activity as At}
use Rattle.flow_model.specs.declared.graphs.Template.{Template}
use Rattle.flow_model.specs.declared.graphs.Work.{Work, Program, Block, Process}
use Rattle.flow_model.specs.declared.instances.SourceEnd.{SourceEnd}
use Rattle.flow_model.specs.declared.instances.SourceEnd.TheVariants as end
use Rattle.flow_model.specs.Containers.{fresh, mapped}
use Rattle.flow_model.specs.Fates.{Ends, is_settled}

-- what a finished source gives
abbrev pub final_output : SourceEnd → Option Container
final_output end.Unsettled = None
final_output end.Dead = None
final_output (end.Finished out) = Some out

-- what a line from this end brings, where its source is finished
abbrev pub brought : MapEnd → Container → Ends → Option Container
brought Border input ends = Some input
brought (At a) input ends = final_output (ends a)

abbrev pub mapped_if : List LeafMap → Option Container → Container → Container
mapped_if maps None target = target
mapped_if maps (Some source) target = mapped maps source target

abbrev pub same_end : MapEnd → MapEnd → Bool
same_end Border Border = true
same_end Border (At b) = false
same_end (At a) Border = false
same_end (At a) (At b) = a == b

-- the lines that lead to this end, in text order
abbrev pub fed : List DataLine → MapEnd → Container → Ends → Container → Container
fed [] to input ends target = target
fed (l ∷ lines) to input ends target =
    fed lines to input ends (if same_end l.to to then mapped_if l.maps (brought l.from input ends) target else target)

-- the LOOP maps of an activity, from the output of an attempt
abbrev pub looped : List LoopLine → ℕ → Container → Container → Container
looped [] a out target = target
looped (l ∷ loops) a out target = looped loops a out (if l.activity == a then mapped l.maps out target else target)

-- the input of attempt 1
abbrev pub base_of : Graph → Activity → ℕ → Container → Ends → Container
base_of g a place input so_far = fed (out-Graph g).lines (At place) input so_far (fresh a.input)

-- n numbers from k on
abbrev pub up_to : ℕ → ℕ → List ℕ
up_to zero k = []
up_to (suc n) k = k ∷ up_to n (k + 1)

-- a scope is complete when all its activities are settled
abbrev pub is_complete : Graph → Ends → Bool
is_complete g e = list_all (λ a. is_settled (e a)) (up_to (length (out-Graph g).activities) 0)

-- the output of a scope, once it is complete
abbrev pub output_by : Graph → Container → Ends → Option Container
output_by g input e = if is_complete g e then Some
    (fed (out-Graph g).lines Border input e (fresh (out-Graph g).output)) else None

-- ---- the graphs inside

-- the graph of the template at a place
abbrev pub graph_of : List Template → ℕ → Option Graph
graph_of [] t = None
graph_of (x ∷ xs) zero = Some x.graph
graph_of (x ∷ xs) (suc t) = graph_of xs t

-- the graph that an activity runs, if it is a block or a process activity
abbrev pub graph_in : List Template → Work → Option Graph
graph_in templates (Program p) = None
graph_in templates (Block g) = Some g
graph_in templates (Process k) = graph_of templates k
