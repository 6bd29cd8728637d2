-- In which queue a message stands, and the queues after messages are put.
use Rattle.std.specs.Prelude.{ℕ, ◌+◌, ◌-◌, ◌^◌, ◌%◌, min, max, Option, Some, None, option_and_then, List, [], ◌∷◌, ◌++◌}
use Rattle.std.specs.Prelude.{take, drop, length, slice_get}
use Rattle.flow_model.specs.ScopeContainers.{graph_in}
use Rattle.flow_model.specs.declared.graphs.Activity.{Activity}
use Rattle.flow_model.specs.declared.graphs.Graph.{Graph, out-Graph}
use Rattle.flow_model.specs.declared.graphs.Template.{Template}
use Rattle.flow_model.specs.declared.graphs.Work.{Work, Program, Block, Process}
use Rattle.flow_model.specs.declared.instances.Message.{Message}
use Rattle.flow_model.specs.declared.instances.Message.TheVariants.{Begin, Signal, End}
use Rattle.flow_model.specs.declared.instances.Part.{Part}
use Rattle.flow_model.specs.declared.names.Name.{Name}
use Rattle.flow_model.specs.declared.transactions.Transaction.{Transaction}
use Rattle.flow_model.specs.declared.transactions.Transaction.TheVariants.{Turn}
use Rattle.recover_queue.specs.Queues.{queue, with_queue, root_of}
use Rattle.machine.specs.Rows.{place_of}

-- the parts of the scope that receives a message: an END is received by the scope around
abbrev pub around : List Part → List Part
around parts = take (length parts - 1) parts

-- the parts of the scope that receives a message: of an END it is the scope around the one that has ended
abbrev pub receiver : Message → List Part
receiver (Begin path) = path.parts
receiver (Signal path from to v) = path.parts
receiver (End path) = around path.parts

-- the process activities on the way along these parts
abbrev pub is_process : Work → ℕ
is_process (Program p) = 0
is_process (Block g) = 0
is_process (Process t) = 1

-- the count below an activity that runs this graph; nothing is below one that runs none
abbrev pub processes_below : (Graph → ℕ) → Option Graph → ℕ
processes_below count None = 0
processes_below count (Some h) = count h

-- an activity counts itself and what is below it
abbrev pub processes_from : (Work → ℕ) → Option Activity → ℕ
processes_from count None = 0
processes_from count (Some activity) = is_process activity.work + count activity.work

-- the first activity of this name
abbrev pub activity_named : Graph → Name → Option Activity
activity_named g name = option_and_then (slice_get (out-Graph g).activities) (place_of g name)

-- how many process activities are on the way along these parts
abbrev pub processes_along : List Template → List Part → Graph → ℕ
processes_along ts [] g = 0
processes_along ts (q ∷ p) g =
    processes_from (λ work. processes_below (processes_along ts p) (graph_in ts work)) (activity_named g q.name)

-- the queue of a scope: 1 and the remainder of the root's number and the process activities on the way, by the number
-- of queues
abbrev pub queue_by : List Template → ℕ → Option Graph → ℕ → List Part → ℕ
queue_by ts count None root parts = 1
queue_by ts count (Some g) root parts = (root + min (processes_along ts parts g) (2 ^ 64 - 1)) % max count 1 + 1

-- that of a message is the one of the scope that receives it
abbrev pub queue_in : List Template → ℕ → Option Graph → Message → ℕ
queue_in ts count o message = queue_by ts count o (root_of message) (receiver message)

-- the queues after messages are put in turn, each at the back of its queue
abbrev pub put_in : (Message → ℕ) → List Message → List (List Message) → List (List Message)
put_in queue_of [] qs = qs
put_in queue_of (m ∷ given) qs = put_in queue_of given (with_queue qs (queue_of m) (queue qs (queue_of m) ++ m ∷ []))

-- the queues after a transaction has taken its message: a Turn takes the front of a queue
abbrev pub taken_by : Transaction → List (List Message) → List (List Message)
taken_by (Turn number message) qs = with_queue qs number (drop 1 (queue qs number))
taken_by t qs = qs
