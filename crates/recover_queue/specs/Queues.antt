-- The queues of a store: a list of messages for each, numbered from 1.
use Rattle.std.specs.Prelude.{ℕ, ◌-◌, ◌==◌, Bool, List, [], length, sum_by, count_by, slice_index_or, slice_set}
use Rattle.std.specs.List.{list_all}
use Rattle.flow_model.specs.declared.instances.Message.{Message}
use Rattle.flow_model.specs.declared.instances.Message.TheVariants.{Begin, Signal, End}

-- the messages of queue q, in the order in which they were put
abbrev pub queue : List (List Message) → ℕ → List Message
queue qs q = slice_index_or qs (q - 1) []

-- the queues where queue q has these messages
abbrev pub with_queue : List (List Message) → ℕ → List Message → List (List Message)
with_queue qs q ms = slice_set qs (q - 1) ms

-- no message stands in a queue
abbrev pub is_quiet : List (List Message) → Bool
is_quiet qs = list_all (λ ms. length ms == 0) qs

-- the root that a message is of
abbrev pub root_of : Message → ℕ
root_of (Begin scope) = scope.root
root_of (Signal scope source target truth) = scope.root
root_of (End scope) = scope.root

-- the messages of a root in one queue, and in all
abbrev pub count_in : ℕ → List Message → ℕ
count_in root ms = count_by (λ m. root_of m == root) ms

abbrev pub count_of_root : ℕ → List (List Message) → ℕ
count_of_root root qs = sum_by (count_in root) qs
