-- Rules 17 and 18: the processes that activities name, and the leaves of their containers.
use Rattle.std.specs.Prelude.{◌≡◌, ℕ, Option, Some, None, List, map, slice_get}
use Rattle.std.specs.List.{filter_map, flat_map}
use Rattle.std.specs.List.Sorted.{IsPermutation, IsNonDecreasingBy}
use Rattle.std.specs.Option.{option_map, option_and_then}
use Rattle.flow_model.specs.declared.graphs.Graph.{out-Graph}
use Rattle.flow_model.specs.declared.graphs.Leaf.{Leaf}
use Rattle.flow_model.specs.declared.graphs.Library.{Library}
use Rattle.flow_model.specs.declared.trees.ActivityTree.{ActivityTree}
use Rattle.flow_model.specs.declared.trees.ElementTree.{ElementTree}
use Rattle.flow_model.specs.declared.trees.ElementTree.TheOpen.{WorkTree-F}
use Rattle.flow_model.specs.declared.trees.NameAt.{NameAt}
use Rattle.flow_model.specs.declared.trees.ProcessTree.{ProcessTree}
use Rattle.flow_model.specs.declared.trees.WorkTree.{WorkTree, out-WorkTree}
use Rattle.leaf_rules.specs.Leaves.{Leafing}
use Rattle.text_graphs.specs.Graphs.{GraphAt}
use Rattle.text_graphs.specs.Places.{AnyAt}
use Rattle.text_graphs.specs.Texts.{activities_in}
use Rattle.process_rules.specs.Knowing.{callee_named}
use Rattle.process_rules.specs.declared.callees.Call.{Call}
use Rattle.process_rules.specs.declared.people.Callee.{Callee}
use Rattle.process_rules.specs.declared.people.Callee.TheVariants as callee

-- the name of the process that an activity runs, by what it does
abbrev pub named_by : WorkTree-F ElementTree WorkTree ActivityTree → Option NameAt
named_by WorkTree-F.Program = None
named_by (WorkTree-F.Process name) = Some name
named_by (WorkTree-F.Block elements) = None

-- the name of the process that it runs
abbrev pub process_named : WorkTree → Option NameAt
process_named work = named_by (out-WorkTree work)

-- what the activities in the process of a number run, by the names that they say
abbrev pub Calls : Type 0
Calls = ℕ → List ℕ → Option Callee

-- ---- rule 17

-- the place of a name that leads to no process
abbrev pub IsNoProcess : Calls → ℕ → Option NameAt → ℕ → Type 0
IsNoProcess calls number None p = ⊥
IsNoProcess calls number (Some name) p = (calls number name.name ≡ None) × (name.place ≡ p)

-- in an activity of a graph
abbrev pub NamesNone : Calls → GraphAt → ℕ → Type 0
NamesNone calls g = AnyAt (λ a. IsNoProcess calls g.process (process_named a.work)) (activities_in g.elements)

-- of one that names a process that neither stands before that of the graph nor is in the library
abbrev pub NamesNoProcess : Library → List ProcessTree → GraphAt → ℕ → Type 0
NamesNoProcess library processes = NamesNone (callee_named library processes)

-- ---- rule 18

-- what an activity in the process of a number runs
abbrev pub called : Calls → ℕ → WorkTree → Option Callee
called calls number work = option_and_then (λ name. calls number name.name) (process_named work)

-- the leaves of the input of a process of the text or of the library
abbrev pub callee_input : Leafing → Library → List ProcessTree → Callee → Option (List Leaf)
callee_input leaves library processes (callee.Text number) = option_and_then (λ p. leaves p.input.name)
    (slice_get processes number)
callee_input leaves library processes (callee.Library place) = option_map (λ t. (out-Graph t.graph).input.leaves)
    (slice_get library.templates place)

-- of its output
abbrev pub callee_output : Leafing → Library → List ProcessTree → Callee → Option (List Leaf)
callee_output leaves library processes (callee.Text number) = option_and_then (λ p. leaves p.output.name)
    (slice_get processes number)
callee_output leaves library processes (callee.Library place) = option_map (λ t. (out-Graph t.graph).output.leaves)
    (slice_get library.templates place)

-- both are known, and they are the same
abbrev pub AreAlike : Option (List Leaf) → Option (List Leaf) → Type 0
AreAlike ours theirs = (leaves : List Leaf) × (ours ≡ Some leaves) × (theirs ≡ Some leaves)

-- the containers of an activity are like those of a process
abbrev pub IsFitting : Leafing → Library → List ProcessTree → ActivityTree → Callee → Type 0
IsFitting leaves library processes a callee = AreAlike (leaves a.input.name)
    (callee_input leaves library processes callee)
    × AreAlike (leaves a.output.name) (callee_output leaves library processes callee)

-- the place of an activity whose containers aren't like those of the process that it runs
abbrev pub IsMisfit : Leafing → Library → List ProcessTree → ActivityTree → Option Callee → ℕ → Type 0
IsMisfit leaves library processes a None p = ⊥
IsMisfit leaves library processes a (Some callee) p = (IsFitting leaves library processes a callee → ⊥) × (a.place ≡ p)

-- in a graph, where names lead to processes so
abbrev pub HasMisfitBy : Calls → Leafing → Library → List ProcessTree → GraphAt → ℕ → Type 0
HasMisfitBy calls leaves library processes g = AnyAt
    (λ a. IsMisfit leaves library processes a (called calls g.process a.work)) (activities_in g.elements)

-- in a graph of a text
abbrev pub HasMisfit : Leafing → Library → List ProcessTree → GraphAt → ℕ → Type 0
HasMisfit leaves library processes = HasMisfitBy (callee_named library processes) leaves library processes

-- ---- the calls of a text

-- an activity with the process that it runs, where it runs one
abbrev pub call_of : Calls → ℕ → ActivityTree → Option (ActivityTree × Callee)
call_of calls number a = option_map (λ callee. (a, callee)) (called calls number a.work)

-- those of a graph
abbrev pub calls_in : Calls → GraphAt → List (ActivityTree × Callee)
calls_in calls g = filter_map (call_of calls g.process) (activities_in g.elements)

-- those of these graphs, one graph after another
abbrev pub calls_among : Calls → List GraphAt → List (ActivityTree × Callee)
calls_among calls = flat_map (calls_in calls)

-- which of them a call of the code stands for
abbrev pub call_at : Call → ActivityTree × Callee
call_at c = (c.activity.now, c.callee)

-- these are the calls of the graphs, in the order of their places
pub record AreCallsInOrder (calls : Calls) (graphs : List GraphAt) (found : List Call) : Type 0 where
  pub moved : IsPermutation (calls_among calls graphs) (map call_at found)
  pub rising : IsNonDecreasingBy (λ c. c.activity.now.place) found

-- the place of a call whose containers aren't like those of the process
abbrev pub IsMisfitOf : Leafing → Library → List ProcessTree → ActivityTree × Callee → ℕ → Type 0
IsMisfitOf leaves library processes call = IsMisfit leaves library processes call.0 (Some call.1)
