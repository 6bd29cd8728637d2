-- Which processes the activities of a template run: those that stand before it in the library, so that nesting ends.
use Rattle.std.specs.Prelude.{◌≡◌, ℕ, zero, suc, ◌+◌, ◌<◌, nat_lt, if◌then◌else◌, Option, Some, None, List, []}
use Rattle.std.specs.Prelude.{bytes_eq, length, slice_get}
use Rattle.std.specs.Option.{option_map, option_and_then}
use Rattle.std.specs.HashMap as hash
use Rattle.process_rules.specs.Imports.{newest_place}
use Rattle.process_rules.specs.declared.people.Known.{Known}
use Rattle.std.specs.List.{All}
use Rattle.fate_laws.specs.Layout.{OfInside}
use Rattle.flow_model.specs.ScopeContainers.{graph_in}
use Rattle.flow_model.specs.declared.graphs.Graph.{Graph, out-Graph}
use Rattle.flow_model.specs.declared.graphs.Library.{Library}
use Rattle.flow_model.specs.declared.graphs.Template.{Template}
use Rattle.flow_model.specs.declared.graphs.Work.{Work, Program, Block, Process}
use Rattle.process_rules.specs.declared.people.Callee.{Callee}
use Rattle.process_rules.specs.declared.people.Callee.TheVariants as callee

-- an activity that runs a process runs one at a place below this
abbrev pub CallsBelow : ℕ → Work → Type 0
CallsBelow limit (Program p) = Unit {0}
CallsBelow limit (Block g) = Unit {0}
CallsBelow limit (Process t) = t < limit

-- so do all activities of a graph, whose blocks have this property
pub record CallsWith (limit : ℕ) (g : Graph) (P : Graph → Type 0) : Type 0 where
  pub here : All (λ a. CallsBelow limit a.work) (out-Graph g).activities
  pub inside : (a : ℕ) → OfInside [] P (slice_get (out-Graph g).activities a)

-- so do all activities of a graph, and of the blocks inside it, of which none nests deeper than this
abbrev pub CallsTo : ℕ → ℕ → Graph → Type 0
CallsTo limit zero g = CallsWith limit g (λ h. ⊥)
CallsTo limit (suc depth) g = CallsWith limit g (CallsTo limit depth)

-- however deep they nest
abbrev pub IsCalling : ℕ → Graph → Type 0
IsCalling limit g = (depth : ℕ) × CallsTo limit depth g

-- what an activity does runs processes at places below this alone: its own, or those in its block
pub record IsCallingWork (limit : ℕ) (work : Work) : Type 0 where
  pub below : CallsBelow limit work
  pub inside : (g : Graph) → graph_in [] work ≡ Some g → IsCalling limit g

-- each of these templates, before the first of which this many stand, runs processes at places before its own alone
abbrev pub AreOrdered : ℕ → List Template → Type 0
AreOrdered before ts = (k : ℕ) (t : Template) → slice_get ts k ≡ Some t → IsCalling (before + k) t.graph

-- the place that the process of this number of a text has behind the templates of a library
abbrev pub place_behind : Library → ℕ → ℕ
place_behind library number = length library.templates + number

-- what the process of this number runs is there before it: an earlier process of the text, or a template of the library
abbrev pub IsBefore : Library → ℕ → Callee → Type 0
IsBefore library number (callee.Text t) = t < number
IsBefore library number (callee.Library place) = place < length library.templates

-- the number of the process of a name in the text, where it stands before this one
abbrev pub before_this : ℕ → Option ℕ → Option ℕ
before_this process None = None
before_this process (Some number) = if nat_lt number process then Some number else None

abbrev pub earlier_meant : Known → ℕ → List ℕ → Option ℕ
earlier_meant known process name = before_this process (hash.get_by (λ key. bytes_eq name key.now) known.numbers)

-- the newest template of a name in the library
abbrev pub stored_named : Library → List ℕ → Option Callee
stored_named library name = option_and_then (λ place. option_map (λ t. callee.Library place)
    (slice_get library.templates place)) (newest_place library name)

-- a process of the text where there is one, else what is in the library
abbrev pub text_or : Option ℕ → Option Callee → Option Callee
text_or None stored = stored
text_or (Some number) stored = Some (callee.Text number)

-- what an activity in the process of this number runs by a name
abbrev pub callee_meant : Known → ℕ → List ℕ → Option Callee
callee_meant known process name = text_or (earlier_meant known process name)
    (stored_named known.catalog.now.library name)

-- where it is in the library once the text is added
abbrev pub place_among : Library → Callee → ℕ
place_among library (callee.Text number) = place_behind library number
place_among library (callee.Library place) = place

abbrev pub place_meant : Known → ℕ → List ℕ → Option ℕ
place_meant known process name = option_map (place_among known.catalog.now.library) (callee_meant known process name)
