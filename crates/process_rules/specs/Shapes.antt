-- Rules 21 and 22: how deep the processes of a text nest, and how large they are with all that they run.
use Rattle.std.specs.Prelude.{◌≡◌, ◌<◌, ◌+◌, ◌-◌, ◌^◌, ℕ, zero, suc, min, max, Option, Some, None, List, [], ◌++◌, map}
use Rattle.std.specs.Prelude.{fold, length, slice_get, unwrap_or}
use Rattle.std.specs.List.{sum_by, cons_option}
use Rattle.std.specs.Option.{option_map}
use Rattle.flow_model.specs.declared.graphs.Library.{Library}
use Rattle.flow_model.specs.declared.trees.ElementTree.{ElementTree}
use Rattle.flow_model.specs.declared.trees.ElementTree.TheOpen.{ElementTree-F, WorkTree-F, ActivityTree-F}
use Rattle.flow_model.specs.declared.trees.ElementTree.TheFolds.{fold-ElementTree, fold-WorkTree}
use Rattle.flow_model.specs.declared.trees.ProcessTree.{ProcessTree}
use Rattle.flow_model.specs.declared.trees.WorkTree.{WorkTree}
use Rattle.process_rules.specs.Callees.{Calls}
use Rattle.process_rules.specs.Knowing.{callee_named}
use Rattle.process_rules.specs.Numbering.{NumberedAt}
use Rattle.process_rules.specs.declared.people.Callee.{Callee}
use Rattle.process_rules.specs.declared.people.Callee.TheVariants as callee
use Rattle.process_rules.specs.declared.sizes.Shape.{Shape}

-- ---- the shape of a graph: how deep it nests, and its size

-- of nothing
abbrev pub nothing : Shape
nothing = record { depth = 0; size = 0 }

-- what something adds to the graph in which it is nested
abbrev pub nested : Shape → Shape
nested shape = record { depth = shape.depth + 1; size = shape.size }

-- of a graph whose elements add these: the greatest depth, and 2 beside the sum of their sizes
abbrev pub graph_of : List Shape → Shape
graph_of added = record { depth = fold max 0 (map (λ s. s.depth) added); size = sum_by (λ s. s.size) added + 2 }

-- what an activity adds, by the shapes of the processes that names lead to
abbrev pub work_by : (List ℕ → Shape) → WorkTree-F Shape Shape Shape → Shape
work_by runs WorkTree-F.Program = nothing
work_by runs (WorkTree-F.Process name) = nested (runs name.name)
work_by runs (WorkTree-F.Block added) = nested (graph_of added)

-- an activity adds what it does
abbrev pub activity_by : ActivityTree-F Shape Shape Shape → Shape
activity_by a = a.work

-- what an element adds: a connector adds 1 to the size
abbrev pub element_by : ElementTree-F Shape Shape Shape → Shape
element_by (ElementTree-F.Activity added) = added
element_by (ElementTree-F.Control c) = record { depth = 0; size = 1 }
element_by (ElementTree-F.Line l) = nothing

-- what an element of a text adds to its graph
abbrev pub element_adds : (List ℕ → Shape) → ElementTree → Shape
element_adds runs = fold-ElementTree Shape Shape Shape element_by (work_by runs) activity_by

-- and an activity, by what it does
abbrev pub work_adds : (List ℕ → Shape) → WorkTree → Shape
work_adds runs = fold-WorkTree Shape Shape Shape element_by (work_by runs) activity_by

-- of the graph of these elements
abbrev pub graph_shape : (List ℕ → Shape) → List ElementTree → Shape
graph_shape runs elements = graph_of (map (element_adds runs) elements)

-- ---- the shapes of the processes of a text, each by those before it

-- of the process of a number
abbrev pub shape_at : List Shape → ℕ → Shape
shape_at shapes number = unwrap_or (slice_get shapes number) nothing

-- of what is run; that of a template stands in the library
abbrev pub callee_shape : Library → List Shape → Option Callee → Shape
callee_shape library before None = nothing
callee_shape library before (Some (callee.Text number)) = shape_at before number
callee_shape library before (Some (callee.Library place)) = unwrap_or
    (option_map (λ t. record { depth = t.depth; size = t.size }) (slice_get library.templates place)) nothing

-- of what a name in the process of a number leads to
abbrev pub named_shape : Calls → Library → List Shape → ℕ → List ℕ → Shape
named_shape calls library before number name = callee_shape library before (calls number name)

-- that many of the first processes
abbrev pub shapes_to : Calls → Library → List ProcessTree → ℕ → List Shape
shapes_to calls library processes zero = []
shapes_to calls library processes (suc n) =
    let before = shapes_to calls library processes n in
    before ++ cons_option (option_map (λ p. graph_shape (named_shape calls library before n) p.elements)
    (slice_get processes n)) []

-- of all processes
abbrev pub shapes_by : Calls → Library → List ProcessTree → List Shape
shapes_by calls library processes = shapes_to calls library processes (length processes)

-- of the processes of a text, in order
abbrev pub shapes_of : Library → List ProcessTree → List Shape
shapes_of library processes = shapes_by (callee_named library processes) library processes

-- a shape as far as 32 bits tell its depth, and 64 bits its size
abbrev pub told_shape : Shape → Shape
told_shape shape = record { depth = min shape.depth (2 ^ 32 - 1); size = min shape.size (2 ^ 64 - 1) }

-- ---- rule 21

-- the place of a process that nests deeper than 16
abbrev pub NestsDeep : List Shape → List ProcessTree → ℕ → Type 0
NestsDeep shapes processes = NumberedAt (λ number p place. (16 < (shape_at shapes number).depth) × (p.place ≡ place))
    processes

-- in a text
abbrev pub IsDeep : Library → List ProcessTree → ℕ → Type 0
IsDeep library processes = NestsDeep (shapes_of library processes) processes

-- ---- rule 22

-- the place of a process whose size is above 65,536
abbrev pub HasLargeSize : List Shape → List ProcessTree → ℕ → Type 0
HasLargeSize shapes processes = NumberedAt (λ number p place. (65536 < (shape_at shapes number).size)
    × (p.place ≡ place)) processes

-- in a text
abbrev pub IsLargeProcess : Library → List ProcessTree → ℕ → Type 0
IsLargeProcess library processes = HasLargeSize (shapes_of library processes) processes
