-- Which completions are ready, each by those before it, and which completion a refusal names.
use Rattle.std.specs.Prelude.{◌≡◌, ℕ, ◌<◌, true, Bool, Some, None, List, [], length, take, slice_get}
use Rattle.flow_model.specs.Rows.{rows as rows_in, by_facts, output_of, IsReady, AreReady, IsReadyBy}
use Rattle.flow_model.specs.declared.graphs.Container.{Container}
use Rattle.flow_model.specs.declared.graphs.Graph.{Graph}
use Rattle.flow_model.specs.declared.graphs.Template.{Template}
use Rattle.flow_model.specs.declared.instances.Fact.{Fact}
use Rattle.fate_eval.specs.declared.results.FateFault.{FateFault}
use Rattle.fate_eval.specs.declared.results.FateFault.TheVariants.{NotReady, NoMemory}

-- the completions are of this root
abbrev pub AreOf : ℕ → List Fact → Type 0
AreOf root fs = (i : ℕ) (f : Fact) → slice_get fs i ≡ Some f → f.item.root ≡ root

-- the first n completions are ready, each by those before it, in a process that nests at most so deep
abbrev pub AreReadyIn : List Template → ℕ → Graph → ℕ → Container → List Fact → ℕ → Type 0
AreReadyIn ts depth g root input fs n =
    (i : ℕ) (f : Fact) → i < n → slice_get fs i ≡ Some f
    → IsReady (rows_in ts depth (by_facts (length fs) (take i fs)) g input (record { root = root; parts = [] }))
    f.item

-- completion n is none that is ready by those before it, unless its item has an output
abbrev pub IsUnreadyIn : List Template → ℕ → Graph → ℕ → Container → List Fact → ℕ → Type 0
IsUnreadyIn ts depth g root input fs n =
    (f : Fact) → slice_get fs n ≡ Some f → output_of (take n fs) f.item.parts ≡ None
    → IsReady (rows_in ts depth (by_facts (length fs) (take n fs)) g input (record { root = root; parts = [] })) f.item
    → ⊥

-- the first n are marked
abbrev pub AreMarked : List Bool → ℕ → Type 0
AreMarked marks n = (i : ℕ) → i < n → slice_get marks i ≡ Some true

-- ---- faults

-- the completion that isn't ready is one of this many
abbrev pub IsWithin : ℕ → FateFault → Type 0
IsWithin n (NotReady i) = i < n
IsWithin n NoMemory = Unit {0}

-- those before it are ready, each by those before it
abbrev pub IsBehindReady : List Template → ℕ → Graph → ℕ → Container → List Fact → FateFault → Type 0
IsBehindReady ts depth g root input fs (NotReady i) = AreReadyIn ts depth g root input fs i
IsBehindReady ts depth g root input fs NoMemory = Unit {0}

-- and it isn't, unless its item has an output by then
abbrev pub IsUnready : List Template → ℕ → Graph → ℕ → Container → List Fact → FateFault → Type 0
IsUnready ts depth g root input fs (NotReady n) = IsUnreadyIn ts depth g root input fs n
IsUnready ts depth g root input fs NoMemory = Unit {0}

-- the fault names the first completion that isn't ready by those before it
abbrev pub IsFirstUnready : List Template → Graph → ℕ → Container → List Fact → FateFault → Type 0
IsFirstUnready ts g root input fs (NotReady n) = AreReady ts g root input fs n
    × ((f : Fact) → slice_get fs n ≡ Some f → IsReadyBy ts g root input fs n f → ⊥)
IsFirstUnready ts g root input fs NoMemory = Unit {0}
