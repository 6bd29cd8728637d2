-- Completions that were ready, each by those before it: none is of an item that has an output, so none is passed over.
use Rattle.std.specs.Prelude.{◌≡◌, ℕ, ◌<◌, Some, None, List, take, length, slice_get}
use Rattle.flow_model.specs.declared.graphs.Container.{Container}
use Rattle.flow_model.specs.declared.graphs.Graph.{Graph}
use Rattle.flow_model.specs.declared.graphs.Template.{Template}
use Rattle.flow_model.specs.declared.instances.Fact.{Fact}
use Rattle.flow_model.specs.Rows.{output_of, deepest, IsReadyBy, AreReady}
use Rattle.fate_laws.specs.WellFormed.{Well}

-- the item of a completion that is ready has no output by the completions before it
abbrev pub ReadyIsNew : Type 0
ReadyIsNew =
    (ts : List Template) (g : Graph) (root : ℕ) (input : Container) (fs : List Fact) (n : ℕ) (f : Fact)
    → Well ts deepest g → n < length fs
    → IsReadyBy ts g root input fs n f → output_of (take n fs) f.item.parts ≡ None

-- where all were ready, what each gave is the output of its item
abbrev pub ReadyCounts : Type 0
ReadyCounts =
    (ts : List Template) (g : Graph) (root : ℕ) (input : Container) (fs : List Fact) → Well ts deepest g
    → AreReady ts g root input fs (length fs)
    → (i : ℕ) (f : Fact) → slice_get fs i ≡ Some f → output_of fs f.item.parts ≡ Some f.output
