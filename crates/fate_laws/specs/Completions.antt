-- Only the first completion of each item counts, and nothing but what they give for the items.
use Rattle.std.specs.Prelude.{◌≡◌, ℕ, Some, List, [], ◌∷◌, ◌++◌}
use Rattle.flow_model.specs.declared.graphs.Container.{Container}
use Rattle.flow_model.specs.declared.graphs.Graph.{Graph}
use Rattle.flow_model.specs.declared.graphs.Template.{Template}
use Rattle.flow_model.specs.declared.instances.Fact.{Fact}
use Rattle.flow_model.specs.declared.instances.Part.{Part}
use Rattle.flow_model.specs.Rows.{output_of, by_facts, fate_rows, fate_output}

-- two lists of completions tell the same: of all scopes, and of every root by its rows and its output
pub record TellSame (most : ℕ) (fs fs' : List Fact) : Type 0 where
  pub known : by_facts most fs' ≡ by_facts most fs
  pub rows : (ts : List Template) (g : Graph) (root : ℕ) (input : Container)
      → fate_rows ts g root input most fs' ≡ fate_rows ts g root input most fs
  pub output : (ts : List Template) (g : Graph) (input : Container)
      → fate_output ts g input most fs' ≡ fate_output ts g input most fs

-- a later completion of an item that was accepted changes nothing
abbrev pub FirstCounts : Type 0
FirstCounts = (most : ℕ) (fs : List Fact) (f : Fact) (out : Container) → output_of fs f.item.parts ≡ Some out
    → TellSame most fs (fs ++ f ∷ [])

-- completions that give the same output for every item tell the same
abbrev pub OutputsTellAll : Type 0
OutputsTellAll = (most : ℕ) (fs fs' : List Fact) → ((p : List Part) → output_of fs p ≡ output_of fs' p)
    → TellSame most fs fs'
