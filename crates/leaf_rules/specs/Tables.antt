-- What a table of leaves has for the containers of graphs.
use Rattle.std.specs.Prelude.{◌≡◌}
use Rattle.std.specs.List.{All}
use Rattle.text_graphs.specs.Graphs.{GraphAt}
use Rattle.text_graphs.specs.Texts.{activities_in}
use Rattle.leaf_rules.specs.StructureLeaves.{Leafing}

-- the leaves that are wanted are there for the input and output of a graph, and for those of its activities
pub record HasContainers (wanted there : Leafing) (g : GraphAt) : Type 0 where
  pub input : there g.input.name ≡ wanted g.input.name
  pub output : there g.output.name ≡ wanted g.output.name
  pub activities : All (λ a. (there a.input.name ≡ wanted a.input.name) × (there a.output.name ≡ wanted a.output.name))
      (activities_in g.elements)
