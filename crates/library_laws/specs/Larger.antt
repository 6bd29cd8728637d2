-- Libraries that are larger than others.
use Rattle.std.specs.Prelude.{◌≡◌, ℕ, Some, List}
use Rattle.flow_model.specs.ScopeContainers.{graph_of}
use Rattle.flow_model.specs.declared.graphs.Graph.{Graph}
use Rattle.flow_model.specs.declared.graphs.Template.{Template}
use Rattle.view_laws.specs.Runs.{Root}

-- each template that is in the first library is in the second, at the same place
abbrev pub Agrees : List Template → List Template → Type 0
Agrees ts ts' = (t : ℕ) (g : Graph) → graph_of ts t ≡ Some g → graph_of ts' t ≡ Some g

-- a root in another library
abbrev pub moved : List Template → Root → Root
moved ts' r = record { templates = ts'; depth = r.depth; graph = r.graph; input = r.input }
