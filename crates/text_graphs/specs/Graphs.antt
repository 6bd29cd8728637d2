-- The graphs of a text: those of its processes, and of the blocks inside.
use Rattle.std.specs.Prelude.{◌≡◌, ◌⊎◌, ℕ, Some, List, map, slice_get}
use Rattle.std.specs.List.{Contains}
use Rattle.flow_model.specs.declared.trees.ActivityTree.{ActivityTree}
use Rattle.flow_model.specs.declared.trees.ElementTree.{ElementTree}
use Rattle.flow_model.specs.declared.trees.ItemTree.{ItemTree}
use Rattle.flow_model.specs.declared.trees.NameAt.{NameAt}
use Rattle.flow_model.specs.declared.trees.ProcessTree.{ProcessTree}
use Rattle.text_graphs.specs.Blocks.{IsBlockOf}
use Rattle.text_graphs.specs.Texts.{activities_in, processes_in}
use Rattle.text_graphs.specs.declared.scopes.Scope.{Scope}

-- a graph of a text: the number of its process, the place of its word PROCESS or BLOCK, the names of its structures,
-- and its elements
pub record GraphAt : Type 0 where
  pub process : ℕ
  pub place : ℕ
  pub input : NameAt
  pub output : NameAt
  pub elements : List ElementTree

-- the graph that a scope is
abbrev pub graph_at : Scope → GraphAt
graph_at s = record {
  process = s.process;
  place = s.place;
  input = s.input.now;
  output = s.output.now;
  elements =
      s.elements.now;
}

-- ---- which graphs a text has

-- the graph of a block with these elements, in the process of this number
abbrev pub block_at : ℕ → ActivityTree → List ElementTree → GraphAt
block_at number a elements = record {
  process = number;
  place = a.place;
  input = a.input;
  output = a.output;
  elements =
      elements;
}

-- the graph of the process of this number
abbrev pub process_at : ℕ → ProcessTree → GraphAt
process_at number p = record {
  process = number;
  place = p.place;
  input = p.input;
  output = p.output;
  elements =
      p.elements;
}

-- a graph is that of a block, or of one inside it
pub data IsGraphIn (number : ℕ) (g : GraphAt) : ActivityTree → Type 0 where
  Itself : {a : ActivityTree} (elements : List ElementTree) → IsBlockOf a elements → g ≡ block_at number a elements
      → IsGraphIn number g a
  Deeper : {a : ActivityTree} (elements : List ElementTree) (b : ActivityTree) → IsBlockOf a elements
      → Contains (activities_in elements) b → IsGraphIn number g b → IsGraphIn number g a

-- of a block among these elements, or inside one
abbrev pub IsGraphInside : ℕ → List ElementTree → GraphAt → Type 0
IsGraphInside number elements g = (a : ActivityTree) × Contains (activities_in elements) a × IsGraphIn number g a

-- of a process, or of a block in it
abbrev pub IsGraphOfProcess : ℕ → ProcessTree → GraphAt → Type 0
IsGraphOfProcess number p g = (g ≡ process_at number p) ⊎ IsGraphInside number p.elements g

-- of one of these processes, by its number
abbrev pub IsGraphAmong : List ProcessTree → GraphAt → Type 0
IsGraphAmong processes g = (number : ℕ) × (p : ProcessTree) × (slice_get processes number ≡ Some p)
    × IsGraphOfProcess number p g

-- a graph of a text
abbrev pub IsGraphOf : List ItemTree → GraphAt → Type 0
IsGraphOf items g = IsGraphAmong (processes_in items) g

-- the graphs that scopes are
abbrev pub graphs_in : List Scope → List GraphAt
graphs_in scopes = map graph_at scopes

-- these graphs are put to the others, and no more
pub record AreAdded (old new : List GraphAt) (more : GraphAt → Type 0) : Type 0 where
  pub kept : (g : GraphAt) → Contains old g → Contains new g
  pub whole : (g : GraphAt) → more g → Contains new g
  pub only : (g : GraphAt) → Contains new g → Contains old g ⊎ more g

-- these are all graphs of a text
pub record AreGraphsOf (items : List ItemTree) (graphs : List GraphAt) : Type 0 where
  pub whole : (g : GraphAt) → IsGraphOf items g → Contains graphs g
  pub only : (g : GraphAt) → Contains graphs g → IsGraphOf items g

-- it is such a place of a graph of the text
abbrev pub InGraphs : List ItemTree → (GraphAt → ℕ → Type 0) → ℕ → Type 0
InGraphs items places p = (g : GraphAt) × IsGraphOf items g × places g p
