-- The text of a graph, with what stands round it.
use Rattle.std.specs.Prelude.{ℕ, List}
use Rattle.flow_model.specs.declared.trees.ActivityTree.{ActivityTree}
use Rattle.flow_model.specs.declared.trees.ElementTree.{ElementTree}
use Rattle.flow_model.specs.declared.trees.ProcessTree.{ProcessTree}
use Rattle.text_graphs.specs.declared.scopes.Scope.{Scope}

-- the elements of a graph, the names of its structures, and the number of its process in the text
pub record GraphText : Type 0 where
  pub process : ℕ
  pub input : List ℕ
  pub output : List ℕ
  pub elements : List ElementTree

-- of the graph that a scope is
abbrev pub text_of : Scope → GraphText
text_of scope = record {
  process = scope.process;
  input = scope.input.now.name;
  output =
      scope.output.now.name;
  elements = scope.elements.now;
}

-- of a process
abbrev pub process_text : ℕ → ProcessTree → GraphText
process_text number process = record {
  process = number;
  input = process.input.name;
  output =
      process.output.name;
  elements = process.elements;
}

-- of a block with these elements
abbrev pub block_text : ℕ → ActivityTree → List ElementTree → GraphText
block_text number activity elements = record {
  process = number;
  input = activity.input.name;
  output =
      activity.output.name;
  elements = elements;
}
