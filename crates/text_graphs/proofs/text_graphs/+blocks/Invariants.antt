use Rattle.std.proofs.Common.{take}
use Rattle.std.specs.List.{All}
use Rattle.text_graphs.specs.Texts.{activities_in}
use Rattle.text_graphs.specs.Blocks.{lists_of, IsListed, Grows}
use Rattle.text_graphs.specs.Graphs.{graphs_in, AreAdded, IsGraphInside}
use Rattle.text_graphs.proofs.text_graphs.+blocks.Given as goal

abbrev pub invariant-add_blocks-loop-element : goal.invariant-add_blocks-loop-element
invariant-add_blocks-loop-element l = Grows (lists_of l.initial.scopes.items) (lists_of l.scopes.items) × All (IsListed (lists_of l.scopes.items)) (activities_in (take l.element-index l.elements))
    × AreAdded (graphs_in l.initial.scopes.items) (graphs_in l.scopes.items) (IsGraphInside l.process (take l.element-index l.elements))
