use Rattle.std.proofs.Common.{[], map, take}
use Rattle.std.specs.List.{AllWithin}
use Rattle.text_graphs.specs.Blocks.{lists_of, IsCovered}
use Rattle.text_graphs.specs.Graphs.{graphs_in, AreAdded, IsGraphAmong}
use Rattle.text_graphs.proofs.text_graphs.text_scopes.Given as goal

abbrev pub invariant-loop-i : goal.invariant-loop-i
invariant-loop-i l = record {
  covered : AllWithin (λ p. IsCovered (lists_of l.scopes.items) p.now.elements) l.process-items 0 l.i;
  added : AreAdded [] (graphs_in l.scopes.items) (IsGraphAmong (take l.i (map (λ q. q.now) l.process-items)));
}
