use Rattle.text_graphs.proofs.Closing.{AreMarked}
use Rattle.text_graphs.proofs.edges.Edges.closed_nodes.Given as goal

abbrev pub invariant-loop-i : goal.invariant-loop-i
invariant-loop-i l = AreMarked l.self.nodes l.self.pairs.items l.cyclic.items l.closed.items l.i
