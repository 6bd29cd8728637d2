use Rattle.std.proofs.Common.{map}
use Rattle.flow_core.specs.OpenItems.{told_of}
use Rattle.flow_core.proofs.OpenRoots.{AreLeft}
use Rattle.flow_core.proofs.state.Core.open_items.Given as goal

abbrev pub invariant-loop-number : goal.invariant-loop-number
invariant-loop-number l = AreLeft l.self l.self.live_roots.entries l._number-iterator (map told_of l.found.items)
