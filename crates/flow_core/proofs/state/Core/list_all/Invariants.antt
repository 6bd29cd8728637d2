use Rattle.std.proofs.Common.{◌≡◌}
use Rattle.flow_core.specs.Shelving.{SameStanding, stands, all_listed}
use Rattle.flow_core.proofs.state.Core.list_all.Given as goal

abbrev pub invariant-loop-item : goal.invariant-loop-item
invariant-loop-item l = (l.self ≡ record l.fn.self { worklists = l.self.worklists }) × SameStanding (stands l.self) (all_listed l.fn.self l.yielded (stands l.fn.self))
