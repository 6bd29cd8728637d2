use Rattle.std.proofs.Common.{◌+◌}
use Rattle.flow_core.proofs.Counting.{counts_next}
use Rattle.flow_core.proofs.Exact.{exact_numbered}
use Rattle.flow_core.proofs.Moved.{drives_numbered}
use Rattle.flow_core.proofs.Shelved.{shelves_numbered}
use Rattle.flow_core.proofs.state.Core.apply.Goals as goal

pub returns-clause-drives : goal.returns-clause-drives
returns-clause-drives c =
    drives_numbered c.apply_as.result c.args.self.now (c.args.self.now.number + 1) c.apply_as.new.self c.args.t
    c.apply_as.ensures.drives

pub returns-clause-counts : goal.returns-clause-counts
returns-clause-counts c = counts_next c.apply_as.result c.args.self.now c.apply_as.new.self c.args.t c.apply_as.ensures.applied

pub returns-clause-shelves : goal.returns-clause-shelves
returns-clause-shelves c =
    shelves_numbered c.apply_as.result c.args.self.now (c.args.self.now.number + 1) c.apply_as.new.self c.args.t
    c.apply_as.ensures.shelves

pub returns-clause-exact : goal.returns-clause-exact
returns-clause-exact c =
    exact_numbered c.apply_as.result c.args.self.now (c.args.self.now.number + 1) c.apply_as.new.self c.args.t
    c.apply_as.ensures.exact
