use Rattle.std.proofs.Common.{arith}
use Rattle.flow_core.specs.Refusals.{clock_test}
use Rattle.flow_core.proofs.Admitting.{behind}
use Rattle.flow_core.proofs.state.Core.allows_clock.Goals as goal

pub returns : goal.returns
returns c = behind (clock_test c.args.self.now c.args.minutes) c.passes.result (omega arith) (c.passes.ensures.told (clock_test c.args.self.now c.args.minutes) c.may_set_clock.ensures)
