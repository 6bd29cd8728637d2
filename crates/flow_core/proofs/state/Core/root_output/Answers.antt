use Rattle.std.proofs.Common.{ap}
use Rattle.flow_core.specs.Driving.{templates}
use Rattle.flow_core.proofs.Contained.{shown_output}
use Rattle.flow_core.proofs.state.Core.root_output.Goals as goal

pub returns : goal.returns
returns c =
    shown_output c.output.result (templates c.args.self.now) c.library.result.now.templates c.args.graph.now c.args.instance.now (ap (λ l. l.templates) c.library.ensures) c.requires c.output.ensures
