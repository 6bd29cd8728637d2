use Rattle.flow_core.specs.Driving.{templates}
use Rattle.flow_core.proofs.Versions.{searched}
use Rattle.flow_core.proofs.state.Core.version_place.Goals as goal

pub returns-in_default-clause-version : goal.returns-in_default-clause-version
returns-in_default-clause-version c =
    searched
    (templates c.args.self.now) c.args.process.now c.args.version c.version.result c.version.ensures

pub returns-in-Some-clause-version : goal.returns-in-Some-clause-version
returns-in-Some-clause-version c = c.is_version.ensures.version c.if-is_version.true
