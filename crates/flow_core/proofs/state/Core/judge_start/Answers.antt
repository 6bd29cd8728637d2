use Rattle.std.proofs.Common.{option_copied}
use Rattle.flow_core.proofs.Refusing.{start_for}
use Rattle.flow_core.proofs.state.Core.judge_start.Goals as goal

pub returns-clause-made : goal.returns-clause-made
returns-clause-made c =
    start_for c.args.self.now c.args.process.now c.args.starter.now (option_copied c.args.key) c.args.written.now c.in_ok-template.template.now c.start_of.result c.in_ok-template.ensures.newest c.start_of.ensures.made
