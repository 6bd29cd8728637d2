use Rattle.std.proofs.Common.{refl, option_copied}
use Rattle.flow_core.proofs.Admitting.{start_due}
use Rattle.flow_core.proofs.state.Core.allows_start.Goals as goal

pub returns : goal.returns
returns c =
    start_due c.args.self.now c.args.process.now c.args.version c.args.starter.now (option_copied c.args.key) c.args.settings.now c.in-Some.template.now c.settings_fit.result
    c.in-Some.ensures c.if-template-version.false (c.if-not-is_person.ensures.0 refl) (c.if-not-is_unused.ensures.0 refl) c.settings_fit.ensures
