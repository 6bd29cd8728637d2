use Rattle.std.proofs.Common.{◌≡◌, ◌∙◌, ap}
use Rattle.live_history.specs.Transactions.{start_settings}
use Rattle.live_history.proofs.About.{start_about}
use Rattle.flow_core.proofs.state.Core.start_input.Goals as goal

pub returns : goal.returns
returns c =
    let settings : c.start_among-settings.result.now ≡ start_settings c.args.root c.args.self.now.live.items =
    c.start_among-settings.ensures ∙ ap (start_settings c.args.root) (c.deref.ensures.value ∙ c.in_ok-about.ensures)
    ∙ start_about c.args.root c.args.self.now.live.items in
    rw (← settings, ← c.in_ok-input.ensures) c.with_settings.ensures
