use Rattle.std.proofs.Common.{◌∙◌}
use Rattle.flow_core.proofs.About.{all_told}
use Rattle.flow_core.proofs.state.Core.facts.Goals as goal

pub returns : goal.returns
returns c =
    all_told c.args.self.now c.args.root c.as_slice-entry-items.result.now c.args.self.now.live.items c.loop-entry.entry-index
    c.loop-entry.facts (c.as_slice-entry-items.ensures.value ∙ c.in_ok-about.ensures)
    c.loop-entry-test.false c.loop-entry.invariant
