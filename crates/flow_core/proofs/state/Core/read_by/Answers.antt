use Rattle.flow_core.specs.Allowing.{seen_entry}
use Rattle.flow_core.proofs.Contained.{input_read}
use Rattle.flow_core.proofs.state.Core.read_by.Goals as goal

pub returns : goal.returns
returns c = input_read c.input.result (seen_entry c.args.item) c.input.ensures.state c.input.ensures.shows
