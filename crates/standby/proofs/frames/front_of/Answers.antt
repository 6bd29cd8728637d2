use Rattle.std.specs.Int.{w64, to_be_bytes}
use Rattle.standby.proofs.Fronts.{behind_magic}
use Rattle.standby.proofs.frames.front_of.Goals as goal

pub returns : goal.returns
returns c = behind_magic c.args.bytes.now (to_be_bytes w64 c.number_of.result) (to_be_bytes w64 c.number_of-2.result) c.if-bytes-ne-FRONT.false c.number_of.ensures c.number_of-2.ensures
