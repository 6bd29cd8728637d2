use Rattle.std.proofs.Common.{ap, inr, ◌∙◌}
use Rattle.flow_disk.specs.Calls.{one_starved}
use Rattle.flow_disk.specs.Contents.{image_of}
use Rattle.flow_disk.specs.declared.change.Change.TheVariants.{Wrote}
use Rattle.flow_disk.proofs.Steps.{since, written, torn, written_left}
use Rattle.flow_disk.proofs.memory.MemDiskDisk.write_at.Goals as goal

pub returns-in-Ok-clause-written : goal.returns-in-Ok-clause-written
returns-in-Ok-clause-written c told = let ok = c.in-Ok.ensures.ok in written _ _ (ap image_of c.in-Ok.ensures.first) _ _ c.args.slot c.args.at ok.0 c.args.bytes.now ok.1 ok.2

pub returns-in-Ok-clause-torn : goal.returns-in-Ok-clause-torn
returns-in-Ok-clause-torn c told = let ok = c.in-Ok.ensures.ok in torn _ _ (ap image_of c.in-Ok.ensures.first) _ _ c.args.slot c.args.at ok.0 c.args.bytes.now ok.1 ok.2

pub returns-in-Ok-clause-crash : goal.returns-in-Ok-clause-crash
returns-in-Ok-clause-crash c = let ok = c.in-Ok.ensures.ok in written_left _ _ (ap image_of c.in-Ok.ensures.first) _ _ c.args.slot c.args.at ok.0 c.args.bytes.now ok.1 ok.2

pub returns-in-Ok-clause-time : goal.returns-in-Ok-clause-time
returns-in-Ok-clause-time c = let ok = c.in-Ok.ensures.ok in since _ _ (ap image_of c.in-Ok.ensures.first) _ _ (Wrote c.args.slot c.args.at ok.0) ok.2

pub returns-in-Err-clause-serves : goal.returns-in-Err-clause-serves
returns-in-Err-clause-serves c = inr (c.in_ok-begin.ensures.serves.0, c.starve.ensures.counted ∙ ap one_starved c.in_ok-begin.ensures.serves.1)
