use Rattle.std.proofs.Common.{ap, inr, ◌∙◌}
use Rattle.flow_disk.specs.Calls.{one_starved}
use Rattle.flow_disk.specs.Contents.{image_of}
use Rattle.flow_disk.specs.declared.change.Change.TheVariants.{Synced}
use Rattle.flow_disk.proofs.Steps.{since, synced_read, durable, synced_within}
use Rattle.flow_disk.proofs.memory.MemDiskDisk.sync.Goals as goal

pub returns-in-Ok-clause-durable : goal.returns-in-Ok-clause-durable
returns-in-Ok-clause-durable c = durable _ _ (ap image_of c.in-Ok.ensures.first) _ _ c.in-Ok.ensures.ok

pub returns-in-Ok-clause-seen : goal.returns-in-Ok-clause-seen
returns-in-Ok-clause-seen c = synced_read _ _ (ap image_of c.in-Ok.ensures.first) _ _ c.in-Ok.ensures.ok

pub returns-in-Ok-clause-crash : goal.returns-in-Ok-clause-crash
returns-in-Ok-clause-crash c = synced_within _ _ (ap image_of c.in-Ok.ensures.first) _ _ c.in-Ok.ensures.ok

pub returns-in-Ok-clause-time : goal.returns-in-Ok-clause-time
returns-in-Ok-clause-time c = since _ _ (ap image_of c.in-Ok.ensures.first) _ _ Synced c.in-Ok.ensures.ok

pub returns-in-Err-clause-serves : goal.returns-in-Err-clause-serves
returns-in-Err-clause-serves c = inr (c.in_ok-begin.ensures.serves.0, c.starve.ensures.counted ∙ ap one_starved c.in_ok-begin.ensures.serves.1)
