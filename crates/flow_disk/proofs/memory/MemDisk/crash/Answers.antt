use Rattle.std.proofs.Common.{◌≡◌, ◌∙◌, sym, subst, ap, rules, ℕ}
use Rattle.flow_disk.specs.Contents.{image_of}
use Rattle.flow_disk.specs.Crashes.{crashed}
use Rattle.flow_disk.specs.InMemory.{seen_by, crashed_by}
use Rattle.flow_disk.specs.Replay.{MayLeave}
use Rattle.flow_disk.proofs.Torn.{crash_left, crashed_zero, crashed_one}
use Rattle.flow_disk.proofs.memory.MemDisk.crash.Goals as goal

pub returns-clause-image : goal.returns-clause-image
returns-clause-image c =
    let first = image_of c.args.self.now.kept.first in
    let changes = c.args.self.now.kept.changes.items in
    let is : seen_by c.in_ok-disk.disk ≡ crashed_by c.args.choice c.args.self.now = search rules in
    subst (MayLeave first changes) (sym is) (crash_left c.args.choice first changes)

pub returns-clause-synced : goal.returns-clause-synced
returns-clause-synced c zero =
    let first = image_of c.args.self.now.kept.first in
    let changes = c.args.self.now.kept.changes.items in
    let is : seen_by c.in_ok-disk.disk ≡ crashed_by c.args.choice c.args.self.now = search rules in
    is ∙ (ap (λ (n : ℕ). crashed n first first changes) zero ∙ crashed_zero changes first first)

pub returns-clause-read : goal.returns-clause-read
returns-clause-read c one =
    let first = image_of c.args.self.now.kept.first in
    let changes = c.args.self.now.kept.changes.items in
    let is : seen_by c.in_ok-disk.disk ≡ crashed_by c.args.choice c.args.self.now = search rules in
    is ∙ (ap (λ (n : ℕ). crashed n first first changes) one ∙ crashed_one changes first)
