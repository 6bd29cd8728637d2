use Rattle.flow_core.specs.Summaries.{summary}
use Rattle.flow_disk.specs.Images.{Image}
use Rattle.flow_session.specs.Histories.{StandsFor}
use Rattle.flow_session.specs.Keeping.{IsOpen, rests}
use Rattle.flow_session.proofs.Runs.{served_to_end}
use Rattle.standby.specs.Followed.{StandsForEither}
use Rattle.standby.proofs.Adopting.{makes_adopted, makes_led}
use Rattle.standby.proofs.Going.{follows_as}
use Rattle.standby.proofs.following.follow_from.Goals as goal

pub returns-clause-makes : goal.returns-clause-makes
returns-clause-makes g c =
    let made = rw c.new.ensures.1 at c.take_stream-followed.ensures.makes in
    let makes = makes_led g.D.Disk.tells g.D.Disk.moment g.D.Disk.left_since c.args.disk
    c.take_stream-followed.new.self.journal.disk c.take_stream-followed.result c.args.core
    c.take_stream-followed.new.self.core made in
    rw c.into_disk.ensures (served_to_end g.D.Disk.tells g.D.Disk.moment g.D.Disk.left_since g.D.Disk.seen g.D.Disk.images c.take_stream-followed.new.self.journal.log c.args.disk c.take_stream-followed.new.self.journal.disk c.args.core c.take_stream-followed.new.self.core c.take_stream-followed.result c.take_stream-followed.ensures.kept makes)

pub returns-clause-adopts : goal.returns-clause-adopts
returns-clause-adopts g c right =
    let made = rw c.new.ensures.1 at c.take_stream-followed.ensures.makes in
    rw c.into_disk.ensures (makes_adopted g.D.Disk.tells g.D.Disk.moment g.D.Disk.left_since c.args.disk
    c.take_stream-followed.new.self.journal.disk c.take_stream-followed.result c.args.core
    c.take_stream-followed.new.self.core right made)

pub returns-clause-stages : goal.returns-clause-stages
returns-clause-stages g c right told = rw c.into_disk.ensures
    ((rw c.new.ensures.1 at c.take_stream-followed.ensures.stages) right told)

pub returns-clause-cause : goal.returns-clause-cause
returns-clause-cause g c = rw c.into_disk.ensures (rw c.new.ensures.1 at c.take_stream-followed.ensures.cause)

pub returns-clause-follows : goal.returns-clause-follows
returns-clause-follows g c right =
    let f = c.take_stream-followed in
    let d = g.D.Disk in
    rw c.into_disk.ensures (follows_as (λ core. d.tells → IsOpen d.seen d.images f.new.self.journal.log f.new.self.journal.disk (summary core)) (λ core. d.tells → (image : Image) → d.images f.new.self.journal.disk image → StandsFor (summary core) image) (StandsForEither d.tells (d.images f.new.self.journal.disk)) c.args.core (g.S.Source.left c.args.src.now) (g.S.Source.left f.new.src) f.result
    (λ core is told image left. rests d.seen d.images f.new.self.journal.log f.new.self.journal.disk (summary core) image (is told) left)
    (f.ensures.follows right))
