use Rattle.std.proofs.Common.{◌≡◌, ◌∙◌, ◌+◌, [], length, refl}
use Rattle.flow_core.specs.Summaries.{summary}
use Rattle.flow_session.proofs.Keeping.{counts_since}
use Rattle.flow_session.specs.Keeping.{IsOpen}
use Rattle.standby.specs.Endings.{FollowEnd}
use Rattle.standby.specs.Followed.{StandsBehind, StandsForEither}
use Rattle.standby.specs.Readers.{ahead}
use Rattle.standby.specs.Stages.{Stage, Here, stage}
use Rattle.standby.specs.Streams.{frame_bytes}
use Rattle.standby.proofs.Adopting.{makes_on, makes_stopped, makes_up_to, taken_ok, takes_none}
use Rattle.standby.proofs.Taken.{left_alone, stands_open, untouched}
use Rattle.standby.proofs.Ended.{end_since, stops}
use Rattle.standby.proofs.Going.{leaves_further, unread_frame, untaken_at, one_further, stops_next, stops_frames, never_dry, read_end_held}
use Rattle.standby.proofs.Waiting.{reaches_on}
use Rattle.standby.proofs.following.Standby.take_frames.Goals as goal

pub frames-init : goal.frames-init
frames-init g c = record {
  open' = c.requires.open;
  makes = untouched g.D.Disk.tells g.D.Disk.moment g.D.Disk.left_since g.D.Disk.seen g.D.Disk.images
      g.met.D.Disk.only_now c.args.self.now.journal.log c.args.self.now.journal.disk (summary c.args.self.now.core) _
      c.requires.open (takes_none c.args.self.now.core);
  stages = λ right told.
      let first : Stage = stage c.args.self.now.core c.args.self.now.taken c.args.from c.args.blocks.now
      (g.S.Source.left c.args.src.now) in
      left_alone g.D.Disk.tells g.D.Disk.moment g.D.Disk.left_since g.D.Disk.seen g.D.Disk.images
      g.met.D.Disk.only_now c.args.self.now.journal.log c.args.self.now.journal.disk (summary c.args.self.now.core)
      (StandsBehind first) c.requires.open
      (λ image stands. record { last = first; reached = Here; ended = stands }) told;
  source = refl;
  disk = refl;
  counted = c.requires.counted;
  right = λ right. right;
  reached = λ _. Here;
}

pub returns-in_err-number-clause-makes : goal.returns-in_err-number-clause-makes
returns-in_err-number-clause-makes g c =
    makes_stopped g.D.Disk.tells g.D.Disk.moment g.D.Disk.left_since
    (counts_since g.D.Disk.moment g.D.Disk.left_since g.D.Disk.images g.met.D.Disk.counts_now g.met.D.Disk.only_now)
    c.from_residual-in_err-number.result c.take_next.result c.in_err-number.field-0.0
    c.args.self.now.journal.disk c.frames.self.journal.disk c.take_next.new.self.journal.disk
    c.args.self.now.core c.frames.self.core c.take_next.new.self.core
    c.from_residual-in_err-number.ensures.1 c.frames.invariant.makes c.take_next.ensures.makes

pub returns-in_err-read_frame-clause-makes : goal.returns-in_err-read_frame-clause-makes
returns-in_err-read_frame-clause-makes g c =
    makes_up_to g.D.Disk.tells g.D.Disk.moment g.D.Disk.left_since c.args.self.now.journal.disk
    c.frames.self.journal.disk c.from_residual.result c.args.self.now.core c.frames.self.core c.frames.invariant.makes

pub returns-then-not-branch-clause-makes : goal.returns-then-not-branch-clause-makes
returns-then-not-branch-clause-makes g c =
    makes_up_to g.D.Disk.tells g.D.Disk.moment g.D.Disk.left_since c.args.self.now.journal.disk
    c.frames.self.journal.disk c.at_end.result c.args.self.now.core c.frames.self.core c.frames.invariant.makes

pub frames-preserved : goal.frames-preserved
frames-preserved g c =
    let i = c.frames.invariant in
    let e = c.in_ok-number.ensures in
    let left = g.S.Source.left c.read_frame.new.src in
    let first : Stage = stage c.args.self.now.core c.args.self.now.taken c.args.from c.args.blocks.now (g.S.Source.left c.args.src.now) in
    let old : Stage = stage c.frames.self.core c.frames.self.taken c.frames.number c.frames.blocks (g.S.Source.left c.frames.src) in
    let new : Stage = stage c.take_next.new.self.core c.take_next.new.self.taken c.in_ok-number.number c.take_next.new.blocks (g.S.Source.left c.read_frame.new.src) in
    let payload = c.read_frame.new.payload.items in
    let reads = rw c.if-not-branch.false at c.in_ok-read_frame.ensures.reads in
    let place : c.read_frame.new.blocks.place ≡ old.place + length (frame_bytes payload) = c.in_ok-read_frame.ensures.place c.if-not-branch.false in
    record {
      open' = e.kept;
      makes =
          makes_on g.D.Disk.tells g.D.Disk.moment g.D.Disk.left_since
          (counts_since g.D.Disk.moment g.D.Disk.left_since g.D.Disk.images g.met.D.Disk.counts_now g.met.D.Disk.only_now)
          c.in_ok-number.number c.args.self.now.journal.disk
          c.frames.self.journal.disk c.take_next.new.self.journal.disk c.args.self.now.core c.frames.self.core
          c.take_next.new.self.core i.makes e.makes;
      stages = λ right told.
          leaves_further g.D.Disk.moment g.D.Disk.left_since c.args.self.now.journal.disk c.frames.self.journal.disk
          c.take_next.new.self.journal.disk
          first old c.read_frame.new.blocks left c.deref.result.now payload (i.reached right) c.deref.ensures.value
          reads.0 reads.1 place
          (i.stages right told) (c.take_next.ensures.stages (i.right right) told);
      source = c.in_ok-read_frame.ensures.cause ∙ i.source;
      disk = e.cause ∙ i.disk;
      counted = e.counted;
      right = λ right. (taken_ok c.in_ok-number.number c.frames.self.core c.take_next.new.self.core
          e.makes.transactions e.makes.ended).leads.right (i.right right);
      reached = λ right.
          let on = e.takes (i.right right) in
          let mid : Stage = stage on.mid on.count (c.frames.number + 1) c.read_frame.new.blocks (g.S.Source.left c.read_frame.new.src) in
          reaches_on first mid new
          (one_further first old mid c.deref.result.now payload (i.reached right) c.deref.ensures.value reads.0 reads.1 place refl on.first) (on.behind left);
    }

pub returns-in_err-number-clause-stages : goal.returns-in_err-number-clause-stages
returns-in_err-number-clause-stages g c right told =
    let i = c.frames.invariant in
    let first : Stage = stage c.args.self.now.core c.args.self.now.taken c.args.from c.args.blocks.now (g.S.Source.left c.args.src.now) in
    let s : Stage = stage c.frames.self.core c.frames.self.taken c.frames.number c.frames.blocks (g.S.Source.left c.frames.src) in
    let reads = rw c.if-not-branch.false at c.in_ok-read_frame.ensures.reads in
    let place : c.read_frame.new.blocks.place ≡ s.place + length (frame_bytes c.read_frame.new.payload.items) = c.in_ok-read_frame.ensures.place c.if-not-branch.false in
    leaves_further g.D.Disk.moment g.D.Disk.left_since c.args.self.now.journal.disk c.frames.self.journal.disk
    c.take_next.new.self.journal.disk
    first s c.read_frame.new.blocks (g.S.Source.left c.read_frame.new.src) c.deref.result.now
    c.read_frame.new.payload.items (i.reached right) c.deref.ensures.value reads.0 reads.1 place
    (i.stages right told) (c.take_next.ensures.stages (i.right right) told)

pub returns-in_err-read_frame-clause-cause : goal.returns-in_err-read_frame-clause-cause
returns-in_err-read_frame-clause-cause g c =
    let old = g.S.Source.faults c.args.src.now in
    let mid = g.S.Source.faults c.frames.src in
    let new = g.S.Source.faults c.read_frame.new.src in
    let disk = g.D.Disk.faults c.args.self.now.journal.disk in
    let disk' = g.D.Disk.faults c.frames.self.journal.disk in
    let stop = c.in_err-read_frame.field-0.0 in
    stops (λ _. (new ≡ old) × (disk' ≡ disk)) (FollowEnd old new disk disk') c.from_residual.result stop c.from_residual.ensures.1 (end_since old mid new disk disk' disk' stop c.frames.invariant.source c.frames.invariant.disk (c.in_err-read_frame.ensures.cause disk'))

pub returns-in_err-read_frame-clause-follows : goal.returns-in_err-read_frame-clause-follows
returns-in_err-read_frame-clause-follows g c right =
    let first : Stage = stage c.args.self.now.core c.args.self.now.taken c.args.from c.args.blocks.now (g.S.Source.left c.args.src.now) in
    let s : Stage = stage c.frames.self.core c.frames.self.taken c.frames.number c.frames.blocks (g.S.Source.left c.frames.src) in
    let after = ahead c.read_frame.new.blocks (g.S.Source.left c.read_frame.new.src) in
    let stop = c.in_err-read_frame.field-0.0 in
    let d = g.D.Disk in
    let now = c.frames.self.journal in
    stops_frames (λ core. d.tells → IsOpen d.seen d.images now.log now.disk (summary core))
    (StandsForEither d.tells (d.images now.disk)) first (g.S.Source.left c.read_frame.new.src) c.frames.self.core
    c.frames.self.taken c.from_residual.result stop c.from_residual.ensures.1
    (record {
      held = c.read_frame.new.blocks.held;
      block = c.read_frame.ensures.block;
      goes = record {
        last = s;
        reached = c.frames.invariant.reached right;
        ended =
            unread_frame (λ core. d.tells → IsOpen d.seen d.images now.log now.disk (summary core))
            (StandsForEither d.tells (d.images now.disk)) s after stop
            (rw c.number.ensures at c.in_err-read_frame.ensures.reads) c.frames.invariant.open';
      };
    })
    c.in_err-read_frame.ensures.dry

pub returns-in_err-number-clause-cause : goal.returns-in_err-number-clause-cause
returns-in_err-number-clause-cause g c =
    let old = g.S.Source.faults c.args.src.now in
    let new = g.S.Source.faults c.read_frame.new.src in
    let disk = g.D.Disk.faults c.args.self.now.journal.disk in
    let mid = g.D.Disk.faults c.frames.self.journal.disk in
    let disk' = g.D.Disk.faults c.take_next.new.self.journal.disk in
    let stop = c.in_err-number.field-0.0 in
    stops (λ _. (new ≡ old) × (disk' ≡ disk)) (FollowEnd old new disk disk') c.from_residual-in_err-number.result stop c.from_residual-in_err-number.ensures.1 (end_since old new new disk mid disk' stop (c.in_ok-read_frame.ensures.cause ∙ c.frames.invariant.source) c.frames.invariant.disk (c.in_err-number.ensures.cause new))

pub returns-in_err-number-clause-follows : goal.returns-in_err-number-clause-follows
returns-in_err-number-clause-follows g c right =
    let i = c.frames.invariant in
    let d = g.D.Disk in
    let first : Stage = stage c.args.self.now.core c.args.self.now.taken c.args.from c.args.blocks.now (g.S.Source.left c.args.src.now) in
    let s : Stage = stage c.frames.self.core c.frames.self.taken c.frames.number c.frames.blocks (g.S.Source.left c.frames.src) in
    let after = ahead c.read_frame.new.blocks (g.S.Source.left c.read_frame.new.src) in
    let stop = c.in_err-number.field-0.0 in
    let reads = rw c.if-not-branch.false at c.in_ok-read_frame.ensures.reads in
    let place : c.read_frame.new.blocks.place ≡ s.place + length (frame_bytes c.read_frame.new.payload.items) = c.in_ok-read_frame.ensures.place c.if-not-branch.false in
    let now = c.take_next.new.self.journal in
    let stopped = stops_next (λ core. d.tells → IsOpen d.seen d.images now.log now.disk (summary core))
    (StandsForEither d.tells (d.images now.disk)) (now ≡ c.frames.self.journal)
    first s c.read_frame.new.blocks (g.S.Source.left c.read_frame.new.src) c.deref.result.now c.read_frame.new.payload.items stop (i.reached right)
    (untaken_at s c.place-place.result after c.deref.result.now c.read_frame.new.payload.items stop c.place-place.ensures.at c.deref.ensures.value reads.0 reads.1 (c.in_err-number.ensures.stops (i.right right)))
    c.deref.ensures.value reads.0 reads.1 place c.read_frame.ensures.block (λ same. rw same i.open')
    (λ same. rw same (stands_open d.tells d.seen d.images c.frames.self.journal.log c.frames.self.journal.disk s.core i.open'))
    (c.in_err-number.ensures.left (i.right right)) in
    stops_frames (λ core. d.tells → IsOpen d.seen d.images now.log now.disk (summary core))
    (StandsForEither d.tells (d.images now.disk)) first (g.S.Source.left c.read_frame.new.src)
    c.take_next.new.self.core c.take_next.new.self.taken c.from_residual-in_err-number.result stop
    c.from_residual-in_err-number.ensures.1
    stopped
    (never_dry (d.faults c.frames.self.journal.disk) (d.faults c.take_next.new.self.journal.disk) (stopped.held ≡ [])
    stop (c.in_err-number.ensures.cause 0))

pub returns-then-not-branch-clause-follows : goal.returns-then-not-branch-clause-follows
returns-then-not-branch-clause-follows g c right =
    let first : Stage = stage c.args.self.now.core c.args.self.now.taken c.args.from c.args.blocks.now (g.S.Source.left c.args.src.now) in
    let s : Stage = stage c.frames.self.core c.frames.self.taken c.frames.number c.frames.blocks (g.S.Source.left c.frames.src) in
    let mid = ahead c.read_frame.new.blocks (g.S.Source.left c.read_frame.new.src) in
    let given = rw c.if-not-branch.true at c.in_ok-read_frame.ensures.reads in
    let d = g.D.Disk in
    let now = c.frames.self.journal in
    read_end_held (λ core. d.tells → IsOpen d.seen d.images now.log now.disk (summary core))
    (StandsForEither d.tells (d.images now.disk)) first s c.read_frame.new.blocks.place mid
    (g.S.Source.left c.at_end.new.src) c.at_end.new.blocks.held c.at_end.result
    (c.in_ok-read_frame.ensures.end c.if-not-branch.true) (c.frames.invariant.reached right) given
    c.frames.invariant.open' c.at_end.ensures.ends c.at_end.ensures.block c.at_end.ensures.dry
