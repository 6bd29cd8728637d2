use Rattle.std.proofs.Common.{◌≡◌, inl, inr, List, [], ℕ, Ok, Err, arith, subst, refl, rules}
use Rattle.flow_core.specs.Summaries.{summary}
use Rattle.flow_disk.proofs.Runs.{weaker}
use Rattle.flow_session.specs.Histories.{StandsFor}
use Rattle.standby.specs.Endings.{FollowEnd}
use Rattle.standby.proofs.Adopting.{ends_none, makes_no_more, makes_ok}
use Rattle.standby.proofs.Taken.{left_alone, untouched}
use Rattle.standby.proofs.Ended.{end_since, stops}
use Rattle.standby.specs.declared.stops.FollowStop.TheVariants.{NoMemory}
use Rattle.standby.specs.Fronts.{FrontJudged}
use Rattle.standby.specs.Readers.{ahead}
use Rattle.standby.specs.Followed.{IsAtStage, StandsBehind}
use Rattle.standby.specs.Stages.{Stage, stage}
use Rattle.standby.proofs.Ahead.{new_block}
use Rattle.standby.proofs.Going.{stops_source, front_none, front_unread, front_read, from_front, judged_dry, done_source}
use Rattle.standby.proofs.following.Standby.take_stream.Goals as goal

pub returns-in_err-blocks-clause-makes : goal.returns-in_err-blocks-clause-makes
returns-in_err-blocks-clause-makes g c = untouched g.D.Disk.tells g.D.Disk.moment g.D.Disk.left_since g.D.Disk.seen
    g.D.Disk.images g.met.D.Disk.only_now c.args.self.now.journal.log c.args.self.now.journal.disk
    (summary c.args.self.now.core) _ c.requires.open
    (ends_none _ c.args.self.now.core c.args.self.now.core (search rules))

pub returns-in_err-read-clause-makes : goal.returns-in_err-read-clause-makes
returns-in_err-read-clause-makes g c = untouched g.D.Disk.tells g.D.Disk.moment g.D.Disk.left_since g.D.Disk.seen
    g.D.Disk.images g.met.D.Disk.only_now c.args.self.now.journal.log c.args.self.now.journal.disk
    (summary c.args.self.now.core) _ c.requires.open
    (ends_none _ c.args.self.now.core c.args.self.now.core (search rules))

pub returns-in_err-front-clause-makes : goal.returns-in_err-front-clause-makes
returns-in_err-front-clause-makes g c = untouched g.D.Disk.tells g.D.Disk.moment g.D.Disk.left_since g.D.Disk.seen
    g.D.Disk.images g.met.D.Disk.only_now c.args.self.now.journal.log c.args.self.now.journal.disk
    (summary c.args.self.now.core) _ c.requires.open
    (ends_none _ c.args.self.now.core c.args.self.now.core (search rules))

pub returns-in_err-take_frames-clause-makes : goal.returns-in_err-take_frames-clause-makes
returns-in_err-take_frames-clause-makes g c =
    makes_no_more g.D.Disk.tells g.D.Disk.moment g.D.Disk.left_since c.args.self.now.journal.disk
    c.take_frames.new.self.journal.disk c.from_residual-in_err-take_frames.result c.take_frames.result
    c.in_err-take_frames.field-0.0 c.args.self.now.core c.take_frames.new.self.core c.take_frames.new.self.core
    c.from_residual-in_err-take_frames.ensures.1 c.take_frames.ensures.makes

pub returns-clause-makes : goal.returns-clause-makes
returns-clause-makes g c =
    makes_ok g.D.Disk.tells g.D.Disk.moment g.D.Disk.left_since c.args.self.now.journal.disk
    c.take_frames.new.self.journal.disk tt _ c.args.self.now.core c.take_frames.new.self.core
    c.in_ok-take_frames.ensures.makes

pub returns-in_err-read-clause-cause : goal.returns-in_err-read-clause-cause
returns-in_err-read-clause-cause g c =
    let old = g.S.Source.faults c.args.src.now in
    let new = g.S.Source.faults c.read.new.src in
    let disk = g.D.Disk.faults c.args.self.now.journal.disk in
    stops (λ _. (new ≡ old) × (disk ≡ disk)) (FollowEnd old new disk disk) c.from_residual-in_err-read.result c.in_err-read.field-0.0 c.from_residual-in_err-read.ensures.1 (c.in_err-read.ensures.cause disk)

pub returns-in_err-front-clause-cause : goal.returns-in_err-front-clause-cause
returns-in_err-front-clause-cause g c =
    let old = g.S.Source.faults c.args.src.now in
    let new = g.S.Source.faults c.read.new.src in
    let disk = g.D.Disk.faults c.args.self.now.journal.disk in
    let stop = c.in_err-front.field-0.0 in
    stops (λ _. (new ≡ old) × (disk ≡ disk)) (FollowEnd old new disk disk) c.from_residual-in_err-front.result stop c.from_residual-in_err-front.ensures.1 (end_since old new new disk disk disk stop c.in_ok-read.ensures.cause refl (c.in_err-front.ensures.cause new disk))

pub returns-in_err-blocks-clause-follows : goal.returns-in_err-blocks-clause-follows
returns-in_err-blocks-clause-follows g c right =
    stops_source _ _ c.args.self.now.core (g.S.Source.left c.args.src.now) (g.S.Source.left c.args.src.now)
    c.from_residual.result NoMemory [] c.from_residual.ensures.1
    (inl (inl (front_none (g.S.Source.left c.args.src.now)), c.requires.open)) (omega arith) (λ is. refl)

pub returns-in_err-read-clause-follows : goal.returns-in_err-read-clause-follows
returns-in_err-read-clause-follows g c right =
    let left = g.S.Source.left c.args.src.now in
    let after = ahead c.read.new.self (g.S.Source.left c.read.new.src) in
    let stop = c.in_err-read.field-0.0 in
    stops_source _ _ c.args.self.now.core left (g.S.Source.left c.read.new.src) c.from_residual-in_err-read.result stop c.read.new.self.held c.from_residual-in_err-read.ensures.1
    (inl (
      inl (front_unread left after c.in_ok-blocks.blocks c.read.new.out.items stop c.in_ok-blocks.ensures
          c.in_err-read.ensures.reads),
      c.requires.open,
    ))
    (c.read.ensures.block (new_block c.in_ok-blocks.blocks c.in_ok-blocks.ensures)) c.in_err-read.ensures.dry

pub returns-in_err-front-clause-follows : goal.returns-in_err-front-clause-follows
returns-in_err-front-clause-follows g c right =
    let left = g.S.Source.left c.args.src.now in
    let after = ahead c.read.new.self (g.S.Source.left c.read.new.src) in
    let stop = c.in_err-front.field-0.0 in
    let bytes = c.read.new.out.items in
    let judged = subst (λ (xs : List ℕ). FrontJudged (summary c.args.self.now.core) xs (Err stop)) c.deref.ensures.value c.in_err-front.ensures.judged in
    stops_source _ _ c.args.self.now.core left (g.S.Source.left c.read.new.src) c.from_residual-in_err-front.result stop c.read.new.self.held c.from_residual-in_err-front.ensures.1
    (inl (inr (record { bytes = bytes; mid = after; front = front_read left after c.in_ok-blocks.blocks bytes c.in_ok-read.field-0 c.in_ok-blocks.ensures c.in_ok-read.ensures.reads; judged = judged }), c.requires.open))
    (c.read.ensures.block (new_block c.in_ok-blocks.blocks c.in_ok-blocks.ensures))
    (judged_dry (summary c.args.self.now.core) bytes (c.read.new.self.held ≡ []) stop judged)

pub returns-in_err-take_frames-clause-follows : goal.returns-in_err-take_frames-clause-follows
returns-in_err-take_frames-clause-follows g c right =
    let left = g.S.Source.left c.args.src.now in
    let mid = g.S.Source.left c.read.new.src in
    let stop = c.in_err-take_frames.field-0.0 in
    let bytes = c.read.new.out.items in
    let judged = subst (λ (xs : List ℕ). FrontJudged (summary c.args.self.now.core) xs (Ok c.in_ok-front.front)) c.deref.ensures.value c.in_ok-front.ensures.judged in
    let read = front_read left (ahead c.read.new.self mid) c.in_ok-blocks.blocks bytes c.in_ok-read.field-0 c.in_ok-blocks.ensures c.in_ok-read.ensures.reads in
    let frames = c.in_err-take_frames.ensures.follows right in
    stops_source _ _ c.args.self.now.core left (g.S.Source.left c.take_frames.new.src) c.from_residual-in_err-take_frames.result stop frames.held c.from_residual-in_err-take_frames.ensures.1
    (inr (from_front c.args.self.now.core c.args.self.now.taken c.read.new.self mid left bytes c.in_ok-blocks.blocks c.in_ok-front.front _ c.in_ok-blocks.ensures c.requires.none c.in_ok-read.ensures.place read judged frames.follows))
    frames.block frames.dry

pub returns-clause-follows : goal.returns-clause-follows
returns-clause-follows g c right =
    let left = g.S.Source.left c.args.src.now in
    let mid = g.S.Source.left c.read.new.src in
    let bytes = c.read.new.out.items in
    let judged = subst (λ (xs : List ℕ). FrontJudged (summary c.args.self.now.core) xs (Ok c.in_ok-front.front)) c.deref.ensures.value c.in_ok-front.ensures.judged in
    let read = front_read left (ahead c.read.new.self mid) c.in_ok-blocks.blocks bytes c.in_ok-read.field-0 c.in_ok-blocks.ensures c.in_ok-read.ensures.reads in
    let s = c.take_frames.new.self in
    let frames = c.in_ok-take_frames.ensures.follows right in
    let last = from_front c.args.self.now.core c.args.self.now.taken c.read.new.self mid left bytes c.in_ok-blocks.blocks c.in_ok-front.front _ c.in_ok-blocks.ensures c.requires.none c.in_ok-read.ensures.place read judged frames.follows in
    done_source _ _ c.args.self.now.core s.core s.taken left (g.S.Source.left c.take_frames.new.src) frames.held _
    c.number.ensures refl c.in_ok-take_frames.ensures.kept frames.block last

-- ---- what a crash leaves

pub returns-in_err-blocks-clause-stages : goal.returns-in_err-blocks-clause-stages
returns-in_err-blocks-clause-stages g c right told = left_alone g.D.Disk.tells g.D.Disk.moment g.D.Disk.left_since
    g.D.Disk.seen g.D.Disk.images g.met.D.Disk.only_now c.args.self.now.journal.log c.args.self.now.journal.disk
    (summary c.args.self.now.core) (IsAtStage c.args.self.now.core (g.S.Source.left c.args.src.now)) c.requires.open
    (λ image stands. inl stands) told

pub returns-in_err-read-clause-stages : goal.returns-in_err-read-clause-stages
returns-in_err-read-clause-stages g c right told = left_alone g.D.Disk.tells g.D.Disk.moment g.D.Disk.left_since
    g.D.Disk.seen g.D.Disk.images g.met.D.Disk.only_now c.args.self.now.journal.log c.args.self.now.journal.disk
    (summary c.args.self.now.core) (IsAtStage c.args.self.now.core (g.S.Source.left c.args.src.now)) c.requires.open
    (λ image stands. inl stands) told

pub returns-in_err-front-clause-stages : goal.returns-in_err-front-clause-stages
returns-in_err-front-clause-stages g c right told = left_alone g.D.Disk.tells g.D.Disk.moment g.D.Disk.left_since
    g.D.Disk.seen g.D.Disk.images g.met.D.Disk.only_now c.args.self.now.journal.log c.args.self.now.journal.disk
    (summary c.args.self.now.core) (IsAtStage c.args.self.now.core (g.S.Source.left c.args.src.now)) c.requires.open
    (λ image stands. inl stands) told

pub returns-in_err-take_frames-clause-stages : goal.returns-in_err-take_frames-clause-stages
returns-in_err-take_frames-clause-stages g c right told =
    let left = g.S.Source.left c.args.src.now in
    let mid = g.S.Source.left c.read.new.src in
    let bytes = c.read.new.out.items in
    let judged = subst (λ (xs : List ℕ). FrontJudged (summary c.args.self.now.core) xs (Ok c.in_ok-front.front)) c.deref.ensures.value c.in_ok-front.ensures.judged in
    let read = front_read left (ahead c.read.new.self mid) c.in_ok-blocks.blocks bytes c.in_ok-read.field-0 c.in_ok-blocks.ensures c.in_ok-read.ensures.reads in
    let first : Stage = stage c.args.self.now.core c.args.self.now.taken c.in_ok-front.front.from c.read.new.self mid in
    weaker g.D.Disk.moment g.D.Disk.left_since g.D.Disk.images c.args.self.now.journal.disk
    c.take_frames.new.self.journal.disk (StandsBehind first) (IsAtStage c.args.self.now.core left)
    (c.take_frames.ensures.stages right told)
    (λ image goes. inr (from_front c.args.self.now.core c.args.self.now.taken c.read.new.self mid left bytes
    c.in_ok-blocks.blocks c.in_ok-front.front (λ s. StandsFor (summary s.core) image) c.in_ok-blocks.ensures
    c.requires.none c.in_ok-read.ensures.place read judged goes))

pub returns-clause-stages : goal.returns-clause-stages
returns-clause-stages g c right told =
    let left = g.S.Source.left c.args.src.now in
    let mid = g.S.Source.left c.read.new.src in
    let bytes = c.read.new.out.items in
    let judged = subst (λ (xs : List ℕ). FrontJudged (summary c.args.self.now.core) xs (Ok c.in_ok-front.front)) c.deref.ensures.value c.in_ok-front.ensures.judged in
    let read = front_read left (ahead c.read.new.self mid) c.in_ok-blocks.blocks bytes c.in_ok-read.field-0 c.in_ok-blocks.ensures c.in_ok-read.ensures.reads in
    let first : Stage = stage c.args.self.now.core c.args.self.now.taken c.in_ok-front.front.from c.read.new.self mid in
    weaker g.D.Disk.moment g.D.Disk.left_since g.D.Disk.images c.args.self.now.journal.disk
    c.take_frames.new.self.journal.disk (StandsBehind first) (IsAtStage c.args.self.now.core left)
    (c.take_frames.ensures.stages right told)
    (λ image goes. inr (from_front c.args.self.now.core c.args.self.now.taken c.read.new.self mid left bytes
    c.in_ok-blocks.blocks c.in_ok-front.front (λ s. StandsFor (summary s.core) image) c.in_ok-blocks.ensures
    c.requires.none c.in_ok-read.ensures.place read judged goes))
