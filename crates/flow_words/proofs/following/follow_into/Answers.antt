use Rattle.std.proofs.lemmas.Result.{MatchResult-weaker}
use Rattle.flow_session.proofs.Runs.{done_where}
use Rattle.flow_words.proofs.following.follow_into.Goals as goal

pub returns-clause-store : goal.returns-clause-store
returns-clause-store g c told only = done_where g.D.Disk.tells g.D.Disk.moment g.D.Disk.left_since g.D.Disk.seen g.D.Disk.images c.args.disk c.follow-followed.result.1 _ _ (c.follow-followed.ensures.kept told only) c.print_followed.ensures.done

pub returns-clause-cause : goal.returns-clause-cause
returns-clause-cause g c = c.print_followed.ensures.cause (g.S.Source.faults c.args.src.now) (g.S.Source.faults c.follow-followed.new.src) (g.D.Disk.faults c.args.disk) (g.D.Disk.faults c.follow-followed.result.1) (MatchResult-weaker c.follow-followed.result.0 c.follow-followed.ensures.cause (λ x same. tt) (λ stop why. why))

pub returns-clause-follows : goal.returns-clause-follows
returns-clause-follows g c = record { result = c.follow-followed.result.0; comes_to = c.follow-followed.ensures.follows; printed = c.print_followed.ensures.prints }
