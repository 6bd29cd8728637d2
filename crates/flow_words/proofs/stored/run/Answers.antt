use Rattle.std.proofs.Common.{◌≡◌, None, Some, codes, map, string_bytes, refl, subst, rules}
use Rattle.flow_session.proofs.Runs.{kept_alone}
use Rattle.flow_words.specs.Outside.{channels, files}
use Rattle.flow_words.specs.Said.{Say, IsSaid}
use Rattle.flow_words.specs.Scripts.{status_of_word}
use Rattle.flow_words.proofs.Crashes.{crash_ended}
use Rattle.flow_words.proofs.EndingLemmas.{ends_usage}
use Rattle.flow_words.proofs.Statuses.{usage_ends, word_ends}
use Rattle.flow_words.proofs.stored.run.Goals as goal

pub returns-in_default : goal.returns-in_default
returns-in_default g c =
    let words = map string_bytes c.args.words.now in
    let none : c.word_of.result ≡ None = search rules in
    let read = g.S.Source.faults c.args.src.now in
    let ended = status_of_word c.print_usage.result in
    let printed = c.print_usage.ensures.prints in
    rw c.ended.ensures (record {
      correct = record {
        word = None;
        said = subst (IsSaid words) none c.word_of.ensures;
        prints = printed;
        statuses = usage_ends words (channels g.S.Source g.K.Sink c.args.src.now c.args.src.now c.args.out.now c.print_usage.new.out) (files g.D.Disk c.args.disk c.args.disk) ended printed;
        causes = ends_usage read read (g.K.Sink.faults c.args.out.now) (g.K.Sink.faults c.print_usage.new.out) 0 0 (codes "no USAGE\n") (g.K.Sink.held c.args.out.now) (g.K.Sink.held c.print_usage.new.out) ended printed (c.print_usage.ensures.cause read read 0 0);
        crash = λ told only. kept_alone g.D.Disk.tells g.D.Disk.moment g.D.Disk.left_since g.D.Disk.seen g.D.Disk.images g.met.D.Disk.only_now c.args.disk only;
        source = refl;
        untouched = refl;
      };
    })

pub returns : goal.returns
returns g c =
    let words = map string_bytes c.args.words.now in
    let said : Say words c.in-Some.word = subst (IsSaid words) c.in-Some.is c.word_of.ensures in
    let all = c.obey-end.ensures in
    rw c.ended-2.ensures (record {
      correct = record {
        word = Some c.in-Some.word;
        said = said;
        prints = all.prints;
        statuses = word_ends words c.in-Some.word (channels g.S.Source g.K.Sink c.args.src.now c.obey-end.new.src c.args.out.now c.obey-end.new.out) (files g.D.Disk c.args.disk c.obey-end.result.1) (status_of_word c.obey-end.result.0) said all.prints all.causes;
        causes = all.causes;
        crash = λ told only. crash_ended (files g.D.Disk c.args.disk c.obey-end.result.1) c.obey-end.result.0 c.in-Some.word (all.crash told only);
        source = all.source;
        untouched = all.untouched;
      };
    })

pub obey-end-requires : goal.obey-end-requires
obey-end-requires g c = subst (IsSaid (map string_bytes c.args.words.now)) c.in-Some.is c.word_of.ensures
