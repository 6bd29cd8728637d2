use Rattle.std.proofs.Common.{rules}
use Rattle.standby.specs.Texts.{follow_refusal_line}
use Rattle.flow_words.specs.Scripts.{status_of_word}
use Rattle.flow_words.specs.declared.status.Status.TheVariants.{Refused}
use Rattle.flow_words.proofs.Standby.{line_printed, refusal_printed}
use Rattle.flow_words.proofs.following.print_unfollowed.Goals as goal

pub returns-in-Store-clause-cause : goal.returns-in-Store-clause-cause
returns-in-Store-clause-cause g c read read' store store' ended = c.refuse.ensures.cause read read' store store' (rw c.in-Store.is at ended).1

pub returns-in_ok-follow_refusal-in_default : goal.returns-in_ok-follow_refusal-in_default
returns-in_ok-follow_refusal-in_default g c = record {
  fails = search rules;
  prints = refusal_printed (g.K.Sink.held c.args.out.now) (g.K.Sink.held c.print_answer.new.out) (status_of_word c.print_answer.result) c.args.stop c.in_default.not-Store c.in_default.not-ReadFault c.in_default.not-TooLong c.in_default.not-NoMemory
      (line_printed (g.K.Sink.held c.args.out.now) (g.K.Sink.held c.print_answer.new.out) (status_of_word c.print_answer.result) (follow_refusal_line c.args.stop) c.in_ok-follow_refusal-in_default.field-0.items c.deref.result.now Refused c.in_ok-follow_refusal-in_default.ensures c.deref.ensures.value c.print_answer.ensures.prints);
  cause = λ read read' store store' ended. c.print_answer.ensures.cause read read' store store';
}
