use Rattle.std.proofs.Common.{rules}
use Rattle.flow_words.specs.Endings.{status_of}
use Rattle.flow_words.specs.Scripts.{status_of_word}
use Rattle.flow_words.specs.declared.status.Status.TheVariants.{NoMemory}
use Rattle.flow_words.proofs.Verdicts.{prints_verdict, no_verdict, unread}
use Rattle.flow_words.proofs.looking.verify_over.Goals as goal

pub returns-in_err-text-in-Ok-clause-prints : goal.returns-in_err-text-in-Ok-clause-prints
returns-in_err-text-in-Ok-clause-prints g c = no_verdict (g.S.Source.left c.args.src.now) (g.K.Sink.held c.args.out.now) c.args.core.now (status_of_word c.from_residual.result) NoMemory (search rules) tt

pub returns-in-Err-clause-prints : goal.returns-in-Err-clause-prints
returns-in-Err-clause-prints g c = no_verdict (g.S.Source.left c.args.src.now) (g.K.Sink.held c.args.out.now) c.args.core.now c.line_status.result (status_of c.in-Err.stop) c.line_status.ensures.status (unread (g.S.Source.left c.args.src.now) c.in-Err.stop c.in-Err.ensures.limit)

pub returns-in_ok-text-in-Ok-clause-prints : goal.returns-in_ok-text-in-Ok-clause-prints
returns-in_ok-text-in-Ok-clause-prints g c = prints_verdict (g.K.Sink.held c.args.out.now) (g.K.Sink.held c.print_answer.new.out) (status_of_word c.print_answer.result) c.args.core.now (g.S.Source.left c.args.src.now) c.in-Ok.lines.items c.deref.result.now c.in_ok-text-in-Ok.text.items c.deref-in-Ok.result.now c.in_ok-text-in-Ok.is_refused c.in-Ok.ensures.lines c.deref.ensures.value c.in_ok-text-in-Ok.ensures c.deref-in-Ok.ensures.value c.print_answer.ensures.prints

pub returns-in_ok-text-in-Ok-clause-cause : goal.returns-in_ok-text-in-Ok-clause-cause
returns-in_ok-text-in-Ok-clause-cause g c store = c.print_answer.ensures.cause (g.S.Source.faults c.args.src.now) (g.S.Source.faults c.all_lines.new.src) store store
