use Rattle.command_lang.specs.Grammar.{DoneTarget}
use Rattle.command_lang.proofs.Commands.{refused_err, refuses_done, refuses_target, refuses_outcome, refuses_done_end}
use Rattle.flow_table.specs.declared.keyword.Keyword.TheVariants as word
use Rattle.fdl_parser.proofs.StopsTokens.{stops_word}
use Rattle.command_lang.proofs.grammar.completion.Goals as goal

pub returns-clause-read : goal.returns-clause-read
returns-clause-read c = DoneTarget c.in_ok-word.ensures.read c.in_ok-target.ensures.read (rw c.in_ok-end.ensures.read at c.in_ok-outcome.ensures.read)

pub returns-in_err-word-clause-refused : goal.returns-in_err-word-clause-refused
returns-in_err-word-clause-refused c = refused_err c.from_residual.result c.in_err-word.field-0.0 c.from_residual.ensures.1 (refuses_done (stops_word word.Done c.args.cursor.now c.word.new.self _ c.in_err-word.ensures.refused))

pub returns-in_err-target-clause-refused : goal.returns-in_err-target-clause-refused
returns-in_err-target-clause-refused c = refused_err c.from_residual-in_err-target.result c.in_err-target.field-0.0 c.from_residual-in_err-target.ensures.1 (refuses_target c.in_ok-word.ensures.read c.in_err-target.ensures.stops)

pub returns-in_err-outcome-clause-refused : goal.returns-in_err-outcome-clause-refused
returns-in_err-outcome-clause-refused c = refused_err c.from_residual-in_err-outcome.result c.in_err-outcome.field-0.0 c.from_residual-in_err-outcome.ensures.1 (refuses_outcome c.in_ok-word.ensures.read c.in_ok-target.ensures.read c.in_err-outcome.ensures.stops)

pub returns-in_err-end-clause-refused : goal.returns-in_err-end-clause-refused
returns-in_err-end-clause-refused c = refused_err c.from_residual-in_err-end.result c.in_err-end.field-0.0 c.from_residual-in_err-end.ensures.1 (refuses_done_end c.in_ok-word.ensures.read c.in_ok-target.ensures.read c.in_ok-outcome.ensures.taken c.in_err-end.ensures.left)
