use Rattle.command_lang.specs.Grammar.{WordAndRest}
use Rattle.command_lang.proofs.Commands.{refused_err, refuses_behind, refuses_end, refuses_first}
use Rattle.command_lang.proofs.grammar.command.Goals as goal

pub returns-clause-read : goal.returns-clause-read
returns-clause-read c = WordAndRest c.in_ok-word.ensures.read (rw c.in_ok-end.ensures.read at c.in_ok-command.ensures.read)

pub returns-in_default-clause-refused : goal.returns-in_default-clause-refused
returns-in_default-clause-refused c = refuses_first (λ w here first. c.in_default.not-Some w (c.first_word.ensures.other w here first))

pub returns-in_err-command-clause-refused : goal.returns-in_err-command-clause-refused
returns-in_err-command-clause-refused c = refused_err c.from_residual-in_err-command.result c.in_err-command.field-0.0 c.from_residual-in_err-command.ensures.1 (refuses_behind c.in_ok-word.ensures.read c.in_err-command.ensures.stops)

pub returns-in_err-end-clause-refused : goal.returns-in_err-end-clause-refused
returns-in_err-end-clause-refused c = refused_err c.from_residual-in_err-end.result c.in_err-end.field-0.0 c.from_residual-in_err-end.ensures.1 (refuses_end c.in_ok-word.ensures.read c.in_ok-command.ensures.taken c.in_err-end.ensures.left)
