use Rattle.command_lang.specs.Grammar.{Import, Drain, Checkpoint}
use Rattle.command_lang.proofs.Commands.{import_taken, drain_taken, checkpoint_taken}
use Rattle.command_lang.proofs.grammar.behind.Goals as goal

pub returns-in-Import-clause-read : goal.returns-in-Import-clause-read
returns-in-Import-clause-read c = rw (c.in-Import.is, c.from_vec.ensures, c.new.ensures.items) Import

pub returns-in-Drain-clause-read : goal.returns-in-Drain-clause-read
returns-in-Drain-clause-read c = rw c.in-Drain.is Drain

pub returns-in-Checkpoint-clause-read : goal.returns-in-Checkpoint-clause-read
returns-in-Checkpoint-clause-read c = rw c.in-Checkpoint.is Checkpoint

pub returns-in-Import-clause-taken : goal.returns-in-Import-clause-taken
returns-in-Import-clause-taken c = rw c.in-Import.is import_taken

pub returns-in-Drain-clause-taken : goal.returns-in-Drain-clause-taken
returns-in-Drain-clause-taken c = rw c.in-Drain.is drain_taken

pub returns-in-Checkpoint-clause-taken : goal.returns-in-Checkpoint-clause-taken
returns-in-Checkpoint-clause-taken c = rw c.in-Checkpoint.is checkpoint_taken
