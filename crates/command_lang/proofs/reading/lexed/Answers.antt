use Rattle.command_lang.proofs.Faults.{stuck_fault, allowed_bytes}
use Rattle.command_lang.proofs.reading.lexed.Goals as goal

pub lex_allowed-requires-clause-allowed : goal.lex_allowed-requires-clause-allowed
lex_allowed-requires-clause-allowed c = allowed_bytes c.args.line.now c.requires.allowed

pub returns-in-Err-Token-clause-fault : goal.returns-in-Err-Token-clause-fault
returns-in-Err-Token-clause-fault c =
    stuck_fault c.args.line.now c.in-Err-Token.place c.from_one.result c.requires.short c.requires.allowed (rw c.in-Err-Token.field-0-is at c.in-Err-Token.ensures.fault)
    c.from_one.ensures
