use Rattle.std.proofs.Common.{inl}
use Rattle.command_lang.proofs.SameCommands.{one_completion, no_completion, none_of}
use Rattle.command_lang.proofs.Spoken.{says_completion, refused}
use Rattle.std.proofs.lemmas.Result.{err_from_is_err_and}
use Rattle.command_lang.specs.Refusing.{SomeCompletion}
use Rattle.command_lang.proofs.Refused.{refused_first, no_completion_refused}
use Rattle.command_lang.proofs.reading.Reader.completion.Goals as goal

pub returns-in-Ok-clause-says : goal.returns-in-Ok-clause-says
returns-in-Ok-clause-says c =
    says_completion c.args.line.now c.in-Some.spoken.now c.read_tokens.new.tokens.items c.in-Ok.completion c.in_ok-read_tokens.ensures.tokens c.in-Some.ensures.some.0 c.in-Some.ensures.some.1
    (rw (c.new-cursor.ensures, c.as_slice.ensures) at c.in-Ok.ensures.read)

pub returns-in-Err-clause-refused : goal.returns-in-Err-clause-refused
returns-in-Err-clause-refused c =
    refused c.args.line.now c.in-Some.spoken.now c.read_tokens.new.tokens.items c.in-Err.fault c.command_fault.result _ c.in_ok-read_tokens.ensures.tokens c.in-Some.ensures.some.0 c.in-Some.ensures.some.1
    (rw (c.new-cursor.ensures, c.as_slice.ensures) at c.in-Err.ensures.within) c.in-Err.ensures.names c.command_fault.ensures.place c.command_fault.ensures.memory

pub returns-in-Ok-clause-one : goal.returns-in-Ok-clause-one
returns-in-Ok-clause-one c =
    one_completion c.args.line.now c.in-Ok.completion
    (says_completion c.args.line.now c.in-Some.spoken.now c.read_tokens.new.tokens.items c.in-Ok.completion c.in_ok-read_tokens.ensures.tokens c.in-Some.ensures.some.0 c.in-Some.ensures.some.1
    (rw (c.new-cursor.ensures, c.as_slice.ensures) at c.in-Ok.ensures.read))

pub returns-in_default-clause-one : goal.returns-in_default-clause-one
returns-in_default-clause-one c =
    no_completion c.args.line.now (rw (c.spoken.ensures.none (none_of c.spoken.result c.in_default.not-Some)) at c.in_ok-read_tokens.ensures.tokens)

pub returns-in-Err-clause-first : goal.returns-in-Err-clause-first
returns-in-Err-clause-first c =
    refused_first SomeCompletion c.args.line.now c.in-Some.spoken.now c.read_tokens.new.tokens.items c.in-Err.fault c.command_fault.result _ c.in_ok-read_tokens.ensures.tokens c.in-Some.ensures.some.0 c.in-Some.ensures.some.1
    (rw (c.new-cursor.ensures, c.as_slice.ensures) at c.in-Err.ensures.within) c.in-Err.ensures.names (rw (c.new-cursor.ensures, c.as_slice.ensures) at c.in-Err.ensures.refused) c.command_fault.ensures.place c.command_fault.ensures.memory

pub returns-in-Err-clause-none : goal.returns-in-Err-clause-none
returns-in-Err-clause-none c =
    no_completion_refused c.args.line.now c.command_fault.result
    (refused_first SomeCompletion c.args.line.now c.in-Some.spoken.now c.read_tokens.new.tokens.items c.in-Err.fault c.command_fault.result _ c.in_ok-read_tokens.ensures.tokens c.in-Some.ensures.some.0 c.in-Some.ensures.some.1
    (rw (c.new-cursor.ensures, c.as_slice.ensures) at c.in-Err.ensures.within) c.in-Err.ensures.names (rw (c.new-cursor.ensures, c.as_slice.ensures) at c.in-Err.ensures.refused) c.command_fault.ensures.place c.command_fault.ensures.memory)

pub returns-in_err-read_tokens-clause-none : goal.returns-in_err-read_tokens-clause-none
returns-in_err-read_tokens-clause-none c =
    let p = err_from_is_err_and c.from_residual.result c.from_residual.ensures.1 in
    rw (p.1, p.2) (no_completion_refused c.args.line.now c.in_err-read_tokens.field-0.0 (inl c.in_err-read_tokens.ensures.fault))
