use Rattle.std.proofs.Common.{◌≡◌, [], drop}
use Rattle.fate_eval.specs.Entries.{dated_in}
use Rattle.fate_eval.proofs.accepted.completion.Given as goal

abbrev pub invariant-loop-entry : goal.invariant-loop-entry
invariant-loop-entry l = dated_in (drop l.entry-index l.entries) [] ≡ dated_in l.entries []
