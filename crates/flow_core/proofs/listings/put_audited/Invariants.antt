use Rattle.std.proofs.Common.{◌≡◌, ◌++◌, drop}
use Rattle.std.specs.List.{flat_map}
use Rattle.flow_core.specs.Answers.{numbered_line}
use Rattle.flow_core.proofs.listings.put_audited.Given as goal

abbrev pub invariant-loop-entry : goal.invariant-loop-entry
invariant-loop-entry l =
    l.out.items ++ flat_map numbered_line (drop l.entry-index l.entries)
    ≡ l.initial.out.items ++ flat_map numbered_line l.entries
