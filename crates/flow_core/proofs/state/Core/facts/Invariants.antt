use Rattle.std.proofs.Common.{◌≡◌, ◌++◌, drop}
use Rattle.std.specs.List.{filter_map}
use Rattle.flow_core.specs.Facts.{fact_about}
use Rattle.flow_core.proofs.state.Core.facts.Given as goal

abbrev pub invariant-loop-entry : goal.invariant-loop-entry
invariant-loop-entry l =
    l.facts ++ filter_map (fact_about l.self l.root) (drop l.entry-index l.entry-items)
    ≡ filter_map (fact_about l.self l.root) l.entry-items
