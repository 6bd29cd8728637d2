use Rattle.std.proofs.Common.{◌≡◌, drop}
use Rattle.live_history.specs.Transactions.{start_settings}
use Rattle.flow_core.proofs.views.start_among.Given as goal

abbrev pub invariant-loop-entry : goal.invariant-loop-entry
invariant-loop-entry l = start_settings l.root (drop l.entry-index l.entries) ≡ start_settings l.root l.entries
