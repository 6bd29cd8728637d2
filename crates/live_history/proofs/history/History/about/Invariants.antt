use Rattle.std.proofs.Common.{◌≡◌, ◌++◌, drop}
use Rattle.std.specs.List.{filter_map}
use Rattle.live_history.specs.Rows.{transaction_at}
use Rattle.live_history.proofs.history.History.about.Given as goal

abbrev pub invariant-loop-place : goal.invariant-loop-place
invariant-loop-place l = l.found.items ++ filter_map (transaction_at l.self-inside.rows) (drop l.place-index l.place-items) ≡ filter_map (transaction_at l.self-inside.rows) l.place-items
