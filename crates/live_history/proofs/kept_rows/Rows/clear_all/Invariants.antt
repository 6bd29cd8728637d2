use Rattle.std.proofs.Common.{◌≡◌, drop}
use Rattle.live_history.specs.Rows.{cleared}
use Rattle.live_history.proofs.kept_rows.Rows.clear_all.Given as goal

abbrev pub invariant-loop-place : goal.invariant-loop-place
invariant-loop-place l = cleared (drop l.place-index l.places) l.self ≡ cleared l.places l.initial.self
