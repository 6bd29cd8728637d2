use Rattle.std.proofs.Common.{◌≡◌, take}
use Rattle.std.specs.Prelude.{slice_get, option_and_then}
use Rattle.std.specs.List.{filter_map}
use Rattle.flow_model.specs.declared.graphs.Graph.{out-Graph}
use Rattle.dead_paths.specs.Signals.{signal_of}
use Rattle.flow_model.specs.Wiring.{IsOutgoing}
use Rattle.dead_paths.proofs.signals.signals_of.Given as goal

abbrev pub invariant-loop-place : goal.invariant-loop-place
invariant-loop-place l =
    IsOutgoing l.graph
    → l.signals ≡ filter_map (λ p. option_and_then (signal_of l.graph l.scope l.end) (slice_get (out-Graph l.graph).controls p)) (take l.place-index l.place-items)
