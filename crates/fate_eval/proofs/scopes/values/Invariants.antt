use Rattle.std.proofs.Common.{◌≡◌, take}
use Rattle.std.specs.Prelude.{slice_get}
use Rattle.std.specs.List.{filter_map}
use Rattle.std.specs.Option.{option_map}
use Rattle.flow_model.specs.Fates.{connector_value}
use Rattle.flow_model.specs.declared.graphs.Graph.{out-Graph}
use Rattle.blocks_subprocs.specs.Ends.{ends_of}
use Rattle.flow_model.specs.Wiring.{IsOutgoing}
use Rattle.fate_eval.proofs.scopes.values.Given as goal

abbrev pub invariant-loop-place : goal.invariant-loop-place
invariant-loop-place l =
    IsOutgoing l.graph
    → l.values.items ≡ filter_map (λ p. option_map (λ c. connector_value (out-Graph l.graph).controls c (ends_of l.ends c.from)) (slice_get (out-Graph l.graph).controls p)) (take l.place-index l.place-items)
