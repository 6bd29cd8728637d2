use Rattle.std.proofs.Common.{◌≡◌, drop}
use Rattle.std.specs.Prelude.{slice_get}
use Rattle.std.specs.List.{fold}
use Rattle.std.specs.Option.{option_map_or}
use Rattle.flow_model.specs.Containers.{mapped}
use Rattle.blocks_subprocs.proofs.inputs.next_input.Given as goal

abbrev pub invariant-loop-place : goal.invariant-loop-place
invariant-loop-place l =
    fold (λ d p. option_map_or (λ line. mapped line.maps l.last d) (slice_get l.loops p) d) l.changed (drop l.place-index l.place-items)
    ≡ fold (λ d p. option_map_or (λ line. mapped line.maps l.last d) (slice_get l.loops p) d) l.initial.changed l.place-items
