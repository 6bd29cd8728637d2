use Rattle.std.proofs.Common.{◌≡◌, drop}
use Rattle.std.specs.Prelude.{slice_get}
use Rattle.std.specs.List.{fold}
use Rattle.std.specs.Option.{option_map_or}
use Rattle.flow_model.specs.ScopeContainers.{brought, mapped_if}
use Rattle.blocks_subprocs.specs.Ends.{ends_of}
use Rattle.blocks_subprocs.proofs.inputs.with_lines.Given as goal

abbrev pub invariant-loop-place : goal.invariant-loop-place
invariant-loop-place l =
    fold (λ d p. option_map_or (λ line. mapped_if line.maps (brought line.from l.scope_input (ends_of l.ends)) d) (slice_get l.lines p) d) l.changed (drop l.place-index l.places)
    ≡ fold (λ d p. option_map_or (λ line. mapped_if line.maps (brought line.from l.scope_input (ends_of l.ends)) d) (slice_get l.lines p) d) l.initial.changed l.places
