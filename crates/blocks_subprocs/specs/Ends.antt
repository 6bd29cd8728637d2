-- How the activities of a scope have ended, kept as a list by their places.
use Rattle.std.specs.Prelude.{unwrap_or, List, slice_get}
use Rattle.flow_model.specs.Fates.{Ends}
use Rattle.flow_model.specs.declared.instances.SourceEnd.{SourceEnd}
use Rattle.flow_model.specs.declared.instances.SourceEnd.TheVariants.{Unsettled}

-- past the end of the list nothing is settled
abbrev pub ends_of : List SourceEnd → Ends
ends_of ends a = unwrap_or (slice_get ends a) Unsettled
