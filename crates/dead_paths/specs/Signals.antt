-- The SIGNALs that an activity sends once it has ended.
use Rattle.std.specs.Prelude.{ℕ, ◌==◌, Bool, Option, Some, None, List, slice_get}
use Rattle.std.specs.List.{filter, filter_map}
use Rattle.flow_model.specs.declared.graphs.Activity.{Activity}
use Rattle.flow_model.specs.declared.graphs.Control.{Control}
use Rattle.flow_model.specs.declared.graphs.Graph.{Graph, out-Graph}
use Rattle.flow_model.specs.declared.instances.Message.{Message}
use Rattle.flow_model.specs.declared.instances.Message.TheVariants.{Signal}
use Rattle.flow_model.specs.declared.instances.Path.{Path}
use Rattle.flow_model.specs.declared.instances.SourceEnd.{SourceEnd}
use Rattle.flow_model.specs.Fates.{connector_value}

-- the SIGNAL from one activity to another, where both are there and the value is known
abbrev pub signal : Path → Option Activity → Option Activity → Option Bool → Option Message
signal s (Some a) (Some b) (Some v) = Some (Signal s a.name b.name v)
signal s (Some a) (Some b) None = None
signal s (Some a) None v = None
signal s None b v = None

-- the SIGNAL of a connector whose source has ended so
abbrev pub signal_of : Graph → Path → SourceEnd → Control → Option Message
signal_of g s e c =
    signal s (slice_get (out-Graph g).activities c.from) (slice_get (out-Graph g).activities c.to)
    (connector_value (out-Graph g).controls c e)

-- the SIGNALs of an activity that has ended so, in text order
abbrev pub signals : Graph → Path → ℕ → SourceEnd → List Message
signals g s a e = filter_map (signal_of g s e) (filter (λ c. c.from == a) (out-Graph g).controls)
