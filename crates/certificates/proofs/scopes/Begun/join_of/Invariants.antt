use Rattle.std.proofs.Common.{◌≡◌, take}
use Rattle.fate_laws.specs.Equations.{value_in}
use Rattle.fate_laws.specs.Layout.{IsLaid}
use Rattle.flow_model.specs.declared.graphs.Graph.{out-Graph}
use Rattle.blocks_subprocs.specs.Ends.{ends_of}
use Rattle.certificates.proofs.Rows.{values_of}
use Rattle.certificates.proofs.scopes.Begun.join_of.Given as goal

abbrev pub invariant-loop-place : goal.invariant-loop-place
invariant-loop-place l =
    IsLaid l.self.graph.now
    → l.values.items ≡ values_of (value_in (out-Graph l.self.graph.now).controls (ends_of l.self.ends.items)) (out-Graph l.self.graph.now).controls (take l.place-index l.place-items)
