use Rattle.std.proofs.Common.{◌≡◌, ◌-◌, ◌≤◌, ◌++◌, ◌∷◌, map, take, drop, max}
use Rattle.flow_model.specs.LeafRows.{place_steps}
use Rattle.leaf_rules.specs.StructureLeaves.{below}
use Rattle.leaf_rules.proofs.rows.add_below.Given as goal

abbrev pub invariant-loop-row : goal.invariant-loop-row
invariant-loop-row l =
    (l.row ≤ max l.first l.past)
    × (l.first ≤ l.row)
    × (l.table ≡ l.initial.table ++ map (below (l.head.value ∷ place_steps l.place)) (take (l.row - l.first) (drop l.first l.initial.table)))
