use Rattle.std.proofs.Common.{◌≡◌, ◌++◌}
use Rattle.std.specs.List.{flat_map}
use Rattle.std.specs.Vec.Iter.{into_iter_items}
use Rattle.fate_eval.proofs.passes.joined.Given as goal

abbrev pub invariant-loop-below : goal.invariant-loop-below
invariant-loop-below l = l.all.items ++ flat_map (λ r. r.items) (into_iter_items l.below-iterator) ≡ flat_map (λ r. r.items) l.fn.rows.items
