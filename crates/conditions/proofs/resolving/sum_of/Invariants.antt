use Rattle.std.proofs.Common.{◌≡◌, ◌<◌, ◌^◌, Some, length, map, take, drop}
use Rattle.conditions.specs.Resolving.{AreKnown, resolved_term}
use Rattle.conditions.proofs.resolving.sum_of.Given as goal

abbrev pub invariant-loop-term : goal.invariant-loop-term
invariant-loop-term l = length l.leaves.leaves < 2 ^ 32 → AreKnown l.leaves.leaves l.written
    → AreKnown l.leaves.leaves (drop l.term-index l.written) × (map (resolved_term l.leaves.leaves) (take l.term-index l.written) ≡ map (λ term. Some term) l.terms)
