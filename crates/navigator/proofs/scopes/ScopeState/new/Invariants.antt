use Rattle.navigator.proofs.Making.{Made}
use Rattle.navigator.proofs.scopes.ScopeState.new.Given as goal

abbrev pub invariant-loop-i : goal.invariant-loop-i
invariant-loop-i l = Made l.graph l.i l.tallies.items l.ends.items l.states.items
