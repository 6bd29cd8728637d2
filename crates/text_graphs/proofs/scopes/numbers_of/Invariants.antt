use Rattle.std.proofs.Common.{map, take}
use Rattle.text_graphs.specs.Texts.{AreNumbered}
use Rattle.text_graphs.proofs.scopes.numbers_of.Given as goal

abbrev pub invariant-loop-i : goal.invariant-loop-i
invariant-loop-i l = AreNumbered (map (λ a. a.now) (take l.i l.activities)) l.numbers
