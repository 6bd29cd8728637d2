use Rattle.std.proofs.Common.{◌≡◌, map, take}
use Rattle.text_graphs.specs.Texts.{activities_in}
use Rattle.text_graphs.proofs.scopes.activities_of.Given as goal

abbrev pub invariant-loop-element : goal.invariant-loop-element
invariant-loop-element l = map (λ x. x.now) l.activities.items ≡ activities_in (take l.element-index l.elements)
