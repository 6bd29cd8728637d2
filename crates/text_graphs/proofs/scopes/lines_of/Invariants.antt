use Rattle.std.proofs.Common.{◌≡◌, map, take}
use Rattle.text_graphs.specs.Texts.{lines_in}
use Rattle.text_graphs.proofs.scopes.lines_of.Given as goal

abbrev pub invariant-loop-element : goal.invariant-loop-element
invariant-loop-element l = map (λ x. x.now) l.lines.items ≡ lines_in (take l.element-index l.elements)
