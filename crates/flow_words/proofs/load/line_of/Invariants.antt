use Rattle.std.proofs.Common.{◌≡◌, ◌++◌, ◌∷◌, codes, take, decimal}
use Rattle.std.specs.List.{flat_map}
use Rattle.flow_words.proofs.load.line_of.Given as goal

abbrev pub invariant-loop-number : goal.invariant-loop-number
invariant-loop-number l = l.text.items ≡ codes "ok LOAD" ++ flat_map (λ n. 32 ∷ decimal n) (take l.number-index l.numbers)
