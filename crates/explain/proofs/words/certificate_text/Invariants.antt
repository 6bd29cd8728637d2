use Rattle.std.proofs.Common.{◌≡◌, ◌∷◌, [], ◌++◌, length, take, codes, decimal}
use Rattle.std.specs.List.{flat_map}
use Rattle.explain.specs.Certificates.{line_printed}
use Rattle.explain.proofs.words.certificate_text.Given as goal

-- the head, and the lines so far
abbrev pub invariant-loop-line : goal.invariant-loop-line
invariant-loop-line l = l.out.items ≡ codes "ok EXPLAIN " ++ decimal (length l.lines) ++ 10 ∷ [] ++ flat_map line_printed (take l.line-index l.lines)
