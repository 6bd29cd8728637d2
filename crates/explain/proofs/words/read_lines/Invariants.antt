use Rattle.std.proofs.Common.{◌≡◌, false, map, take, vec_len}
use Rattle.std.specs.List.{All}
use Rattle.certificates.specs.Lines.{line_text, IsSpellable}
use Rattle.explain.proofs.words.read_lines.Given as goal

-- each line so far gave one, by its bytes
abbrev pub invariant-loop-bytes : goal.invariant-loop-bytes
invariant-loop-bytes l = (map line_text l.read.items ≡ map (λ line. line.0.items) (take l.bytes-index l.lines)) × (vec_len l.read ≡ l.bytes-index)
    × All IsSpellable l.read.items × All (λ line. line.1 ≡ false) (take l.bytes-index l.lines)
