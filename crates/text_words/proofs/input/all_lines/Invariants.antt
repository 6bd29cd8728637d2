use Rattle.std.proofs.Common.{◌≡◌}
use Rattle.text_words.proofs.Limits.{EndsAhead}
use Rattle.text_words.proofs.Gathering.{KeepsLines}
use Rattle.text_words.proofs.input.all_lines.Given as goal

abbrev pub invariant-turns : goal.invariant-turns
invariant-turns g l = record {
  counted : g.S.Source.faults l.src ≡ g.S.Source.faults l.initial.src;
  ahead : EndsAhead (g.S.Source.left l.initial.src) (g.S.Source.left l.src) l.lines;
  so_far : KeepsLines (g.S.Source.left l.initial.src) (g.S.Source.left l.src) l.lines l.kept.items;
}

abbrev pub decreases-turns : goal.decreases-turns
decreases-turns g l = l.lines.room
