use Rattle.std.proofs.Common.{◌≡◌, ◌+◌, ◌≤◌}
use Rattle.text_words.specs.Gathered.{kept}
use Rattle.text_words.proofs.Limits.{EndsAhead}
use Rattle.text_words.proofs.Gathering.{Gathers}
use Rattle.text_words.proofs.input.Input.read.Given as goal

abbrev pub invariant-turns : goal.invariant-turns
invariant-turns g l = record {
  counted : g.S.Source.faults l.src ≡ g.S.Source.faults l.initial.src;
  within : l.number + l.lines.room ≤ 268435456;
  ahead : EndsAhead (g.S.Source.left l.initial.src) (g.S.Source.left l.src) l.lines;
  so_far : Gathers l.has_end (g.S.Source.left l.initial.src) (g.S.Source.left l.src) l.lines l.number (kept l.input);
}

abbrev pub decreases-turns : goal.decreases-turns
decreases-turns g l = l.lines.room
