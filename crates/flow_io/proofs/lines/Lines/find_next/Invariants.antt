use Rattle.std.proofs.Common.{◌≡◌, ◌-◌, ◌+◌, length, List, ℕ}
use Rattle.flow_io.proofs.Progress.{Progress}
use Rattle.flow_io.proofs.lines.Lines.find_next.Given as goal

abbrev pub invariant-turns : goal.invariant-turns
invariant-turns g l = record {
  counted : g.S.Source.faults l.src ≡ g.S.Source.faults l.initial.src;
  so_far : (gone : List ℕ) × (given : List ℕ) × Progress l.initial.self (g.S.Source.left l.initial.src) (g.S.Source.left l.src) l.self l.passed l.scanned gone given;
}

abbrev pub decreases-turns : goal.decreases-turns
decreases-turns g l = l.self.room + 1 - length l.self.held
