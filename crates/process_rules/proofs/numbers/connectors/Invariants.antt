use Rattle.std.proofs.Common.{◌≡◌, ℕ, get_or, length, take}
use Rattle.std.specs.List.{count_by}
use Rattle.process_rules.specs.Numbers.{is_to}
use Rattle.text_graphs.specs.Texts.{activities_in}
use Rattle.process_rules.proofs.numbers.connectors.Given as goal

abbrev pub invariant-loop-control : goal.invariant-loop-control
invariant-loop-control l = record {
  wide : length l.counts.items ≡ length (activities_in l.scope.elements.now);
  counted : (n : ℕ) → get_or l.counts.items n 0 ≡ count_by (λ c. is_to l.scope.elements.now n c.now) (take l.control-index l.scope.controls.items);
}
