use Rattle.std.proofs.Common.{◌≡◌, None, take}
use Rattle.std.specs.List.{AllWithin}
use Rattle.process_rules.specs.Counts.{IsTooMuch}
use Rattle.text_graphs.specs.Graphs.{graph_at}
use Rattle.text_graphs.specs.Places.{IsLeastOf, AnyAt}
use Rattle.text_graphs.specs.Texts.{IsLimited}
use Rattle.process_rules.proofs.counts.too_much_in_graphs.Given as goal

abbrev pub invariant-loop-scope : goal.invariant-loop-scope
invariant-loop-scope l = record {
  found : IsLeastOf (AnyAt (λ s. IsTooMuch (graph_at s)) (take l.scope-index l.scopes)) l.least;
  limited : l.least ≡ None → AllWithin (λ s. IsLimited s.elements.now) l.scopes 0 l.scope-index;
}
