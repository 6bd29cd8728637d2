use Rattle.std.proofs.lemmas.List.Elements.{AllWithin-more, at_read}
use Rattle.process_rules.specs.Counts.{IsTooMuch}
use Rattle.text_graphs.specs.Graphs.{graph_at}
use Rattle.text_graphs.specs.Texts.{IsLimited}
use Rattle.text_graphs.specs.declared.scopes.Scope.{Scope}
use Rattle.text_graphs.proofs.Finding.{least_more, least_all}
use Rattle.process_rules.proofs.counts.too_much_in_graphs.Goals as goal

pub loop-scope-preserved : goal.loop-scope-preserved
loop-scope-preserved c =
    let scopes = c.args.scopes.now in
    let i = c.loop-scope.scope-index in
    record {
      found = least_more (λ (s : Scope). IsTooMuch (graph_at s)) scopes i c.scope-item.result c.loop-scope.least c.too_much_in_graph.result c.lesser-least.result c.loop-scope-test.true c.scope-item.is c.lesser-least.ensures.least c.loop-scope.invariant.found c.too_much_in_graph.ensures.found;
      limited = λ none.
          let both = c.lesser-least.ensures.none none in
          let P = λ (s : Scope). IsLimited s.elements.now in
          AllWithin-more P scopes 0 i (c.loop-scope.invariant.limited both.0) (at_read scopes P i c.scope-item.result c.loop-scope-test.true c.scope-item.is (c.too_much_in_graph.ensures.limited both.1));
    }

pub returns-clause-found : goal.returns-clause-found
returns-clause-found c = least_all (λ (s : Scope). IsTooMuch (graph_at s)) c.args.scopes.now c.loop-scope.scope-index c.loop-scope.least c.loop-scope-test.false c.loop-scope.invariant.found
