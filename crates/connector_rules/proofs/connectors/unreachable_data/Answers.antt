use Rattle.std.specs.List.{All}
use Rattle.std.proofs.lemmas.List.Elements.{All-from_all_within, AllWithin-more, AllWithin-upto, at_read}
use Rattle.std.proofs.Common.{length}
use Rattle.connector_rules.specs.Connectors.{IsUnreachableData}
use Rattle.text_graphs.specs.Graphs.{graph_at}
use Rattle.text_graphs.specs.Texts.{lines_in, IsLineAlong}
use Rattle.text_graphs.specs.declared.scopes.Scope.{Scope}
use Rattle.text_graphs.proofs.Finding.{least_more, least_all}
use Rattle.connector_rules.proofs.connectors.unreachable_data.Goals as goal

pub loop-scope-preserved : goal.loop-scope-preserved
loop-scope-preserved c =
    let scopes = c.args.scopes.now in
    let P = λ (s : Scope). All (IsLineAlong s.elements.now) (lines_in s.elements.now) in (
      least_more (λ (s : Scope). IsUnreachableData (graph_at s)) scopes c.loop-scope.scope-index c.scope-item.result c.loop-scope.least c.in_ok-unreachable_in_graph.field-0 c.lesser-least.result c.loop-scope-test.true c.scope-item.is c.lesser-least.ensures.least c.loop-scope.invariant.0 c.in_ok-unreachable_in_graph.ensures.least,
      λ none.
          let nones = c.lesser-least.ensures.none none in
          AllWithin-more P scopes 0 c.loop-scope.scope-index (c.loop-scope.invariant.1 nones.0) (at_read scopes P c.loop-scope.scope-index c.scope-item.result c.loop-scope-test.true c.scope-item.is (c.in_ok-unreachable_in_graph.ensures.along nones.1)),
    )

pub returns-clause-least : goal.returns-clause-least
returns-clause-least c = least_all (λ (s : Scope). IsUnreachableData (graph_at s)) c.args.scopes.now c.loop-scope.scope-index c.loop-scope.least c.loop-scope-test.false c.loop-scope.invariant.0

pub returns-clause-along : goal.returns-clause-along
returns-clause-along c = λ none.
    let P = λ (s : Scope). All (IsLineAlong s.elements.now) (lines_in s.elements.now) in
    All-from_all_within P c.args.scopes.now (AllWithin-upto P c.args.scopes.now 0 c.loop-scope.scope-index (length c.args.scopes.now) c.loop-scope-test.false (c.loop-scope.invariant.1 none))
