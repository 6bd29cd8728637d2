use Rattle.std.proofs.lemmas.Bool.{MatchBool-at_true, MatchBool-at_false}
use Rattle.connector_rules.specs.Connectors.{IsUnreachable}
use Rattle.text_graphs.specs.Texts.{IsLineAlong}
use Rattle.connector_rules.proofs.Alongside.{least_along, least_apart}
use Rattle.connector_rules.proofs.connectors.apart.Goals as goal

pub returns-then-has_line-clause-least : goal.returns-then-has_line-clause-least
returns-then-has_line-clause-least c =
    let elements = c.args.scope.now.elements.now in
    let line = c.args.line.now in
    least_along elements line (MatchBool-at_true (IsLineAlong elements line) (IsUnreachable elements line line.place) c.if-has_line.true c.has_line.ensures)

pub returns-then-has_line-clause-along : goal.returns-then-has_line-clause-along
returns-then-has_line-clause-along c = λ none.
    let elements = c.args.scope.now.elements.now in
    let line = c.args.line.now in
    MatchBool-at_true (IsLineAlong elements line) (IsUnreachable elements line line.place) c.if-has_line.true c.has_line.ensures

pub returns-else-has_line-clause-least : goal.returns-else-has_line-clause-least
returns-else-has_line-clause-least c =
    let elements = c.args.scope.now.elements.now in
    let line = c.args.line.now in
    least_apart elements line (MatchBool-at_false (IsLineAlong elements line) (IsUnreachable elements line line.place) c.if-has_line.false c.has_line.ensures)
