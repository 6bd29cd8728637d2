use Rattle.std.proofs.Common.{◌≡◌, not, Some, sym, ap, ◌∙◌}
use Rattle.std.proofs.lemmas.Bool.{not-true, not-false}
use Rattle.text_graphs.specs.Texts.{edge_of}
use Rattle.connector_rules.specs.EdgesMet.{edge_eq}
use Rattle.text_graphs.proofs.Differing.{pairs_decide}
use Rattle.connector_rules.proofs.Doubling.{known_past, double_past, known_next, double_new, double_again}
use Rattle.connector_rules.proofs.connectors.Doubles.meet.Goals as goal

pub returns-in-None : goal.returns-in-None
returns-in-None c = λ controls met.
    let elements = c.args.scope.now.elements.now in
    record {
      known = known_past edge_eq pairs_decide (edge_of elements) c.args.self.now.met.keys controls c.args.control.now (sym c.in-None.ensures) met.known;
      least = double_past edge_eq pairs_decide (edge_of elements) controls c.args.control.now c.args.self.now.first (sym c.in-None.ensures) met.least;
    }

pub returns-then-is_new : goal.returns-then-is_new
returns-then-is_new c = λ controls met.
    let elements = c.args.scope.now.elements.now in
    let k = c.in-Some.ends in
    let some : edge_of elements c.args.control.now ≡ Some k = sym c.in-Some.ensures in
    let tells = c.in_ok-_place-in-Some.ensures.added ∙ ap not (met.known k) in
    record {
      known = known_next edge_eq pairs_decide (edge_of elements) controls c.args.control.now k some c.args.self.now.met.keys c.insert_full.new.self.keys c.in_ok-_place-in-Some.ensures.keys met.known;
      least = double_new edge_eq pairs_decide (edge_of elements) controls c.args.control.now k some c.args.self.now.first (not-true _ (sym tells ∙ c.if-is_new.true)) met.least;
    }

pub returns-else-is_new : goal.returns-else-is_new
returns-else-is_new c = λ controls met.
    let elements = c.args.scope.now.elements.now in
    let k = c.in-Some.ends in
    let some : edge_of elements c.args.control.now ≡ Some k = sym c.in-Some.ensures in
    let tells = c.in_ok-_place-in-Some.ensures.added ∙ ap not (met.known k) in
    record {
      known = known_next edge_eq pairs_decide (edge_of elements) controls c.args.control.now k some c.args.self.now.met.keys c.insert_full.new.self.keys c.in_ok-_place-in-Some.ensures.keys met.known;
      least = double_again edge_eq pairs_decide (edge_of elements) controls c.args.control.now k some c.args.self.now.first c.lesser-self.result c.lesser-self.ensures.least (not-false _ (sym tells ∙ c.if-is_new.false)) met.least;
    }
