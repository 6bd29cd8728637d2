use Rattle.std.proofs.Common.{List, sym, subst, ◌∙◌}
use Rattle.flow_model.specs.declared.trees.ActivityTree.{ActivityTree}
use Rattle.process_rules.specs.Doers.{IsNoPerformer}
use Rattle.process_rules.specs.Numbering.{NumberedAt}
use Rattle.text_graphs.specs.Places.{AnyAt}
use Rattle.process_rules.proofs.Performing.{none_asked}
use Rattle.process_rules.proofs.doers.wrong_in_graph.Goals as goal

pub returns-else-asks_performer : goal.returns-else-asks_performer
returns-else-asks_performer c = λ p wrong.
    let scope = c.args.scope.now in
    let elements = scope.elements.now in
    none_asked elements scope.activities.items (sym c.asks_performer.ensures ∙ c.if-asks_performer.false) p
    (subst (λ (activities : List ActivityTree). NumberedAt (λ number a. AnyAt (λ x. IsNoPerformer elements number x.what) a.attrs) activities p) (sym scope.with_activities) wrong)
