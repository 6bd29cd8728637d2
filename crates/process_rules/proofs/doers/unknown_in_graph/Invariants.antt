use Rattle.std.proofs.Common.{List, take}
use Rattle.flow_model.specs.declared.trees.PersonTree.{PersonTree}
use Rattle.process_rules.specs.Knowing.{ArePeople}
use Rattle.process_rules.specs.Doers.{is_person, IsNoPerson}
use Rattle.text_graphs.specs.Places.{IsLeastOf, AnyAt}
use Rattle.process_rules.proofs.doers.unknown_in_graph.Given as goal

abbrev pub invariant-loop-activity : goal.invariant-loop-activity
invariant-loop-activity l = (people : List PersonTree) → ArePeople l.known people → IsLeastOf (AnyAt (λ a. AnyAt (λ x. IsNoPerson (is_person l.known.catalog.now.library people) x.what) a.now.attrs) (take l.activity-index l.scope.activities.items)) l.least
