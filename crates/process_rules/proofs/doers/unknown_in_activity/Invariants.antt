use Rattle.std.proofs.Common.{List, take}
use Rattle.flow_model.specs.declared.trees.PersonTree.{PersonTree}
use Rattle.process_rules.specs.Knowing.{ArePeople}
use Rattle.process_rules.specs.Doers.{is_person, IsNoPerson}
use Rattle.text_graphs.specs.Places.{IsLeastOf, AnyAt}
use Rattle.process_rules.proofs.doers.unknown_in_activity.Given as goal

abbrev pub invariant-loop-attribute : goal.invariant-loop-attribute
invariant-loop-attribute l = (people : List PersonTree) → ArePeople l.known people → IsLeastOf (AnyAt (λ x. IsNoPerson (is_person l.known.catalog.now.library people) x.what) (take l.attribute-index l.attribute-items)) l.least
