use Rattle.std.proofs.Common.{List, take}
use Rattle.flow_model.specs.declared.trees.PersonTree.{PersonTree}
use Rattle.process_rules.specs.Knowing.{ArePeople}
use Rattle.process_rules.specs.Doers.{NamesNoPerson}
use Rattle.text_graphs.specs.Graphs.{graph_at}
use Rattle.text_graphs.specs.Places.{IsLeastOf, AnyAt}
use Rattle.process_rules.proofs.doers.unknown_people.Given as goal

abbrev pub invariant-loop-scope : goal.invariant-loop-scope
invariant-loop-scope l = (people : List PersonTree) → ArePeople l.known people → IsLeastOf (AnyAt (λ s. NamesNoPerson l.known.catalog.now.library people (graph_at s)) (take l.scope-index l.scopes)) l.least
