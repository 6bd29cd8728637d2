use Rattle.leaf_rules.specs.Structures.{behind}
use Rattle.leaf_rules.proofs.Making.{AreMadeTo}
use Rattle.leaf_rules.proofs.structures.Structures.rows.Given as goal

abbrev pub invariant-loop-number : goal.invariant-loop-number
invariant-loop-number l = AreMadeTo (behind l.self.definitions.items) l.order l.number-index l.runs.items l.table
