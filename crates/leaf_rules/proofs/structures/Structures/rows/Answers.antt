use Rattle.std.proofs.Common.{get_or}
use Rattle.std.proofs.lemmas.Option.{slice_get-get_or}
use Rattle.leaf_rules.specs.Structures.{behind}
use Rattle.leaf_rules.proofs.Making.{made_next, made_all}
use Rattle.leaf_rules.proofs.structures.Structures.rows.Goals as goal

pub loop-number-preserved : goal.loop-number-preserved
loop-number-preserved c =
    let structures = behind c.args.self.now.definitions.items in
    let order = c.args.order.now in
    let i = c.loop-number.number-index in
    let rowed = rw c.deref.ensures.value at c.in_ok-run.ensures in
    rw c.set_run.ensures
    (made_next structures order c.requires i c.loop-number.runs.items c.loop-number.table c.loop-number.invariant (get_or order i 0) (slice_get-get_or order i 0 c.loop-number-test.true) c.structure-structure.result.now c.structure-structure.ensures
    c.in_ok-run.run' c.add_structure.new.table rowed)

pub returns : goal.returns
returns c = made_all (behind c.args.self.now.definitions.items) c.args.order.now c.requires c.loop-number.number-index c.loop-number.runs.items c.loop-number.table c.loop-number-test.false c.loop-number.invariant
