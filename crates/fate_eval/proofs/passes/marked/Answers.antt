use Rattle.std.proofs.Common.{◌∙◌, true, get_or, length-set, arith}
use Rattle.std.proofs.lemmas.List.{take_all}
use Rattle.fate_eval.proofs.Marks.{marked_more, marked_back}
use Rattle.fate_eval.proofs.passes.marked.Goals as goal

pub loop-number-preserved : goal.loop-number-preserved
loop-number-preserved c =
    rw c.mark.ensures
    (record {
      long = length-set c.loop-number.marks.items (get_or c.args.ready.now c.loop-number.number-index 0) true ∙ c.loop-number.invariant.long;
      ready = marked_more c.loop-number.marks.items c.args.ready.now c.loop-number.number-index c.loop-number-test.true c.loop-number.invariant.ready;
      whole = marked_back c.loop-number.marks.items c.args.ready.now c.loop-number.number-index c.args.count c.loop-number-test.true c.loop-number.invariant.long c.loop-number.invariant.whole;
    })

pub returns-clause-whole : goal.returns-clause-whole
returns-clause-whole c = λ i less there. c.loop-number.invariant.whole i less (rw (take_all c.loop-number.number-index c.args.ready.now (omega arith)) there)
