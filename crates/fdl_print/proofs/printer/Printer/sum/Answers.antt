use Rattle.std.proofs.Common.{refl, length, take, drop, ◌-◌}
use Rattle.fdl_print.specs.Parts.{operand_pieces, later_term, sum_pieces}
use Rattle.fdl_print.proofs.Laying.{one_more, at_end, first_and_later}
use Rattle.fdl_print.proofs.printer.Printer.sum.Goals as goal

pub loop-term-preserved : goal.loop-term-preserved
loop-term-preserved c =
    let terms = c.args.terms.now in
    one_more later_term (take (length terms - 1) (drop 1 terms)) c.loop-term.term-index c.term-item.result c.loop-term.self c.later_term.new.self _
    c.loop-term-test.true c.term-item.is c.loop-term.invariant c.in_ok-later_term.ensures

pub returns : goal.returns
returns c =
    let terms = c.args.terms.now in
    first_and_later (λ t. operand_pieces t.operand) later_term sum_pieces (λ x xs. refl) terms c.first-item.result c.args.self.now c.operand.new.self c.loop-term.self
    c.in-len1-up.len_at_least c.first-item.is c.in_ok-operand.ensures
    (at_end later_term (take (length terms - 1) (drop 1 terms)) c.loop-term.term-index c.loop-term.self _ c.loop-term-test.false c.loop-term.invariant)
