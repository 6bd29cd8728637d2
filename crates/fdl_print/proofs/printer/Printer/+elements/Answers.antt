use Rattle.std.proofs.Common.{ap, sym, ◌∙◌}
use Rattle.std.specs.List.{flat_map}
use Rattle.fdl_print.specs.Pieces.{with_pieces}
use Rattle.fdl_print.specs.Canonical.{element_pieces, worked}
use Rattle.fdl_print.proofs.Laying.{one_more}
use Rattle.fdl_print.proofs.Blocks.{inside_block}
use Rattle.fdl_print.proofs.printer.Printer.+elements.Goals as goal

pub elements-loop-element-preserved : goal.elements-loop-element-preserved
elements-loop-element-preserved t c =
    one_more element_pieces c.args.elements.now c.loop-element.element-index c.element-item.result c.loop-element.self c.element.new.self _
    c.loop-element-test.true c.element-item.is c.loop-element.invariant c.in_ok-element.ensures

pub inside-returns-in_ok-elements-in-Block : goal.inside-returns-in_ok-elements-in-Block
inside-returns-in_ok-elements-in-Block t c =
    c.in_ok-elements-in-Block.ensures
    ∙ ap (λ ps. with_pieces ps c.args.self.now) (sym (ap (λ w. (worked w).inside) c.in-Block.is ∙ inside_block c.in-Block.elements ∙ ap (flat_map element_pieces) (sym c.as_slice.ensures)))
