use Rattle.fdl_parser.specs.Conditions.{LeafOperand, NumberOperand}
use Rattle.fdl_parser.proofs.Stops.{at_err}
use Rattle.fdl_parser.proofs.StopsConditions.{operand_leaf, operand_number, stops_leaf_operand, stops_number_operand}
use Rattle.fdl_parser.proofs.cursor.Cursor.operand.Goals as goal

pub returns-then-is_leaf_next-clause-read : goal.returns-then-is_leaf_next-clause-read
returns-then-is_leaf_next-clause-read c = LeafOperand c.in_ok-leaf.ensures.read

pub returns-clause-read : goal.returns-clause-read
returns-clause-read c = NumberOperand c.in_ok-number.ensures.read

pub returns-then-is_leaf_next-clause-taken : goal.returns-then-is_leaf_next-clause-taken
returns-then-is_leaf_next-clause-taken c = operand_leaf c.in_ok-leaf.ensures.taken

pub returns-clause-taken : goal.returns-clause-taken
returns-clause-taken c = operand_number (_, c.in_ok-number.ensures.read)

pub returns-in_err-leaf-clause-stops : goal.returns-in_err-leaf-clause-stops
returns-in_err-leaf-clause-stops c = at_err c.from_residual.result c.in_err-leaf.field-0.0 c.from_residual.ensures.1 (stops_leaf_operand (c.is_leaf_next.ensures.yes c.if-is_leaf_next.true) c.in_err-leaf.ensures.stops)

pub returns-in_err-number-clause-stops : goal.returns-in_err-number-clause-stops
returns-in_err-number-clause-stops c = at_err c.from_residual-in_err-number.result c.in_err-number.field-0.0 c.from_residual-in_err-number.ensures.1 (stops_number_operand (c.is_leaf_next.ensures.no c.if-is_leaf_next.false) c.in_err-number.ensures.stops)
