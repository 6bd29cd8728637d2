use Rattle.std.proofs.Common.{arith, ◌<◌}
use Rattle.fdl_parser.specs.Activities.{BlockActivity, BlockElement, ProcessElement, ProgramElement, ControlElement, DataElement, NoElement, MoreElements}
use Rattle.std.proofs.Common.{refl}
use Rattle.fdl_parser.proofs.Shapes.{word_shape, name_shape, stops_as, stop_now, stop_then, at_first, before, any_stops, free_stops}
use Rattle.fdl_parser.proofs.Stops.{at_err, stops_second}
use Rattle.fdl_parser.proofs.StopsTokens.{stops_word}
use Rattle.flow_table.specs.declared.keyword.Keyword.TheVariants as word
use Rattle.std.proofs.Common.{ap}
use Rattle.fdl_parser.specs.Tokens.{Reading}
use Rattle.fdl_parser.proofs.StopsActivities.{block_same, block_name, block_structures, block_attributes, block_end, structures_shape, closing_shape, element_block, element_control, element_data, element_process, element_program, stops_block, stops_control, stops_data, stops_process, stops_program, elements_none, elements_more, elements_taken, stops_elements}
use Rattle.fdl_parser.proofs.cursor.Cursor.+elements.Goals as goal

pub block-returns-clause-read : goal.block-returns-clause-read
block-returns-clause-read t c = let h : 0 < c.args.levels = omega arith in
    BlockActivity h c.in_ok-place.ensures.read c.in_ok-name.ensures.read c.in_ok-input.ensures.read c.in_ok-attrs.ensures.read c.in_ok-elements.ensures.read c.in_ok-end.ensures.read

pub element-returns-then-is_word-clause-read : goal.element-returns-then-is_word-clause-read
element-returns-then-is_word-clause-read t c = BlockElement c.in_ok-block.ensures.read

pub element-returns-then-is_word-2-clause-read : goal.element-returns-then-is_word-2-clause-read
element-returns-then-is_word-2-clause-read t c = ControlElement c.in_ok-control.ensures.read

pub element-returns-then-is_word-3-clause-read : goal.element-returns-then-is_word-3-clause-read
element-returns-then-is_word-3-clause-read t c = DataElement c.in_ok-line.ensures.read

pub element-returns-then-is_word-4-clause-read : goal.element-returns-then-is_word-4-clause-read
element-returns-then-is_word-4-clause-read t c = ProcessElement c.in_ok-process.ensures.read

pub element-returns-clause-read : goal.element-returns-clause-read
element-returns-clause-read t c = ProgramElement c.in_ok-program.ensures.read

pub elements-loop-elements-init : goal.elements-loop-elements-init
elements-loop-elements-init t c = record {
  shorter = omega arith;
  so_far = elements_none;
  within = λ all h. h;
  read = rw (c.new-elements.ensures) (NoElement);
}

pub elements-loop-elements-preserved : goal.elements-loop-elements-preserved
elements-loop-elements-preserved t c = record {
  shorter = omega (arith, c.loop-elements.invariant.shorter, c.in_ok-element.ensures.shorter);
  so_far = elements_more c.loop-elements.invariant.so_far c.in_ok-element.ensures.taken;
  within = λ all h. c.in_ok-element.ensures.within all (c.loop-elements.invariant.within all h);
  read = rw (c.in_ok-push.ensures.ok) (MoreElements c.loop-elements.invariant.read c.in_ok-element.ensures.read);
}

pub block-returns-in_err-place-clause-stops : goal.block-returns-in_err-place-clause-stops
block-returns-in_err-place-clause-stops t c = λ some. at_err c.from_residual.result c.in_err-place.field-0.0 c.from_residual.ensures.1 (free_stops (stops_as (block_same c.args.levels some) (stop_now (block_name c.args.levels).can (stops_word word.Block c.args.self.now c.word.new.self _ c.in_err-place.ensures.refused))))

pub block-returns-in_err-name-clause-stops : goal.block-returns-in_err-name-clause-stops
block-returns-in_err-name-clause-stops t c = λ some. at_err c.from_residual-in_err-name.result c.in_err-name.field-0.0 c.from_residual-in_err-name.ensures.1 (free_stops (stops_as (block_same c.args.levels some) (stop_then (word_shape word.Block) (_, c.in_ok-place.ensures.read) (stop_now (block_structures c.args.levels).can c.in_err-name.ensures.stops))))

pub block-returns-in_err-input-clause-stops : goal.block-returns-in_err-input-clause-stops
block-returns-in_err-input-clause-stops t c = λ some. at_err c.from_residual-in_err-input.result c.in_err-input.field-0.0 c.from_residual-in_err-input.ensures.1 (free_stops (stops_as (block_same c.args.levels some) (stop_then (word_shape word.Block) (_, c.in_ok-place.ensures.read) (stop_then name_shape (_, c.in_ok-name.ensures.read) (stop_now (block_attributes c.args.levels).can c.in_err-input.ensures.stops)))))

pub block-returns-in_err-attrs-clause-stops : goal.block-returns-in_err-attrs-clause-stops
block-returns-in_err-attrs-clause-stops t c = λ some. at_err c.from_residual-in_err-attrs.result c.in_err-attrs.field-0.0 c.from_residual-in_err-attrs.ensures.1 (free_stops (stops_as (block_same c.args.levels some) (stop_then (word_shape word.Block) (_, c.in_ok-place.ensures.read) (stop_then name_shape (_, c.in_ok-name.ensures.read) (stop_then structures_shape (_, _, c.in_ok-input.ensures.read) (at_first (block_end c.args.levels).can (before {n = 4} (block_end c.args.levels) refl) c.in_err-attrs.ensures.stops))))))

pub block-returns-in_err-elements-clause-stops : goal.block-returns-in_err-elements-clause-stops
block-returns-in_err-elements-clause-stops t c = λ some. at_err c.from_residual-in_err-elements.result c.in_err-elements.field-0.0 c.from_residual-in_err-elements.ensures.1 (free_stops (stops_as (block_same c.args.levels some) (stop_then (word_shape word.Block) (_, c.in_ok-place.ensures.read) (stop_then name_shape (_, c.in_ok-name.ensures.read) (stop_then structures_shape (_, _, c.in_ok-input.ensures.read) (stops_second (before {n = 4} (block_end c.args.levels) refl) c.in_ok-attrs.ensures.taken (at_first closing_shape.can (before {n = 3} closing_shape refl) c.in_err-elements.ensures.stops)))))))

pub block-returns-in_err-end-clause-stops : goal.block-returns-in_err-end-clause-stops
block-returns-in_err-end-clause-stops t c = λ some. at_err c.from_residual-in_err-end.result c.in_err-end.field-0.0 c.from_residual-in_err-end.ensures.1 (free_stops (stops_as (block_same c.args.levels some) (stop_then (word_shape word.Block) (_, c.in_ok-place.ensures.read) (stop_then name_shape (_, c.in_ok-name.ensures.read) (stop_then structures_shape (_, _, c.in_ok-input.ensures.read) (stops_second (before {n = 4} (block_end c.args.levels) refl) c.in_ok-attrs.ensures.taken (stops_second (before {n = 3} closing_shape refl) c.in_ok-elements.ensures.taken (any_stops c.in_err-end.ensures.stops))))))))

pub element-returns-then-is_word-clause-taken : goal.element-returns-then-is_word-clause-taken
element-returns-then-is_word-clause-taken t c = element_block (_, c.in_ok-block.ensures.read)

pub element-returns-then-is_word-2-clause-taken : goal.element-returns-then-is_word-2-clause-taken
element-returns-then-is_word-2-clause-taken t c = element_control c.args.levels c.in_ok-control.ensures.taken

pub element-returns-then-is_word-3-clause-taken : goal.element-returns-then-is_word-3-clause-taken
element-returns-then-is_word-3-clause-taken t c = element_data c.args.levels c.in_ok-line.ensures.taken

pub element-returns-then-is_word-4-clause-taken : goal.element-returns-then-is_word-4-clause-taken
element-returns-then-is_word-4-clause-taken t c = element_process c.args.levels (_, c.in_ok-process.ensures.read)

pub element-returns-clause-taken : goal.element-returns-clause-taken
element-returns-clause-taken t c = element_program c.args.levels (_, c.in_ok-program.ensures.read)

pub element-returns-in_err-block-clause-stops : goal.element-returns-in_err-block-clause-stops
element-returns-in_err-block-clause-stops t c = at_err c.from_residual.result c.in_err-block.field-0.0 c.from_residual.ensures.1 (stops_block c.args.levels (c.is_word.ensures.yes c.if-is_word.true) (λ last. ap (λ (r : Reading). r.left) (c.block.ensures.level last)) (λ some. c.in_err-block.ensures.stops some))

pub element-returns-in_err-control-clause-stops : goal.element-returns-in_err-control-clause-stops
element-returns-in_err-control-clause-stops t c = at_err c.from_residual-in_err-control.result c.in_err-control.field-0.0 c.from_residual-in_err-control.ensures.1 (stops_control c.args.levels (c.is_word.ensures.no c.if-is_word.false) (c.is_word-2.ensures.yes c.if-is_word-2.true) c.in_err-control.ensures.stops)

pub element-returns-in_err-line-clause-stops : goal.element-returns-in_err-line-clause-stops
element-returns-in_err-line-clause-stops t c = at_err c.from_residual-in_err-line.result c.in_err-line.field-0.0 c.from_residual-in_err-line.ensures.1 (stops_data c.args.levels (c.is_word.ensures.no c.if-is_word.false) (c.is_word-2.ensures.no c.if-is_word-2.false) (c.is_word-3.ensures.yes c.if-is_word-3.true) c.in_err-line.ensures.stops)

pub element-returns-in_err-process-clause-stops : goal.element-returns-in_err-process-clause-stops
element-returns-in_err-process-clause-stops t c = at_err c.from_residual-in_err-process.result c.in_err-process.field-0.0 c.from_residual-in_err-process.ensures.1 (stops_process c.args.levels (c.is_word.ensures.no c.if-is_word.false) (c.is_word-2.ensures.no c.if-is_word-2.false) (c.is_word-3.ensures.no c.if-is_word-3.false) (c.is_word-4.ensures.yes c.if-is_word-4.true) c.in_err-process.ensures.stops)

pub element-returns-in_err-program-clause-stops : goal.element-returns-in_err-program-clause-stops
element-returns-in_err-program-clause-stops t c = at_err c.from_residual-in_err-program.result c.in_err-program.field-0.0 c.from_residual-in_err-program.ensures.1 (stops_program c.args.levels (c.is_word.ensures.no c.if-is_word.false) (c.is_word-2.ensures.no c.if-is_word-2.false) (c.is_word-3.ensures.no c.if-is_word-3.false) (c.is_word-4.ensures.no c.if-is_word-4.false) c.in_err-program.ensures.stops)

pub elements-returns-clause-taken : goal.elements-returns-clause-taken
elements-returns-clause-taken t c = elements_taken c.loop-elements.invariant.so_far (c.is_element.ensures.no c.loop-elements-test.false)

pub elements-returns-in_err-element-clause-stops : goal.elements-returns-in_err-element-clause-stops
elements-returns-in_err-element-clause-stops t c = at_err c.from_residual.result c.in_err-element.field-0.0 c.from_residual.ensures.1 (stops_elements c.loop-elements.invariant.so_far (c.is_element.ensures.yes c.loop-elements-test.true) c.in_err-element.ensures.stops)
