use Rattle.fdl_parser.specs.Items.{StructureItem, PersonItem, ProcessItem}
use Rattle.fdl_parser.proofs.Stops.{at_err}
use Rattle.fdl_parser.proofs.StopsItems.{stops_structure, stops_person, stops_process}
use Rattle.fdl_parser.proofs.cursor.Cursor.text_item.Goals as goal

pub returns-then-is_word-clause-read : goal.returns-then-is_word-clause-read
returns-then-is_word-clause-read c = StructureItem c.in_ok-structure.ensures.read

pub returns-then-is_word-2-clause-read : goal.returns-then-is_word-2-clause-read
returns-then-is_word-2-clause-read c = PersonItem c.in_ok-person.ensures.read

pub returns-clause-read : goal.returns-clause-read
returns-clause-read c = ProcessItem c.in_ok-process.ensures.read

pub returns-in_err-structure-clause-stops : goal.returns-in_err-structure-clause-stops
returns-in_err-structure-clause-stops c = at_err c.from_residual.result c.in_err-structure.field-0.0 c.from_residual.ensures.1 (stops_structure (c.is_word.ensures.yes c.if-is_word.true) c.in_err-structure.ensures.stops)

pub returns-in_err-person-clause-stops : goal.returns-in_err-person-clause-stops
returns-in_err-person-clause-stops c = at_err c.from_residual-in_err-person.result c.in_err-person.field-0.0 c.from_residual-in_err-person.ensures.1 (stops_person (c.is_word.ensures.no c.if-is_word.false) (c.is_word-2.ensures.yes c.if-is_word-2.true) c.in_err-person.ensures.stops)

pub returns-in_err-process-clause-stops : goal.returns-in_err-process-clause-stops
returns-in_err-process-clause-stops c = at_err c.from_residual-in_err-process.result c.in_err-process.field-0.0 c.from_residual-in_err-process.ensures.1 (stops_process (c.is_word.ensures.no c.if-is_word.false) (c.is_word-2.ensures.no c.if-is_word-2.false) c.in_err-process.ensures.stops)
