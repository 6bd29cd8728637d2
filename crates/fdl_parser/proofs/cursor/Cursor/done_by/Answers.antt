use Rattle.fdl_parser.specs.Activities.{ByRole, ByPerson, ByStarter, ByPerformer}
use Rattle.std.proofs.Common.{refl}
use Rattle.fdl_parser.proofs.Shapes.{word_shape, name_shape, stops_as, stop_now, stop_then, any_stops, free_stops, stop_left, stop_right}
use Rattle.fdl_parser.proofs.Stops.{at_err}
use Rattle.fdl_parser.proofs.StopsTokens.{stops_word}
use Rattle.flow_table.specs.declared.keyword.Keyword.TheVariants as word
use Rattle.std.proofs.Common.{inl, ap}
use Rattle.fdl_parser.specs.Tokens.{first_kind}
use Rattle.fdl_parser.proofs.StopsActivities.{done_by_same, role_shape, person_shape, performer_of, starter_or, person_or}
use Rattle.fdl_parser.proofs.cursor.Cursor.done_by.Goals as goal

pub returns-then-is_word-clause-read : goal.returns-then-is_word-clause-read
returns-then-is_word-clause-read c = ByRole c.in_ok-word.ensures.read c.in_ok-role.ensures.read

pub returns-then-is_word-2-clause-read : goal.returns-then-is_word-2-clause-read
returns-then-is_word-2-clause-read c = ByPerson c.in_ok-word-2.ensures.read c.in_ok-person.ensures.read

pub returns-then-is_word-3-clause-read : goal.returns-then-is_word-3-clause-read
returns-then-is_word-3-clause-read c = ByStarter c.in_ok-word-3.ensures.read

pub returns-clause-read : goal.returns-clause-read
returns-clause-read c = ByPerformer c.in_ok-word-4.ensures.read c.in_ok-word-5.ensures.read c.in_ok-performer.ensures.read

pub returns-in_err-role-clause-stops : goal.returns-in_err-role-clause-stops
returns-in_err-role-clause-stops c = at_err c.from_residual-in_err-role.result c.in_err-role.field-0.0 c.from_residual-in_err-role.ensures.1 (free_stops (stops_as done_by_same (stop_left role_shape person_or refl (inl (ap first_kind c.in_ok-word.ensures.read.first)) (stop_then (word_shape word.Role) (_, c.in_ok-word.ensures.read) (any_stops c.in_err-role.ensures.stops)))))

pub returns-in_err-person-clause-stops : goal.returns-in_err-person-clause-stops
returns-in_err-person-clause-stops c = at_err c.from_residual-in_err-person.result c.in_err-person.field-0.0 c.from_residual-in_err-person.ensures.1 (free_stops (stops_as done_by_same (stop_right role_shape ((c.is_word.ensures.no c.if-is_word.false), tt) (stop_left person_shape starter_or refl (inl (ap first_kind c.in_ok-word-2.ensures.read.first)) (stop_then (word_shape word.Person) (_, c.in_ok-word-2.ensures.read) (any_stops c.in_err-person.ensures.stops))))))

pub returns-in_err-word-4-clause-stops : goal.returns-in_err-word-4-clause-stops
returns-in_err-word-4-clause-stops c = at_err c.from_residual-in_err-word-4.result c.in_err-word-4.field-0.0 c.from_residual-in_err-word-4.ensures.1 (free_stops (stops_as done_by_same (stop_right role_shape ((c.is_word.ensures.no c.if-is_word.false), tt) (stop_right person_shape ((c.is_word-2.ensures.no c.if-is_word-2.false), tt) (stop_right (word_shape word.Starter) ((c.is_word-3.ensures.no c.if-is_word-3.false), tt) (stop_now performer_of.can (stops_word word.Performer c.args.self.now c.word-2.new.self _ c.in_err-word-4.ensures.refused)))))))

pub returns-in_err-word-5-clause-stops : goal.returns-in_err-word-5-clause-stops
returns-in_err-word-5-clause-stops c = at_err c.from_residual-in_err-word-5.result c.in_err-word-5.field-0.0 c.from_residual-in_err-word-5.ensures.1 (free_stops (stops_as done_by_same (stop_right role_shape ((c.is_word.ensures.no c.if-is_word.false), tt) (stop_right person_shape ((c.is_word-2.ensures.no c.if-is_word-2.false), tt) (stop_right (word_shape word.Starter) ((c.is_word-3.ensures.no c.if-is_word-3.false), tt) (stop_then (word_shape word.Performer) (_, c.in_ok-word-4.ensures.read) (stop_now name_shape.can (stops_word word.Of c.word-2.new.self c.word-3.new.self _ c.in_err-word-5.ensures.refused))))))))

pub returns-in_err-performer-clause-stops : goal.returns-in_err-performer-clause-stops
returns-in_err-performer-clause-stops c = at_err c.from_residual-in_err-performer.result c.in_err-performer.field-0.0 c.from_residual-in_err-performer.ensures.1 (free_stops (stops_as done_by_same (stop_right role_shape ((c.is_word.ensures.no c.if-is_word.false), tt) (stop_right person_shape ((c.is_word-2.ensures.no c.if-is_word-2.false), tt) (stop_right (word_shape word.Starter) ((c.is_word-3.ensures.no c.if-is_word-3.false), tt) (stop_then (word_shape word.Performer) (_, c.in_ok-word-4.ensures.read) (stop_then (word_shape word.Of) (_, c.in_ok-word-5.ensures.read) (any_stops c.in_err-performer.ensures.stops))))))))
