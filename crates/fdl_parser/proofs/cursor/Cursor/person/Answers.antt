use Rattle.fdl_parser.specs.Items.{OnePerson}
use Rattle.std.proofs.Common.{refl}
use Rattle.fdl_parser.proofs.Shapes.{word_shape, name_shape, stops_as, stop_now, stop_then, at_first, before, any_stops, free_stops}
use Rattle.fdl_parser.proofs.Stops.{at_err, stops_second}
use Rattle.fdl_parser.proofs.StopsTokens.{stops_word}
use Rattle.flow_table.specs.declared.keyword.Keyword.TheVariants as word
use Rattle.fdl_parser.proofs.StopsItems.{person_same, person_name, person_roles}
use Rattle.fdl_parser.proofs.StopsActivities.{closing_shape}
use Rattle.fdl_parser.proofs.cursor.Cursor.person.Goals as goal

pub returns-clause-read : goal.returns-clause-read
returns-clause-read c = OnePerson c.in_ok-word.ensures.read c.in_ok-name.ensures.read c.in_ok-roles.ensures.read c.in_ok-end.ensures.read

pub returns-in_err-word-clause-stops : goal.returns-in_err-word-clause-stops
returns-in_err-word-clause-stops c = at_err c.from_residual.result c.in_err-word.field-0.0 c.from_residual.ensures.1 (free_stops (stops_as person_same (stop_now person_name.can (stops_word word.Person c.args.self.now c.word.new.self _ c.in_err-word.ensures.refused))))

pub returns-in_err-name-clause-stops : goal.returns-in_err-name-clause-stops
returns-in_err-name-clause-stops c = at_err c.from_residual-in_err-name.result c.in_err-name.field-0.0 c.from_residual-in_err-name.ensures.1 (free_stops (stops_as person_same (stop_then (word_shape word.Person) (_, c.in_ok-word.ensures.read) (stop_now person_roles.can c.in_err-name.ensures.stops))))

pub returns-in_err-roles-clause-stops : goal.returns-in_err-roles-clause-stops
returns-in_err-roles-clause-stops c = at_err c.from_residual-in_err-roles.result c.in_err-roles.field-0.0 c.from_residual-in_err-roles.ensures.1 (free_stops (stops_as person_same (stop_then (word_shape word.Person) (_, c.in_ok-word.ensures.read) (stop_then name_shape (_, c.in_ok-name.ensures.read) (at_first closing_shape.can (before {n = 4} closing_shape refl) c.in_err-roles.ensures.stops)))))

pub returns-in_err-end-clause-stops : goal.returns-in_err-end-clause-stops
returns-in_err-end-clause-stops c = at_err c.from_residual-in_err-end.result c.in_err-end.field-0.0 c.from_residual-in_err-end.ensures.1 (free_stops (stops_as person_same (stop_then (word_shape word.Person) (_, c.in_ok-word.ensures.read) (stop_then name_shape (_, c.in_ok-name.ensures.read) (stops_second (before {n = 4} closing_shape refl) c.in_ok-roles.ensures.taken (any_stops c.in_err-end.ensures.stops))))))
