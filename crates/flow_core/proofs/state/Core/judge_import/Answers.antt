use Rattle.std.proofs.Common.{None, Err, ap, sym}
use Rattle.std.proofs.lemmas.Result.{err_from_is_err_and}
use Rattle.std.specs.Option.{option_or}
use Rattle.flow_core.proofs.Refusing.{by_rule, by_room}
use Rattle.flow_core.proofs.state.Core.judge_import.Goals as goal

pub returns-in_err-needs_rules-clause-stops : goal.returns-in_err-needs_rules-clause-stops
returns-in_err-needs_rules-clause-stops c =
    let p = err_from_is_err_and c.from_residual.result c.from_residual.ensures.1 in
    rw (p.1, p.2) (by_rule c.args.self.now c.args.text.now c.in_err-needs_rules.field-0.0 c.in_err-needs_rules.ensures.stops)

pub returns-in_err-needs_room-clause-stops : goal.returns-in_err-needs_room-clause-stops
returns-in_err-needs_room-clause-stops c =
    let p = err_from_is_err_and c.from_residual-in_err-needs_room.result c.from_residual-in_err-needs_room.ensures.1 in
    rw (p.1, p.2) (by_room {T = Unit {0}} c.args.self.now c.args.text.now (Err c.in_err-needs_room.field-0.0) c.in_ok-needs_rules.ensures.stops (rw c.needs_rules.ensures.same at c.in_err-needs_room.ensures.stops))

pub returns-clause-stops : goal.returns-clause-stops
returns-clause-stops c = (None, c.in_ok-needs_rules.ensures.stops, sym (ap (λ t. option_or t None) (rw c.needs_rules.ensures.same at c.in_ok-needs_room.ensures.stops)))
