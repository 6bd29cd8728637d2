use Rattle.std.proofs.Common.{[], ◌∷◌, ◌++◌, ap, ◌∙◌}
use Rattle.live_history.proofs.Places.{places_same, places_longer, at_fault}
use Rattle.live_history.proofs.history.add_place.Goals as goal

pub returns-in_err-make_room-clause-err : goal.returns-in_err-make_room-clause-err
returns-in_err-make_room-clause-err c =
    let written = rw c.in-Some.is at c.get_mut.follows.holds c.make_room.new.kept in
    at_fault c.from_residual.result
    (places_same c.args.root c.args.places.now (c.get_mut.follows.lender c.make_room.new.kept) c.in-Some.kept.now c.make_room.new.kept written c.in-Some.ensures.value
    c.in_err-make_room.ensures)

pub returns-in_err-push-clause-err : goal.returns-in_err-push-clause-err
returns-in_err-push-clause-err c =
    let written = rw c.in-Some.is at c.get_mut.follows.holds c.push.new.self in
    at_fault c.from_residual-in_err-push.result
    (places_same c.args.root c.args.places.now (c.get_mut.follows.lender c.push.new.self) c.in-Some.kept.now c.push.new.self written c.in-Some.ensures.value
    (c.in_err-push.ensures.items ∙ c.make_room.ensures))

pub returns-in-Some-clause-ok : goal.returns-in-Some-clause-ok
returns-in-Some-clause-ok c =
    let written = rw c.in-Some.is at c.get_mut.follows.holds c.push.new.self in
    places_longer c.args.root c.args.place c.args.places.now (c.get_mut.follows.lender c.push.new.self) c.in-Some.kept.now c.push.new.self written c.in-Some.ensures.value
    (c.in_ok-push.ensures.items ∙ ap (λ l. l ++ c.args.place ∷ []) c.make_room.ensures)
