use Rattle.std.proofs.Common.{◌∙◌, ap}
use Rattle.live_history.specs.Transactions.{about}
use Rattle.live_history.proofs.Rows.{all_found}
use Rattle.live_history.proofs.history.History.about.Goals as goal

pub returns : goal.returns
returns c =
    all_found c.args.root c.self.inside.rows c.places_of-place-items.result.now c.loop-place.place-index c.loop-place.found.items
    (c.places_of-place-items.ensures ∙ c.self.invariant c.args.root) c.loop-place-test.false c.loop-place.invariant
    ∙ ap (λ l. about c.args.root l.items) c.self.view_is
