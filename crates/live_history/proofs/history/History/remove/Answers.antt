use Rattle.std.proofs.Common.{ℕ, ◌==◌, if◌then◌else◌, ◌∙◌, sym, ap, List, []}
use Rattle.live_history.specs.Rows.{present, places_from, cleared}
use Rattle.live_history.specs.Transactions.{without_root}
use Rattle.live_history.proofs.Rows.{present_hidden, places_hidden, cleared_all}
use Rattle.live_history.proofs.history.History.remove.Goals as goal

pub invariant_of-self : goal.invariant_of-self
invariant_of-self c = λ other.
    c.take_places-places.ensures.others other
    ∙ ap (λ (l : List ℕ). if c.args.root == other then [] else l) (c.self.invariant other)
    ∙ sym (places_hidden c.args.root other 0 c.self.inside.rows)
    ∙ ap (places_from other 0) (sym (c.clear_all.ensures ∙ ap (λ l. cleared l c.self.inside.rows) (c.deref.ensures.value ∙ c.take_places-places.ensures.taken ∙ c.self.invariant c.args.root) ∙ cleared_all c.args.root c.self.inside.rows))

pub returns : goal.returns
returns c =
    ap present (c.clear_all.ensures ∙ ap (λ l. cleared l c.self.inside.rows) (c.deref.ensures.value ∙ c.take_places-places.ensures.taken ∙ c.self.invariant c.args.root) ∙ cleared_all c.args.root c.self.inside.rows)
    ∙ present_hidden c.args.root c.self.inside.rows ∙ ap (λ l. without_root c.args.root l.items) c.self.view_is
