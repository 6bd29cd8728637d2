use Rattle.std.proofs.Common.{◌∙◌, ◌++◌, ◌∷◌, [], sym, ap}
use Rattle.live_history.specs.Rows.{present, places_from, place_if}
use Rattle.live_history.specs.Transactions.{is_root}
use Rattle.live_history.proofs.Records.{numbered_of}
use Rattle.live_history.proofs.Rows.{one_more, places_none, places_some, cleared_last}
use Rattle.live_history.proofs.history.History.add.Goals as goal

pub invariant_of-self-in-Err : goal.invariant_of-self-in-Err
invariant_of-self-in-Err c = λ root.
    c.in-Err.ensures.err root ∙ c.self.invariant root
    ∙ sym (ap (places_from root 0) (cleared_last c.clear.new.self c.push.new.self c.self.inside.rows (numbered_of c.args.number c.args.transaction.now) c.in_ok-place.place c.in_ok-place.ensures.ok c.in_ok-place.ensures.place c.clear.ensures)
    ∙ places_none root c.self.inside.rows)

pub invariant_of-self-in_default : goal.invariant_of-self-in_default
invariant_of-self-in_default c = λ root.
    c.in_default.ensures.ok root ∙ ap (λ l. l ++ place_if (is_root root c.transaction_root-about.result) c.in_ok-place.place) (c.self.invariant root)
    ∙ places_some root c.self.inside.rows (numbered_of c.args.number c.args.transaction.now) c.transaction_root-about.result c.in_ok-place.place c.transaction_root-about.ensures c.in_ok-place.ensures.place
    ∙ ap (places_from root 0) (sym c.in_ok-place.ensures.ok)

pub returns : goal.returns
returns c = ap present c.in_ok-place.ensures.ok ∙ one_more c.self.inside.rows (numbered_of c.args.number c.args.transaction.now) ∙ ap (λ l. l.items ++ (numbered_of c.args.number c.args.transaction.now) ∷ []) c.self.view_is
