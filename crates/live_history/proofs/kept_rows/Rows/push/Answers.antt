use Rattle.std.proofs.Common.{◌∙◌, Some, List, [], ◌∷◌, ◌++◌, sym, ap, subst}
use Rattle.live_history.specs.Kept.{shown_rows, AreKept}
use Rattle.live_history.specs.Rows.{HistoryRow}
use Rattle.live_history.specs.declared.kept_rows.Row.{Row}
use Rattle.live_history.proofs.Records.{numbered_of, rows_extended, all_extended, kept_pushed, shown_pushed}
use Rattle.live_history.proofs.Rows.{on_err}
use Rattle.live_history.proofs.kept_rows.Rows.push.Goals as goal

pub returns-in_err-row-clause-err : goal.returns-in_err-row-clause-err
returns-in_err-row-clause-err c =
    on_err c.from_residual.result
    (rows_extended c.self.inside.records.items c.keep.new.records.items c.self.inside.places.items c.keep.ensures.others c.self.invariant ∙ c.self.view_is)

pub invariant_of-self-in_err-push : goal.invariant_of-self-in_err-push
invariant_of-self-in_err-push c =
    subst (λ (rows : List Row). AreKept c.keep.new.records.items rows) (sym c.in_err-push.ensures.items)
    (all_extended c.self.inside.records.items c.keep.new.records.items c.self.inside.places.items c.keep.ensures.others c.self.invariant)

pub returns-in_err-push-clause-err : goal.returns-in_err-push-clause-err
returns-in_err-push-clause-err c =
    on_err c.from_residual-in_err-push.result
    (ap (shown_rows c.keep.new.records.items) c.in_err-push.ensures.items
    ∙ rows_extended c.self.inside.records.items c.keep.new.records.items c.self.inside.places.items c.keep.ensures.others c.self.invariant ∙ c.self.view_is)

pub invariant_of-self-2 : goal.invariant_of-self-2
invariant_of-self-2 c =
    kept_pushed c.self.inside.records.items c.keep.new.records.items c.self.inside.places.items c.push.new.self.items c.in_ok-row.row
    c.keep.ensures.others c.self.invariant c.in_ok-row.ensures.kept.0 c.in_ok-push.ensures.items

pub returns-clause-ok : goal.returns-clause-ok
returns-clause-ok c =
    shown_pushed c.self.inside.records.items c.keep.new.records.items c.self.inside.places.items c.push.new.self.items c.in_ok-row.row (numbered_of c.args.number c.args.transaction.now)
    c.keep.ensures.others c.self.invariant c.in_ok-row.ensures.kept.1 c.in_ok-push.ensures.items
    ∙ ap (λ (rows : List HistoryRow). rows ++ Some (numbered_of c.args.number c.args.transaction.now) ∷ []) c.self.view_is
