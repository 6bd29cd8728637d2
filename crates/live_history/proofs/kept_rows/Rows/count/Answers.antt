use Rattle.std.proofs.Common.{◌∙◌, List, sym, ap, subst, length}
use Rattle.std.specs.List.{filter}
use Rattle.std.specs.Option.{is_some}
use Rattle.live_history.specs.Kept.{AreKept}
use Rattle.live_history.specs.Rows.{HistoryRow}
use Rattle.live_history.specs.declared.kept_rows.Row.{Row}
use Rattle.live_history.proofs.Records.{shown_count}
use Rattle.live_history.proofs.kept_rows.Rows.count.Goals as goal

pub returns : goal.returns
returns c =
    let records = c.self.inside.records.items in
    c.count_present.ensures records (subst (λ (rows : List Row). AreKept records rows) (sym c.deref.ensures.value) c.self.invariant)
    ∙ ap (shown_count is_some records) c.deref.ensures.value ∙ ap (λ (rows : List HistoryRow). length (filter is_some rows)) c.self.view_is
