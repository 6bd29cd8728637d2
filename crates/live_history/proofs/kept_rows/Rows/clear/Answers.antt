use Rattle.std.proofs.Common.{◌∙◌, ap, List, None, slice_set}
use Rattle.live_history.specs.Rows.{HistoryRow}
use Rattle.live_history.proofs.Records.{kept_cleared, shown_cleared}
use Rattle.live_history.proofs.kept_rows.Rows.clear.Goals as goal

pub invariant_of-self : goal.invariant_of-self
invariant_of-self c =
    kept_cleared c.self.inside.records.items c.self.inside.places.items c.clear_row.new.rows.items c.args.place c.self.invariant c.clear_row.ensures

pub returns : goal.returns
returns c =
    shown_cleared c.self.inside.records.items c.self.inside.places.items c.clear_row.new.rows.items c.args.place c.clear_row.ensures
    ∙ ap (λ (l : List HistoryRow). slice_set l c.args.place None) c.self.view_is
