use Rattle.std.proofs.Common.{◌∙◌, sym, ap, option_map, map}
use Rattle.flow_core.specs.OpenItems.{told_of, open_in}
use Rattle.flow_core.proofs.OpenRows.{leaves_one, leaves_none}
use Rattle.flow_core.proofs.state.Core.add_open_rows.Goals as goal

pub loop-row-preserved-in-Continue-branch-3 : goal.loop-row-preserved-in-Continue-branch-3
loop-row-preserved-in-Continue-branch-3 c =
    ap (map told_of) c.in_ok-push.ensures.items
    ∙ leaves_one told_of (open_in c.args.self.now) (map told_of c.args.found.now.items) c.loop-row.found.items c.loop-row.yielded c.in-Some.row c.in-Some-2.open c.loop-row.invariant
    (ap (option_map told_of) (sym c.in-Some-2.is) ∙ c.in_ok-open.ensures)

pub loop-row-preserved : goal.loop-row-preserved
loop-row-preserved c =
    leaves_none told_of (open_in c.args.self.now) (map told_of c.args.found.now.items) c.loop-row.found.items c.loop-row.yielded c.in-Some.row c.loop-row.invariant
    (ap (option_map told_of) (sym c.in_default.is) ∙ c.in_ok-open.ensures)
