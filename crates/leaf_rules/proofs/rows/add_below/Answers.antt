use Rattle.std.proofs.Common.{◌+◌, ◌<◌, length, refl, sym, ◌∙◌, arith}
use Rattle.flow_model.specs.LeafRows.{place_steps}
use Rattle.leaf_rules.proofs.Rowing.{below_more, below_all, none_within}
use Rattle.leaf_rules.proofs.rows.add_below.Goals.{in-Some+in_ok-add_row, in_default}
use Rattle.leaf_rules.proofs.rows.add_below.Goals as goal

pub loop-row-preserved : goal.loop-row-preserved
loop-row-preserved c =
    let old = c.args.table.now in
    let row = c.loop-row.row in
    let so_far = c.loop-row.invariant in
    let less : row < length old = (let t = c.loop-row-test.true in let e = c.min-past.ensures in let n = c.len.ensures in omega arith) in (
      (let t = c.loop-row-test.true in omega arith),
      (let l = so_far.1 in omega arith),
      elim c.match-kind.branch [
        | in-Some+in_ok-add_row w ↦ below_more old c.loop-row.table c.match-kind.table (c.args.run.first + 1) row c.args.head.now.value (place_steps c.args.place) w.in-Some.kind so_far.1 less so_far.2
            (sym w.in-Some.is ∙ c.kind.ensures) (w.table-is ∙ w.in_ok-add_row.ensures)
        | in_default w ↦ absurd (none_within old c.loop-row.table row _ less so_far.2 (sym w.in_default.is ∙ c.kind.ensures))
      ],
    )

pub returns : goal.returns
returns c = λ inner is.
    let old = c.args.table.now in
    let so_far = c.loop-row.invariant in
    below_all old c.loop-row.table c.args.run (c.args.run.first + 1) c.min-past.result c.loop-row.row c.args.head.now.value (place_steps c.args.place) inner is refl
    (let e = c.min-past.ensures in let n = c.len.ensures in omega arith) (let t = c.loop-row-test.false in omega arith) so_far.0 so_far.2
