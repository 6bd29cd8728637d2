use Rattle.std.proofs.Common.{◌<◌, [], length, refl, sym, ap, ◌∙◌, arith}
use Rattle.std.specs.Prelude.{◌==◌}
use Rattle.std.proofs.Math.ListN.{length-set}
use Rattle.std.proofs.lemmas.List.{length-replicate}
use Rattle.flow_model.specs.declared.graphs.LoopLine.{LoopLine}
use Rattle.template_check.proofs.Rows.{filled_none, filled_all, filled_next, read_all}
use Rattle.template_check.proofs.wires.looping.Goals as goal

pub returns : goal.returns
returns c = rw c.into_list.ensures (filled_all (λ line a. line.activity == a) c.args.count c.args.loops.now c.loop-i.i c.loop-i.rows c.loop-i-test.false c.loop-i.invariant.0 c.loop-i.invariant.1)

pub loop-i-init : goal.loop-i-init
loop-i-init c = (ap length c.in_ok-rows.ensures ∙ length-replicate c.args.count [], filled_none (λ line a. line.activity == a) c.args.loops.now c.args.count c.in_ok-rows.rows c.in_ok-rows.ensures)

pub loop-i-preserved : goal.loop-i-preserved
loop-i-preserved c =
    let line = c.index-loops-i.result in
    let inside : line.activity < length c.loop-i.rows = omega (arith, c.loop-i.invariant.0, read_all (λ (x : LoopLine). x.activity < c.args.count) c.args.loops.now c.loop-i.i line c.requires c.loop-i-test.true c.index-loops-i.is) in (
      ap length c.in_ok-add.ensures ∙ length-set c.loop-i.rows line.activity _ ∙ c.loop-i.invariant.0,
      filled_next (λ line a. line.activity == a) c.args.loops.now c.loop-i.i line line.activity c.loop-i.rows c.add.new.self c.loop-i-test.true (sym c.index-loops-i.is) (λ a. refl) inside c.in_ok-add.ensures c.loop-i.invariant.1,
    )
