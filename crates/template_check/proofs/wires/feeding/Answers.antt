use Rattle.std.proofs.Common.{◌<◌, [], length, sym, ap, ◌∙◌, arith}
use Rattle.std.proofs.Math.ListN.{length-set}
use Rattle.std.proofs.lemmas.List.{length-replicate}
use Rattle.flow_model.specs.ScopeContainers.{same_end}
use Rattle.flow_model.specs.declared.graphs.MapEnd.TheVariants.{Activity as At}
use Rattle.template_check.proofs.Rows.{filled_none, filled_all, filled_past, filled_next, read_all}
use Rattle.template_check.specs.Wires.{IsEndBelow}
use Rattle.flow_model.specs.declared.graphs.DataLine.{DataLine}
use Rattle.template_check.proofs.wires.feeding.Goals as goal
use Rattle.template_check.proofs.wires.feeding.Goals.{in-Activity+in_ok-add-in-Activity, in-Border}

pub returns : goal.returns
returns c = rw c.into_list.ensures (filled_all (λ line a. same_end line.to (At a)) c.args.count c.args.lines.now c.loop-i.i c.loop-i.rows c.loop-i-test.false c.loop-i.invariant.0 c.loop-i.invariant.1)

pub loop-i-init : goal.loop-i-init
loop-i-init c = (ap length c.in_ok-rows.ensures ∙ length-replicate c.args.count [], filled_none (λ line a. same_end line.to (At a)) c.args.lines.now c.args.count c.in_ok-rows.rows c.in_ok-rows.ensures)

pub loop-i-preserved : goal.loop-i-preserved
loop-i-preserved c =
    let line = c.index-lines-i.result in
    let below : IsEndBelow c.args.count line.to = read_all (λ (x : DataLine). IsEndBelow c.args.count x.to) c.args.lines.now c.loop-i.i line c.requires c.loop-i-test.true c.index-lines-i.is in
    elim c.match-line.branch [
      | in-Activity+in_ok-add-in-Activity w ↦
          let to = w.in-Activity.to in
          let inside : to < length c.loop-i.rows = omega (arith, c.loop-i.invariant.0, rw w.in-Activity.is at below) in
          rw w.rows-is (
            ap length w.in_ok-add-in-Activity.ensures ∙ length-set c.loop-i.rows to _ ∙ c.loop-i.invariant.0,
            filled_next (λ l a. same_end l.to (At a)) c.args.lines.now c.loop-i.i line to c.loop-i.rows w.add.new.self c.loop-i-test.true (sym c.index-lines-i.is)
                (λ a. ap (λ e. same_end e (At a)) w.in-Activity.is) inside w.in_ok-add-in-Activity.ensures c.loop-i.invariant.1,
          )
      | in-Border w ↦
          rw w.rows-is (
            c.loop-i.invariant.0,
            filled_past (λ l a. same_end l.to (At a)) c.args.lines.now c.loop-i.i line c.loop-i.rows c.loop-i-test.true (sym c.index-lines-i.is)
                (λ a. ap (λ e. same_end e (At a)) w.in-Border.is) c.loop-i.invariant.1,
          )
    ]
