use Rattle.std.proofs.Common.{List, ap, arith, length, length-drop, subst, take}
use Rattle.std.proofs.lemmas.List.{take_rest}
use Rattle.fate_eval.specs.Grouped.{AreGathered}
use Rattle.fate_eval.specs.declared.accepted.Entry.{Entry}
use Rattle.fate_eval.proofs.Groups.{grouped_more}
use Rattle.fate_eval.proofs.accepted.groups_of.Goals as goal

pub loop-done-preserved : goal.loop-done-preserved
loop-done-preserved c =
    let es = c.args.entries.now in
    let rest = take_rest es c.loop-done.done in
    record {
      within = omega (arith, c.loop-done.invariant.within, ap length rest, length-drop c.loop-done.done es, c.in_ok-done.ensures.within);
      grouped = grouped_more c.loop-done.groups c.add_front.new.groups es c.loop-done.done c.in_ok-done.field-0 c.loop-done.invariant.within c.loop-done.invariant.grouped
          (subst (λ (fs : List Entry). AreGathered c.loop-done.groups (take c.in_ok-done.field-0 fs) c.add_front.new.groups) rest c.in_ok-done.ensures.added);
    }
