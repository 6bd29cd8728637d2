use Rattle.std.proofs.Common.{sym, ◌∙◌, arith}
use Rattle.std.proofs.lemmas.List.{take_rest, length-drop}
use Rattle.fdl_lexer.specs.Gaps.{Nothing}
use Rattle.fdl_lexer.proofs.Gaps.{gap_blank, gap_comment}
use Rattle.fdl_lexer.proofs.gap.gap_len.Goals as goal

pub loop-at-init : goal.loop-at-init
loop-at-init c = record { within = omega arith; gap = Nothing }

pub loop-at-preserved-then-is_blank : goal.loop-at-preserved-then-is_blank
loop-at-preserved-then-is_blank c = record {
  within = omega arith;
  gap = gap_blank c.args.bytes.now c.loop-at.at c.loop-at-test.true c.loop-at.invariant.gap (sym c.is_blank.ensures ∙ c.if-is_blank.true);
}

pub loop-at-preserved : goal.loop-at-preserved
loop-at-preserved c =
    let h = rw (take_rest c.args.bytes.now c.loop-at.at) at c.in-Some.ensures in
    record {
      within = omega (arith, length-drop c.loop-at.at c.args.bytes.now, h.within);
      gap = gap_comment c.args.bytes.now c.loop-at.at c.in-Some.len c.loop-at.invariant.gap h;
    }
