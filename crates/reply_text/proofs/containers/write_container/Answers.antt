use Rattle.std.proofs.Common.{◌<◌, ◌++◌, length, sym}
use Rattle.reply_text.specs.Leaves.{container_text}
use Rattle.reply_text.proofs.Lines.{there_is, steps_of, line_more, lines_end}
use Rattle.reply_text.proofs.containers.write_container.Goals as goal

pub returns-in_default : goal.returns-in_default
returns-in_default c =
    lines_end c.args.leaves.now.leaves c.args.container.now.values c.loop-place.place c.loop-place.out.items (c.args.out.now.items ++ container_text c.args.leaves.now c.args.container.now)
    (rw c.in_default.is at c.value_at.ensures) c.loop-place.invariant

pub loop-place-preserved : goal.loop-place-preserved
loop-place-preserved c =
    let leaves = c.args.leaves.now.leaves in
    let place = c.loop-place.place in
    let less : place < length leaves = rw c.len-place-end.ensures.len at c.loop-place-test.true in
    let there = there_is leaves place less in
    line_more leaves c.args.container.now.values place there.0 c.in-Some.value.now c.loop-place.out.items c.write_line.new.out.items (c.args.out.now.items ++ container_text c.args.leaves.now c.args.container.now) there.1
    (sym (rw c.in-Some.is at c.value_at.ensures)) (c.in_ok-write_line.ensures there.0 (steps_of leaves place there.0 c.steps.result there.1 c.steps.ensures)) c.loop-place.invariant
