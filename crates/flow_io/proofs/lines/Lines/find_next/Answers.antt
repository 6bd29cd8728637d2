use Rattle.std.proofs.Common.{[], ◌++◌, arith, refl}
use Rattle.std.proofs.lemmas.Result.{err_from_is_err_and}
use Rattle.flow_io.proofs.Progress.{nothing_yet, told_line, set_aside_midway, block_taken, told_fault, told_end}
use Rattle.flow_io.proofs.lines.Lines.find_next.Goals as goal

pub turns-init : goal.turns-init
turns-init g c = record { counted = refl; so_far = ([], [], nothing_yet _ _) }

pub returns-in-Line-clause-told : goal.returns-in-Line-clause-told
returns-in-Line-clause-told g c =
    let far = c.turns.invariant.so_far in
    (far.1, far.2.taken, rw (c.hand_line.ensures.kind, c.hand_line.ensures.after) (told_line _ _ _ _ _ _ _ _ far.2 c.in-Line.len c.in-Line.ensures.0 c.in-Line.ensures.1))

pub returns-in_err-take_block-clause-told : goal.returns-in_err-take_block-clause-told
returns-in_err-take_block-clause-told g c =
    let far = c.turns.invariant.so_far in
    let mid = set_aside_midway _ _ _ _ _ _ _ _ _ _ far.2 c.in-Part.ensures.0 c.in-Part.ensures.1 c.set_aside-passed.ensures in
    let t = c.in_err-take_block.ensures.taken in
    let p = err_from_is_err_and c.from_residual.result c.from_residual.ensures.1 in
    rw (p.1, p.2) (told_fault _ _ _ _ _ _ _ _ t.0 _ _ mid.1.far t.1)

pub returns-then-not-branch-clause-told : goal.returns-then-not-branch-clause-told
returns-then-not-branch-clause-told g c =
    let far = c.turns.invariant.so_far in
    let mid = set_aside_midway _ _ _ _ _ _ _ _ _ _ far.2 c.in-Part.ensures.0 c.in-Part.ensures.1 c.set_aside-passed.ensures in
    let t = rw c.if-not-branch.true at c.in_ok-take_block.ensures.taken in
    rw (c.hand_last.ensures.kind, c.hand_last.ensures.after) (told_end _ _ c.take_block.new.self _ _ _ _ _ _ t.0 mid.1 t.1 c.in_ok-take_block.ensures.room)

pub turns-preserved : goal.turns-preserved
turns-preserved g c =
    let far = c.turns.invariant.so_far in
    let mid = set_aside_midway _ _ _ _ _ _ _ _ _ _ far.2 c.in-Part.ensures.0 c.in-Part.ensures.1 c.set_aside-passed.ensures in
    let t = rw c.if-not-branch.false at c.in_ok-take_block.ensures.taken in
    record {
      counted = omega (arith, c.in_ok-take_block.ensures.cause);
      so_far = (mid.0, far.1 ++ t.0, rw c.held_len-scanned.ensures (block_taken _ _ _ _ _ _ _ _ _ _ t.0 mid.1.far t.1.0 t.1.2 c.in_ok-take_block.ensures.room));
    }
