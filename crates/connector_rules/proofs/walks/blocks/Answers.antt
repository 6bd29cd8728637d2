use Rattle.std.proofs.Common.{ℕ, sym, subst, arith}
use Rattle.connector_rules.specs.Walking.{AreSources}
use Rattle.connector_rules.proofs.Walking.{more_blocks}
use Rattle.connector_rules.proofs.walks.blocks.Goals as goal

pub loop-block-preserved : goal.loop-block-preserved
loop-block-preserved c = (
  (let long = c.loop-block.invariant.0 in let more = c.in_ok-push.ensures.len in omega (arith, long, more)),
  λ elements sorted.
      let groups = c.args.groups.now in
      let last = c.in_ok-words.ensures elements sorted in
      more_blocks elements groups c.loop-block.blocks.items c.push.new.self.items c.in_ok-words.words c.in_ok-push.ensures.items (c.loop-block.invariant.1 elements sorted)
      (subst (λ (n : ℕ). AreSources elements groups n c.in_ok-words.words.items) (sym c.loop-block.invariant.0) last),
)
