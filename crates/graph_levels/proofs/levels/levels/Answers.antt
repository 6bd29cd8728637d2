use Rattle.std.proofs.Common.{ℕ, ◌+◌, ◌^◌, ◌<◌, List, length, sym, subst, ◌∙◌}
use Rattle.std.specs.Prelude.{slice_index}
use Rattle.std.specs.List.{All}
use Rattle.std.proofs.Math.ListN.{length-set}
use Rattle.graph_levels.specs.Filing.{IsJustAbove}
use Rattle.graph_levels.proofs.Leveling.{sources_inside, sources_low, row_read, done_next, all_done}
use Rattle.graph_levels.proofs.levels.levels.Goals as goal

pub level_above-level-requires-clause-inside : goal.level_above-level-requires-clause-inside
level_above-level-requires-clause-inside c =
    subst (λ (ls : List ℕ). All (λ a. a < length ls) c.as_slice.result.now) (sym c.deref.ensures.value)
    (sources_inside c.args.nodes c.args.edges.now c.args.order.now c.loop-node.levels.items c.loop-node.node-index c.requires.nodes c.requires.ordered c.loop-node.invariant.long c.loop-node.invariant.each
    c.loop-node-test.true c.in_ok-sources.sources.items c.in_ok-sources.ensures c.as_slice.result.now (row_read c.in_ok-sources.sources.items (slice_index c.args.order.now c.loop-node.node-index) c.index.result.now c.as_slice.result.now c.as_slice.ensures c.index.ensures))

pub level_above-level-requires-clause-low : goal.level_above-level-requires-clause-low
level_above-level-requires-clause-low c =
    subst (λ (ls : List ℕ). All (λ a. slice_index ls a + 1 < 2 ^ 32) c.as_slice.result.now) (sym c.deref.ensures.value)
    (sources_low c.args.nodes c.args.edges.now c.args.order.now c.loop-node.levels.items c.loop-node.node-index c.requires.nodes c.requires.ordered c.loop-node.invariant.long c.loop-node.invariant.each
    c.loop-node-test.true c.in_ok-sources.sources.items c.in_ok-sources.ensures c.as_slice.result.now (row_read c.in_ok-sources.sources.items (slice_index c.args.order.now c.loop-node.node-index) c.index.result.now c.as_slice.result.now c.as_slice.ensures c.index.ensures) c.ranges.nodes.fits)

pub loop-node-preserved : goal.loop-node-preserved
loop-node-preserved c =
    let above = subst (λ (ls : List ℕ). IsJustAbove ls c.as_slice.result.now (length c.as_slice.result.now) c.level_above-level.result) c.deref.ensures.value c.level_above-level.ensures in
    record {
      long = length-set c.loop-node.levels.items (slice_index c.args.order.now c.loop-node.node-index) c.level_above-level.result ∙ c.loop-node.invariant.long;
      each = done_next c.args.nodes c.args.edges.now c.args.order.now c.loop-node.levels.items c.loop-node.node-index c.requires.nodes c.requires.ordered c.loop-node.invariant.long c.loop-node.invariant.each
          c.loop-node-test.true c.in_ok-sources.sources.items c.in_ok-sources.ensures c.as_slice.result.now
          (row_read c.in_ok-sources.sources.items (slice_index c.args.order.now c.loop-node.node-index) c.index.result.now c.as_slice.result.now c.as_slice.ensures c.index.ensures) c.level_above-level.result above;
    }

pub returns : goal.returns
returns c = all_done c.args.nodes c.args.edges.now c.args.order.now c.loop-node.levels.items c.loop-node.node-index c.requires.nodes c.requires.ordered c.loop-node.invariant.long c.loop-node.invariant.each c.loop-node-test.false
