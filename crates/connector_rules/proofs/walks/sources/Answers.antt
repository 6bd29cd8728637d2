use Rattle.std.proofs.Common.{◌∙◌, ◌<◌, ap, length, sym, subst, ℕ}
use Rattle.std.specs.Prelude.{slice_index_or}
use Rattle.std.specs.List.{All}
use Rattle.std.proofs.lemmas.List.{length-set, get_or_default}
use Rattle.connector_rules.proofs.Walking.{more_filled, all_filled}
use Rattle.connector_rules.proofs.walks.sources.Goals as goal

pub loop-pair-preserved : goal.loop-pair-preserved
loop-pair-preserved c =
    let pairs = c.args.pairs.now in
    let groups = c.args.groups.now in
    let i = c.loop-pair.pair-index in
    let pair = slice_index_or pairs i (0, 0) in
    let within = c.requires i (0, 0) c.loop-pair-test.true in
    let to = c.loop-pair.invariant.0 pair.1 0 within.1 in (
      subst (λ (n : ℕ). All (λ (group : ℕ). group < n) groups) (sym (ap length c.pass.ensures ∙ length-set c.loop-pair.words.items _ _)) c.loop-pair.invariant.0,
      λ elements sorted. rw c.pass.ensures (more_filled elements groups c.args.block pairs sorted i pair c.loop-pair.words.items (c.loop-pair.invariant.1 elements sorted) c.loop-pair-test.true (get_or_default pairs i (0, 0) pair c.loop-pair-test.true) to),
    )

pub returns : goal.returns
returns c = λ elements sorted.
    all_filled elements c.args.groups.now c.args.block c.args.pairs.now sorted c.loop-pair.pair-index c.loop-pair.words.items c.loop-pair-test.false (c.loop-pair.invariant.1 elements sorted)
