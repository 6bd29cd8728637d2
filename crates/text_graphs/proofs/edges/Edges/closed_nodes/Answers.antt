use Rattle.std.proofs.Common.{ℕ, false, get_or, sym, ◌∙◌, arith}
use Rattle.std.proofs.lemmas.List.{get_or_default}
use Rattle.std.proofs.lemmas.Option.{slice_get-get_or}
use Rattle.text_graphs.proofs.Closing.{none_marked, marked_past, marked_next, source_within, all_marked}
use Rattle.text_graphs.proofs.edges.Edges.closed_nodes.Goals as goal
use Rattle.text_graphs.proofs.edges.Edges.closed_nodes.Goals.{then-index, else-index}

pub mark-requires : goal.mark-requires
mark-requires c =
    let items = c.args.self.now.pairs.items in
    let cyclic = c.in_ok-cyclic.cyclic.items in
    let h = rw c.deref.ensures.value at c.in_ok-cyclic.ensures in
    let i = c.loop-i.i in
    let less = rw c.deref-pair-items.ensures.value at c.loop-i-test.true in
    let e : ℕ × ℕ = get_or items i (0, 0) in
    let below = source_within c.args.self.now.nodes items c.args.self.now.within cyclic h i e.0 e.1 (slice_get-get_or items i (0, 0) less) in
    rw c.deref-pair-items.ensures.value (omega (arith, below, c.loop-i.invariant.long))

pub loop-i-init : goal.loop-i-init
loop-i-init c =
    none_marked c.args.self.now.nodes c.args.self.now.pairs.items c.args.self.now.within c.in_ok-cyclic.cyclic.items (rw c.deref.ensures.value at c.in_ok-cyclic.ensures) c.in_ok-closed.closed.items c.in_ok-closed.ensures

pub loop-i-preserved : goal.loop-i-preserved
loop-i-preserved c =
    let items = c.args.self.now.pairs.items in
    let within = c.args.self.now.within in
    let cyclic = c.in_ok-cyclic.cyclic.items in
    let h = rw c.deref.ensures.value at c.in_ok-cyclic.ensures in
    let i = c.loop-i.i in
    let less = rw c.deref-pair-items.ensures.value at c.loop-i-test.true in
    let e : ℕ × ℕ = get_or items i (0, 0) in
    let at = slice_get-get_or items i (0, 0) less in
    let told = get_or_default cyclic i false c.index.result.now (omega (arith, less, h.long)) ∙ sym c.index.ensures in
    elim c.if-index.branch [
      | then-index w ↦
          rw w.closed-is (marked_next c.args.self.now.nodes items within cyclic h i e.0 e.1 c.loop-i.closed.items w.mark.new.closed.items at (told ∙ w.if-index.true) (rw c.deref-pair-items.ensures.value at w.mark.ensures) c.loop-i.invariant)
      | else-index w ↦ rw w.closed-is (marked_past c.args.self.now.nodes items within cyclic h i e.0 e.1 c.loop-i.closed.items at (told ∙ w.if-index.false) c.loop-i.invariant)
    ]

pub returns : goal.returns
returns c = all_marked c.args.self.now.nodes c.args.self.now.pairs.items c.args.self.now.within c.in_ok-cyclic.cyclic.items (rw c.deref.ensures.value at c.in_ok-cyclic.ensures) c.loop-i.i c.loop-i.closed.items (rw c.deref-pair-items.ensures.value at c.loop-i-test.false) c.loop-i.invariant
