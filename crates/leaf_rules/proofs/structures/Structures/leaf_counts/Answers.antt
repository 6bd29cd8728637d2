use Rattle.std.proofs.Common.{ℕ, ◌<◌, get_or, length}
use Rattle.std.proofs.lemmas.List.{get_or_default, length-map}
use Rattle.std.proofs.lemmas.List.Elements.{All-contains}
use Rattle.std.proofs.lemmas.Option.{slice_get-get_or}
use Rattle.leaf_rules.specs.Structures.{behind}
use Rattle.leaf_rules.proofs.Counting.{counted_next, counted_all}
use Rattle.leaf_rules.proofs.Cycles.{at_behind}
use Rattle.leaf_rules.proofs.structures.Structures.leaf_counts.Goals as goal

pub loop-number-preserved : goal.loop-number-preserved
loop-number-preserved c =
    let items = c.args.self.now.definitions.items in
    let structures = behind items in
    let order = c.args.order.now in
    let i = c.loop-number.number-index in
    let less = c.loop-number-test.true in
    let number = get_or order i 0 in
    let within : number < length structures = All-contains (λ (a : ℕ). a < length structures) order number c.requires.in_range (i, less, get_or_default order i number 0 less) in
    let x = c.index-structure.result.now in
    counted_next structures order c.requires i c.loop-number.counts.items c.loop-number.invariant number (slice_get-get_or order i 0 less) x.now (at_behind items number x (rw length-map at within) c.index-structure.ensures)
    c.count_of-count.result c.set_count.new.counts.items (rw c.deref.ensures.value at c.count_of-count.ensures) c.set_count.ensures

pub returns : goal.returns
returns c = counted_all (behind c.args.self.now.definitions.items) c.args.order.now c.requires c.loop-number.number-index c.loop-number.counts.items c.loop-number-test.false c.loop-number.invariant
