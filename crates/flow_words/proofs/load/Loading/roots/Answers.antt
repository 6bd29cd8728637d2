use Rattle.std.proofs.Common.{◌∙◌, refl, ap}
use Rattle.flow_words.specs.Loading.{amount_by}
use Rattle.flow_words.proofs.Loads.{serves_none, serves_root, number_more}
use Rattle.flow_words.proofs.load.Loading.roots.Goals as goal

pub loop-before-init : goal.loop-before-init
loop-before-init c = record { number = refl; served = serves_none c.args.self.now }

pub loop-before-preserved : goal.loop-before-preserved
loop-before-preserved c =
    let seed = c.args.seed in
    let root = c.loop-before.before in
    let i = c.loop-before.invariant in
    let number = number_more seed root c.loop-before.x c.next_number-x.result c.next_number-x.ensures i.number in
    record {
      number = number;
      served = serves_root seed root c.amount.result c.args.self.now c.loop-before.self c.root.new.self (c.amount.ensures ∙ ap amount_by number) i.served c.in_ok-root.ensures;
    }
