use Rattle.std.proofs.Common.{◌≡◌, ◌∷◌, List, subst, arith}
use Rattle.std.proofs.lemmas.List.{take_all}
use Rattle.std.specs.Option.{option_or}
use Rattle.fate_eval.specs.Entries.{dated_in}
use Rattle.fate_eval.specs.declared.accepted.Entry.{Entry}
use Rattle.fate_eval.proofs.Groups.{led_at, run_more}
use Rattle.fate_eval.proofs.accepted.extend.Goals as goal

pub loop-entry-preserved : goal.loop-entry-preserved
loop-entry-preserved c = λ q all p.
    run_more c.args.group.now.items c.loop-entry.group.items c.add_below.new.group.items c.args.run.now c.loop-entry.entry-index c.entry-item.result q p c.loop-entry-test.true c.entry-item.is
    (c.loop-entry.invariant q all p)
    (c.in_ok-add_below.ensures q (led_at c.args.run.now c.loop-entry.entry-index c.entry-item.result q all c.loop-entry-test.true c.entry-item.is) p)

pub returns : goal.returns
returns c = λ q all p.
    subst (λ (es : List Entry). dated_in c.loop-entry.group.items p ≡ option_or (dated_in c.args.group.now.items p) (dated_in es (q ∷ p))) (take_all c.loop-entry.entry-index c.args.run.now (omega arith))
    (c.loop-entry.invariant q all p)
