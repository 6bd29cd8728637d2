use Rattle.std.proofs.Common.{Bor, map}
use Rattle.std.proofs.lemmas.List.Elements.{AllWithin-none, AllWithin-more, at_read}
use Rattle.flow_model.specs.declared.trees.ProcessTree.{ProcessTree}
use Rattle.leaf_rules.specs.Leaves.{table_leaves}
use Rattle.process_rules.specs.Callees.{IsFitting}
use Rattle.process_rules.specs.declared.callees.Call.{Call}
use Rattle.process_rules.proofs.Deciding.{decides_not}
use Rattle.process_rules.proofs.InOrder.{first_least, none_least}
use Rattle.process_rules.proofs.callees.first_misfit.Goals as goal

pub loop-call-init : goal.loop-call-init
loop-call-init c =
    let leaves = table_leaves c.args.table.now in
    let library = c.args.known.now.catalog.now.library in
    let processes = map (λ (p : Bor ProcessTree). p.now) c.args.known.now.processes.items in
    let Fits = λ (x : Call). IsFitting leaves library processes x.activity.now x.callee in
    AllWithin-none Fits c.args.calls.now 0

pub loop-call-preserved : goal.loop-call-preserved
loop-call-preserved c =
    let leaves = table_leaves c.args.table.now in
    let library = c.args.known.now.catalog.now.library in
    let processes = map (λ (p : Bor ProcessTree). p.now) c.args.known.now.processes.items in
    let Fits = λ (x : Call). IsFitting leaves library processes x.activity.now x.callee in
    AllWithin-more Fits c.args.calls.now 0 c.loop-call.call-index c.loop-call.invariant (at_read c.args.calls.now Fits c.loop-call.call-index c.call-item.result c.loop-call-test.true c.call-item.is (c.fits.ensures.0 c.if-not-fits.false))

pub returns-then-not-fits : goal.returns-then-not-fits
returns-then-not-fits c =
    let leaves = table_leaves c.args.table.now in
    let library = c.args.known.now.catalog.now.library in
    let processes = map (λ (p : Bor ProcessTree). p.now) c.args.known.now.processes.items in
    let Fits = λ (x : Call). IsFitting leaves library processes x.activity.now x.callee in
    let call = c.call-item.result in
    first_least Fits (λ x. x.activity.now.place) c.args.calls.now c.loop-call.call-index call c.loop-call-test.true c.call-item.is c.requires.rising c.loop-call.invariant
    (decides_not (Fits call) c.fits.result c.if-not-fits.true c.fits.ensures)

pub returns : goal.returns
returns c =
    let leaves = table_leaves c.args.table.now in
    let library = c.args.known.now.catalog.now.library in
    let processes = map (λ (p : Bor ProcessTree). p.now) c.args.known.now.processes.items in
    let Fits = λ (x : Call). IsFitting leaves library processes x.activity.now x.callee in
    none_least Fits (λ x. x.activity.now.place) c.args.calls.now c.loop-call.call-index c.loop-call-test.false c.loop-call.invariant
