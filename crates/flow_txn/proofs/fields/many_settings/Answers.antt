use Rattle.std.proofs.lemmas.Result.{err_from_is_err_and}
use Rattle.flow_txn.specs.Reading.{many, setting}
use Rattle.flow_txn.proofs.Loop.{goes_on, ends, is_done}
use Rattle.flow_txn.proofs.fields.many_settings.Goals as goal

pub returns-in_err-setting : goal.returns-in_err-setting
returns-in_err-setting c =
    let p = err_from_is_err_and c.from_residual.result c.from_residual.ensures.1 in
    rw (p.1, p.2) (ends setting c.in_err-setting.field-0.0 c.loop.settings c.args.count c.loop.counter c.loop.rest.now (many setting c.args.count c.args.bytes.now) c.loop-test.true c.in_err-setting.ensures c.loop.invariant)

pub loop-preserved : goal.loop-preserved
loop-preserved c =
    rw c.in_ok-push.ensures.ok (goes_on setting c.loop.settings c.args.count c.loop.counter c.loop.rest.now c.in_ok-setting.setting c.in_ok-setting.after.now (many setting c.args.count c.args.bytes.now) c.loop-test.true c.in_ok-setting.ensures c.loop.invariant)

pub returns : goal.returns
returns c = is_done setting c.loop.settings c.args.count c.loop.counter c.loop.rest.now (many setting c.args.count c.args.bytes.now) c.loop-test.false c.loop.invariant
