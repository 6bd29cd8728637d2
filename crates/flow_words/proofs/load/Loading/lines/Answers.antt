use Rattle.flow_words.proofs.Loads.{serves_none, serves_line}
use Rattle.flow_words.proofs.load.Loading.lines.Goals as goal

pub loop-line-init : goal.loop-line-init
loop-line-init c = serves_none c.args.self.now

pub loop-line-preserved : goal.loop-line-preserved
loop-line-preserved c = serves_line c.args.lines.now c.loop-line.line-index _ c.args.self.now c.loop-line.self c.line.new.self c.loop-line-test.true c.loop-line.invariant c.in_ok-line.ensures
