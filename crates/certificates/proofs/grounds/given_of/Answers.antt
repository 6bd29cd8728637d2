use Rattle.certificates.proofs.Texts.{given_more}
use Rattle.certificates.proofs.grounds.given_of.Goals as goal

pub loop-fact-preserved : goal.loop-fact-preserved
loop-fact-preserved c =
    given_more c.loop-fact.given c.add_given.new.given c.args.facts.now c.loop-fact.fact-index c.fact-item.result c.loop-fact-test.true c.fact-item.is c.loop-fact.invariant c.in_ok-add_given.ensures
