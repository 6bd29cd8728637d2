use Rattle.txn_log.proofs.Outlines.{choice_by_a, choice_by_b, choice_inside}
use Rattle.txn_log.proofs.choosing.choose_by.Goals as goal

pub returns-in-A-clause-choice : goal.returns-in-A-clause-choice
returns-in-A-clause-choice c image here beside = choice_by_a c.args.slot c.choose.result c.args.here c.args.beside image c.in-A.is here beside c.choose.ensures

pub returns-in-A-clause-inside : goal.returns-in-A-clause-inside
returns-in-A-clause-inside c = choice_inside c.choose.result _ c.choose.ensures

pub returns-in-B-clause-choice : goal.returns-in-B-clause-choice
returns-in-B-clause-choice c image here beside = choice_by_b c.args.slot c.choose-in-B.result c.args.here c.args.beside image c.in-B.is here beside c.choose-in-B.ensures

pub returns-in-B-clause-inside : goal.returns-in-B-clause-inside
returns-in-B-clause-inside c = choice_inside c.choose-in-B.result _ c.choose-in-B.ensures
