use Rattle.std.proofs.Common.{rules}
use Rattle.flow_session.proofs.Asked.{asked_nothing, none_inside}
use Rattle.flow_session.proofs.Stopping.{silent}
use Rattle.flow_session.proofs.serving.Session.gather.Goals as goal
use Rattle.flow_session.proofs.serving.Session.gather.Goals.{then-gathered, else-gathered}

pub returns-in_err-add-in-Text-2-clause-makes : goal.returns-in_err-add-in-Text-2-clause-makes
returns-in_err-add-in-Text-2-clause-makes g c =
    asked_nothing g.J.Journal.tells g.J.Journal.holds g.J.Journal.moment g.J.Journal.left_since
    g.met.J.Journal.at_rest _ c.args.journal.now c.args.self.now.core _ c.requires.open (search rules) (none_inside c.args.self.now.core _ _)

pub returns-in-Ended-clause-makes : goal.returns-in-Ended-clause-makes
returns-in-Ended-clause-makes g c =
    asked_nothing g.J.Journal.tells g.J.Journal.holds g.J.Journal.moment g.J.Journal.left_since
    g.met.J.Journal.at_rest _ c.args.journal.now c.args.self.now.core _ c.requires.open (search rules) (search rules)

pub returns-clause-makes : goal.returns-clause-makes
returns-clause-makes g c =
    asked_nothing g.J.Journal.tells g.J.Journal.holds g.J.Journal.moment g.J.Journal.left_since
    g.met.J.Journal.at_rest _ c.args.journal.now c.args.self.now.core _ c.requires.open (search rules) (search rules)

pub returns-in-Ended-clause-cause : goal.returns-in-Ended-clause-cause
returns-in-Ended-clause-cause g c =
    elim c.if-gathered.branch [
      | then-gathered w ↦ rw w.result-is (silent (g.J.Journal.faults c.args.journal.now) w.words.result w.words.ensures.silent)
      | else-gathered w ↦ rw w.result-is (silent (g.J.Journal.faults c.args.journal.now) w.words-else-gathered.result w.words-else-gathered.ensures.silent)
    ]
