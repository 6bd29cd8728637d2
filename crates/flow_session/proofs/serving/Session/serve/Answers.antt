use Rattle.std.proofs.Common.{rules, subst, sym}
use Rattle.flow_session.specs.Asking.{AsksInput, AsksOutside}
use Rattle.flow_session.specs.Inputs.{given}
use Rattle.flow_session.proofs.Asked.{asked_nothing, asked_so}
use Rattle.flow_session.proofs.Inputs.{none_gathered}
use Rattle.flow_session.proofs.Stopping.{silent}
use Rattle.flow_session.proofs.serving.Session.serve.Goals as goal

pub returns-in-TooLong-clause-makes : goal.returns-in-TooLong-clause-makes
returns-in-TooLong-clause-makes g c =
    asked_nothing g.J.Journal.tells g.J.Journal.holds g.J.Journal.moment g.J.Journal.left_since
    g.met.J.Journal.at_rest c.words.result c.args.journal.now c.args.self.now.core _ c.requires (c.words.ensures.silent) (search rules)

pub returns-in-Ended-clause-makes : goal.returns-in-Ended-clause-makes
returns-in-Ended-clause-makes g c =
    asked_nothing g.J.Journal.tells g.J.Journal.holds g.J.Journal.moment g.J.Journal.left_since
    g.met.J.Journal.at_rest _ c.args.journal.now c.args.self.now.core _ c.requires (search rules) (search rules)

pub returns-in-TooLong-clause-cause : goal.returns-in-TooLong-clause-cause
returns-in-TooLong-clause-cause g c = silent (g.J.Journal.faults c.args.journal.now) c.words.result c.words.ensures.silent

pub returns-in-Text-clause-place : goal.returns-in-Text-clause-place
returns-in-Text-clause-place g c no_checkpoint =
    c.line.ensures.place (λ says. no_checkpoint (none_gathered c.args.self.now (search rules), search rules))

pub returns-in-Text-clause-makes : goal.returns-in-Text-clause-makes
returns-in-Text-clause-makes g c =
    let none = none_gathered c.args.self.now (search rules) in
    asked_so g.J.Journal.tells g.J.Journal.holds g.J.Journal.moment g.J.Journal.left_since
    c.line.result c.args.journal.now c.line.new.journal c.args.self.now.core c.line.new.self.core _ _ c.line.ensures.makes
    (λ ts asks. subst (λ u. AsksInput u c.args.self.now.core (given c.args.input) ts) (sym none)
    (subst (λ input. AsksOutside c.args.self.now.core (given input) ts) (sym c.in-Text.is) asks))
