use Rattle.std.proofs.Common.{inl, inr, refl, rules, subst}
use Rattle.flow_model.specs.declared.commands.Command.TheVariants.{Import}
use Rattle.flow_session.specs.Asking.{Asks}
use Rattle.flow_session.proofs.Asked.{asked_nothing, asked_so}
use Rattle.flow_session.proofs.Inputs.{ended_text}
use Rattle.flow_session.proofs.Stopping.{silent}
use Rattle.flow_session.proofs.serving.Session.imported.Goals as goal

pub returns-then-has_long-clause-makes : goal.returns-then-has_long-clause-makes
returns-then-has_long-clause-makes g c =
    asked_nothing g.J.Journal.tells g.J.Journal.holds g.J.Journal.moment g.J.Journal.left_since
    g.met.J.Journal.at_rest c.words.result c.args.journal.now c.args.self.now.core _ c.requires.open (c.words.ensures.silent) (inl refl)

pub returns-clause-served : goal.returns-clause-served
returns-clause-served g c = ended_text c.args.self.now c.obey.new.self c.args.gathered.has_long c.args.gathered.text.items _ c.obey.result (search rules) (search rules) c.obey.ensures.replied c.obey.ensures.gathers c.requires.outside

pub returns-then-has_long-clause-cause : goal.returns-then-has_long-clause-cause
returns-then-has_long-clause-cause g c = silent (g.J.Journal.faults c.args.journal.now) c.words.result c.words.ensures.silent

pub returns-clause-makes : goal.returns-clause-makes
returns-clause-makes g c =
    asked_so g.J.Journal.tells g.J.Journal.holds g.J.Journal.moment g.J.Journal.left_since
    c.obey.result c.args.journal.now c.obey.new.journal c.args.self.now.core c.obey.new.self.core _ _ c.obey.ensures.makes
    (λ ts asks. inr (search rules, subst (λ text. Asks c.args.self.now.core (Import text) ts) (search rules) asks))
