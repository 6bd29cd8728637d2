use Rattle.std.proofs.Common.{◌≡◌, ◌∙◌, inl, inr, refl, rules, subst, sym}
use Rattle.flow_model.specs.declared.commands.Command.TheVariants.{Import, Drain}
use Rattle.flow_session.specs.Asking.{Asks}
use Rattle.flow_session.proofs.Asked.{asked_nothing, asked_so}
use Rattle.flow_session.proofs.Inputs.{obeyed}
use Rattle.flow_session.proofs.Stopping.{silent}
use Rattle.flow_session.proofs.serving.Session.command.Goals as goal

pub returns-in-Import-clause-makes : goal.returns-in-Import-clause-makes
returns-in-Import-clause-makes g c =
    asked_nothing g.J.Journal.tells g.J.Journal.holds g.J.Journal.moment g.J.Journal.left_since
    g.met.J.Journal.at_rest _ c.args.journal.now c.args.self.now.core _ c.requires.open (search rules) (inl refl)

pub returns-in-Ask-clause-makes : goal.returns-in-Ask-clause-makes
returns-in-Ask-clause-makes g c =
    asked_nothing g.J.Journal.tells g.J.Journal.holds g.J.Journal.moment g.J.Journal.left_since
    g.met.J.Journal.at_rest c.answer.result c.args.journal.now c.args.self.now.core _ c.requires.open (c.answer.ensures.silent) (inl refl)

pub returns-in_default-clause-served : goal.returns-in_default-clause-served
returns-in_default-clause-served g c = obeyed c.args.self.now c.obey.new.self c.args.command.now c.obey.result c.in_default.not-Import c.in_default.not-Drain c.in_default.not-Checkpoint c.in_default.not-Ask c.obey.ensures.replied c.obey.ensures.gathers c.requires.outside

pub returns-in-Ask-clause-cause : goal.returns-in-Ask-clause-cause
returns-in-Ask-clause-cause g c = silent (g.J.Journal.faults c.args.journal.now) c.answer.result c.answer.ensures.silent

pub returns-in-Checkpoint-clause-place : goal.returns-in-Checkpoint-clause-place
returns-in-Checkpoint-clause-place g c no_checkpoint = absurd (no_checkpoint (search rules))

pub returns-in_default-clause-place : goal.returns-in_default-clause-place
returns-in_default-clause-place g c no_checkpoint = c.obey.ensures.place

pub returns-in_default-clause-makes : goal.returns-in_default-clause-makes
returns-in_default-clause-makes g c =
    asked_so g.J.Journal.tells g.J.Journal.holds g.J.Journal.moment g.J.Journal.left_since
    c.obey.result c.args.journal.now c.obey.new.journal c.args.self.now.core c.obey.new.self.core _ _ c.obey.ensures.makes
    (λ ts asks. inr (c.in_default.not-Import, asks))

pub returns-in-Drain-clause-makes : goal.returns-in-Drain-clause-makes
returns-in-Drain-clause-makes g c =
    let is : c.args.command.now ≡ Drain = search rules in
    asked_so g.J.Journal.tells g.J.Journal.holds g.J.Journal.moment g.J.Journal.left_since
    c.drain.result c.args.journal.now c.drain.new.journal c.args.self.now.core c.drain.new.self.core _ _ c.drain.ensures.makes
    (λ ts asks. inr (
      λ text other. absurd (let e : Drain ≡ Import text = sym is ∙ other in cc),
      subst (λ command. Asks c.args.self.now.core command ts) (sym is) asks,
    ))

pub returns-in-Checkpoint-clause-makes : goal.returns-in-Checkpoint-clause-makes
returns-in-Checkpoint-clause-makes g c =
    asked_so g.J.Journal.tells g.J.Journal.holds g.J.Journal.moment g.J.Journal.left_since
    c.checkpoint.result c.args.journal.now c.checkpoint.new.journal c.args.self.now.core c.checkpoint.new.self.core _ _
    c.checkpoint.ensures.makes (λ ts none. inl none)
