use Rattle.std.proofs.Common.{inl, inr, refl, rules, subst, sym}
use Rattle.flow_model.specs.declared.commands.Command.TheVariants.{Checkpoint}
use Rattle.flow_session.proofs.Asked.{asked_nothing, asked_so}
use Rattle.flow_session.proofs.Inputs.{says_blank, says_command, says_none}
use Rattle.flow_session.specs.Inputs.{Says, unended}
use Rattle.flow_session.proofs.Stopping.{silent}
use Rattle.flow_session.proofs.serving.Session.line.Goals as goal

pub returns-then-line-gt-MOST_LINE-clause-makes : goal.returns-then-line-gt-MOST_LINE-clause-makes
returns-then-line-gt-MOST_LINE-clause-makes g c =
    asked_nothing g.J.Journal.tells g.J.Journal.holds g.J.Journal.moment g.J.Journal.left_since
    g.met.J.Journal.at_rest c.words.result c.args.journal.now c.args.self.now.core _ c.requires.open (c.words.ensures.silent) (inl refl)

pub returns-in-Ok-None-clause-makes : goal.returns-in-Ok-None-clause-makes
returns-in-Ok-None-clause-makes g c =
    asked_nothing g.J.Journal.tells g.J.Journal.holds g.J.Journal.moment g.J.Journal.left_since
    g.met.J.Journal.at_rest _ c.args.journal.now c.args.self.now.core _ c.requires.open (search rules) (inl refl)

pub returns-in-Err-Word-clause-makes : goal.returns-in-Err-Word-clause-makes
returns-in-Err-Word-clause-makes g c =
    asked_nothing g.J.Journal.tells g.J.Journal.holds g.J.Journal.moment g.J.Journal.left_since
    g.met.J.Journal.at_rest c.numbered.result c.args.journal.now c.args.self.now.core _ c.requires.open (c.numbered.ensures.silent) (inl refl)

pub returns-in-Err-NoMemory-clause-makes : goal.returns-in-Err-NoMemory-clause-makes
returns-in-Err-NoMemory-clause-makes g c =
    asked_nothing g.J.Journal.tells g.J.Journal.holds g.J.Journal.moment g.J.Journal.left_since
    g.met.J.Journal.at_rest _ c.args.journal.now c.args.self.now.core _ c.requires.open (search rules) (inl refl)

pub returns-in-Ok-None-clause-served : goal.returns-in-Ok-None-clause-served
returns-in-Ok-None-clause-served g c =
    says_blank c.args.self.now c.args.line.now _ (search rules)
    (rw c.in-Ok-None.field-0-is at c.in-Ok-None.ensures.read) c.requires.outside (search rules)

pub returns-in-Ok-Some-clause-served : goal.returns-in-Ok-Some-clause-served
returns-in-Ok-Some-clause-served g c =
    let says = rw c.in-Ok-Some.field-0-is at c.in-Ok-Some.ensures.says in
    let one = rw c.in-Ok-Some.field-0-is at c.in-Ok-Some.ensures.one in
    says_command c.args.self.now.core c.command-in-Ok-Some.new.self.core (unended c.command-in-Ok-Some.new.self) c.args.line.now c.in-Ok-Some.command c.command-in-Ok-Some.result (search rules) says one c.command-in-Ok-Some.ensures.served

pub returns-in-Err-Word-clause-served : goal.returns-in-Err-Word-clause-served
returns-in-Err-Word-clause-served g c =
    let refused = rw c.in-Err-Word.field-0-is at c.in-Err-Word.ensures.refused in
    let none = rw c.in-Err-Word.field-0-is at c.in-Err-Word.ensures.none in
    let first = rw c.in-Err-Word.field-0-is at c.in-Err-Word.ensures.first in
    says_none c.args.self.now c.args.line.now c.in-Err-Word.place c.numbered.result (search rules) (record { refused = refused; none = none; first = first }) c.requires.outside (search rules)

pub returns-then-line-gt-MOST_LINE-clause-cause : goal.returns-then-line-gt-MOST_LINE-clause-cause
returns-then-line-gt-MOST_LINE-clause-cause g c = silent (g.J.Journal.faults c.args.journal.now) c.words.result c.words.ensures.silent

pub returns-in-Err-Word-clause-cause : goal.returns-in-Err-Word-clause-cause
returns-in-Err-Word-clause-cause g c = silent (g.J.Journal.faults c.args.journal.now) c.numbered.result c.numbered.ensures.silent

pub returns-in-Ok-None-clause-moved : goal.returns-in-Ok-None-clause-moved
returns-in-Ok-None-clause-moved g c says =
    let one = rw c.in-Ok-None.field-0-is at c.in-Ok-None.ensures.one in
    absurd (one Checkpoint says.1.0)

pub returns-in-Ok-Some-clause-moved : goal.returns-in-Ok-Some-clause-moved
returns-in-Ok-Some-clause-moved g c says =
    let one = rw c.in-Ok-Some.field-0-is at c.in-Ok-Some.ensures.one in
    c.command-in-Ok-Some.ensures.moved (sym (one Checkpoint says.1.0))

pub returns-in-Err-Word-clause-moved : goal.returns-in-Err-Word-clause-moved
returns-in-Err-Word-clause-moved g c says =
    let none = rw c.in-Err-Word.field-0-is at c.in-Err-Word.ensures.none in
    absurd (none Checkpoint says.1.0)

pub returns-in-Ok-Some-clause-place : goal.returns-in-Ok-Some-clause-place
returns-in-Ok-Some-clause-place g c no_checkpoint =
    let says = rw c.in-Ok-Some.field-0-is at c.in-Ok-Some.ensures.says in
    let one = rw c.in-Ok-Some.field-0-is at c.in-Ok-Some.ensures.one in
    c.command-in-Ok-Some.ensures.place (λ is. no_checkpoint (search rules, subst (λ x. Says c.args.line.now x) is (says, one)))

pub returns-in-Ok-Some-clause-makes : goal.returns-in-Ok-Some-clause-makes
returns-in-Ok-Some-clause-makes g c =
    let says = rw c.in-Ok-Some.field-0-is at c.in-Ok-Some.ensures.says in
    let one = rw c.in-Ok-Some.field-0-is at c.in-Ok-Some.ensures.one in
    asked_so g.J.Journal.tells g.J.Journal.holds g.J.Journal.moment g.J.Journal.left_since
    c.command-in-Ok-Some.result c.args.journal.now c.command-in-Ok-Some.new.journal c.args.self.now.core c.command-in-Ok-Some.new.self.core _ _
    c.command-in-Ok-Some.ensures.makes (λ ts asks. inr (c.in-Ok-Some.command, search rules, (says, one), asks))
