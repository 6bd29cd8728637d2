use Rattle.std.proofs.Common.{◌≡◌, ◌∙◌, Err, [], ap, refl, rules}
use Rattle.std.proofs.lemmas.Result.{err_from_is_err_and}
use Rattle.flow_core.specs.Summaries.{summary}
use Rattle.flow_session.specs.Inputs.{given}
use Rattle.flow_session.proofs.Calls.{makes_nothing, makes_more, makes_so}
use Rattle.flow_session.proofs.Leading.{leads_none, leads_on}
use Rattle.flow_words.proofs.Serving.{nothing_so_far, one_so_far, stopped, failed, ended, too_long, never_long}
use Rattle.flow_words.specs.declared.status.Status.TheVariants.{NoMemory, ScriptTooLong}
use Rattle.flow_words.proofs.script.serve_all.Goals as goal

pub returns-in-Err-clause-makes : goal.returns-in-Err-clause-makes
returns-in-Err-clause-makes g c = makes_nothing g.J.Journal.tells g.J.Journal.moment g.J.Journal.left_since g.J.Journal.holds g.met.J.Journal.at_rest c.args.journal.now (summary c.args.session.now.core) _ c.requires.open (search rules)

pub returns-in-Err-clause-serves : goal.returns-in-Err-clause-serves
returns-in-Err-clause-serves g c =
    let none = nothing_so_far g.J.Journal.tells g.J.Journal.holds g.J.Journal.moment g.J.Journal.left_since g.J.Journal.place g.J.Journal.moved (g.S.Source.left c.args.src.now) (record { held = []; room = 268435456; text = [] }) (g.K.Sink.held c.args.out.now) c.args.session.now c.args.journal.now refl in
    stopped g.J.Journal.tells g.J.Journal.holds g.J.Journal.moment g.J.Journal.left_since g.J.Journal.place g.J.Journal.moved g.met.J.Journal.at_rest g.met.J.Journal.counts_now (g.S.Source.left c.args.src.now) (g.S.Source.left c.args.src.now) _ (g.K.Sink.held c.args.out.now) (g.K.Sink.held c.args.out.now) c.args.session.now c.args.session.now c.args.journal.now c.args.journal.now _ none c.requires.open
    (λ e. absurd (let f : NoMemory ≡ ScriptTooLong = e in cc)) c.requires.open

pub inputs-init : goal.inputs-init
inputs-init g c = record {
  open' = c.requires.open;
  makes = makes_nothing g.J.Journal.tells g.J.Journal.moment g.J.Journal.left_since g.J.Journal.holds g.met.J.Journal.at_rest c.args.journal.now (summary c.args.session.now.core) _ c.requires.open (leads_none c.args.session.now.core);
  read = search rules;
  put = search rules;
  stored = search rules;
  so_far = nothing_so_far g.J.Journal.tells g.J.Journal.holds g.J.Journal.moment g.J.Journal.left_since g.J.Journal.place g.J.Journal.moved (g.S.Source.left c.args.src.now) _ (g.K.Sink.held c.args.out.now) c.args.session.now c.args.journal.now (search rules);
}

pub inputs-preserved : goal.inputs-preserved
inputs-preserved g c = record {
  open' = c.in_ok-serve_one.ensures.kept;
  makes = leads_on g.J.Journal.tells g.J.Journal.moment g.J.Journal.left_since g.met.J.Journal.counts_now c.args.journal.now c.inputs.journal c.serve_one.new.journal c.args.session.now.core c.inputs.session.core c.serve_one.new.session.core c.inputs.invariant.makes c.in_ok-serve_one.ensures.makes;
  read = search rules;
  put = search rules;
  stored = search rules;
  so_far = one_so_far g.J.Journal.tells g.J.Journal.holds g.J.Journal.moment g.J.Journal.left_since g.J.Journal.place g.J.Journal.moved (g.S.Source.left c.args.src.now) (g.S.Source.left c.inputs.src) (g.S.Source.left c.next.new.src) c.inputs.lines c.next.new.self (g.K.Sink.held c.args.out.now) (g.K.Sink.held c.inputs.out) (g.K.Sink.held c.serve_one.new.out) c.args.session.now c.inputs.session c.serve_one.new.session c.args.journal.now c.inputs.journal c.serve_one.new.journal c.in-Ok-next.found (given c.input_of-input.result) c.inputs.invariant.so_far c.in-Ok-next.ensures.serves (search rules) (search rules) c.in_ok-serve_one.ensures.served;
}

pub returns-in-Err-next-clause-makes : goal.returns-in-Err-next-clause-makes
returns-in-Err-next-clause-makes g c = makes_so g.J.Journal.tells g.J.Journal.moment g.J.Journal.left_since c.args.journal.now c.inputs.journal (summary c.args.session.now.core) _ _ c.inputs.invariant.makes (λ ts leads. search rules)

pub returns-in-Err-next-clause-serves : goal.returns-in-Err-next-clause-serves
returns-in-Err-next-clause-serves g c =
    stopped g.J.Journal.tells g.J.Journal.holds g.J.Journal.moment g.J.Journal.left_since g.J.Journal.place g.J.Journal.moved g.met.J.Journal.at_rest g.met.J.Journal.counts_now (g.S.Source.left c.args.src.now) (g.S.Source.left c.inputs.src) c.inputs.lines (g.K.Sink.held c.args.out.now) (g.K.Sink.held c.inputs.out) c.args.session.now c.inputs.session c.args.journal.now c.inputs.journal _ c.inputs.invariant.so_far c.inputs.invariant.open'
    (too_long (g.S.Source.left c.args.src.now) (g.S.Source.left c.inputs.src) (g.S.Source.left c.next.new.src)
    c.inputs.lines c.next.new.self c.inputs.invariant.so_far.first c.in-Err-next.stop c.line_status.result
    c.inputs.invariant.so_far.inputs c.inputs.invariant.so_far.going c.in-Err-next.ensures.serves
    c.line_status.ensures.status) c.requires.open

pub returns-in_err-serve_one-clause-makes : goal.returns-in_err-serve_one-clause-makes
returns-in_err-serve_one-clause-makes g c =
    makes_more g.J.Journal.tells g.J.Journal.moment g.J.Journal.left_since g.met.J.Journal.counts_now c.args.journal.now c.inputs.journal
    c.serve_one.new.journal (summary c.args.session.now.core) (summary c.inputs.session.core) _ _ _
    c.inputs.invariant.makes (λ ts leads. leads.came) c.serve_one.ensures.makes (λ ts us a b. search rules)

pub returns-in_err-serve_one-clause-serves : goal.returns-in_err-serve_one-clause-serves
returns-in_err-serve_one-clause-serves g c =
    let p = err_from_is_err_and c.from_residual.result c.from_residual.ensures.1 in
    failed g.J.Journal.tells g.J.Journal.holds g.J.Journal.moment g.J.Journal.left_since g.J.Journal.place g.J.Journal.moved g.met.J.Journal.at_rest g.met.J.Journal.counts_now (g.S.Source.left c.args.src.now) (g.S.Source.left c.inputs.src) (g.S.Source.left c.next.new.src) c.inputs.lines c.next.new.self (g.K.Sink.held c.args.out.now) (g.K.Sink.held c.inputs.out) (g.K.Sink.held c.serve_one.new.out) c.args.session.now c.inputs.session c.serve_one.new.session c.args.journal.now c.inputs.journal c.serve_one.new.journal c.in-Ok-next.found (given c.input_of-input.result) c.in_err-serve_one.field-0.0 _ c.inputs.invariant.so_far c.in-Ok-next.ensures.serves (search rules) (p.1 ∙ ap Err p.2) c.in_err-serve_one.ensures.served (λ e. search rules)
    (never_long (g.K.Sink.faults c.inputs.out) (g.K.Sink.faults c.serve_one.new.out) (g.J.Journal.faults c.inputs.journal)
    (g.J.Journal.faults c.serve_one.new.journal) c.from_residual.result c.in_err-serve_one.field-0.0 p.0 p.1 p.2
    c.in_err-serve_one.ensures.cause) c.requires.open

pub returns-then-eq-clause-makes : goal.returns-then-eq-clause-makes
returns-then-eq-clause-makes g c =
    leads_on g.J.Journal.tells g.J.Journal.moment g.J.Journal.left_since g.met.J.Journal.counts_now c.args.journal.now c.inputs.journal
    c.serve_one.new.journal c.args.session.now.core c.inputs.session.core c.serve_one.new.session.core
    c.inputs.invariant.makes c.in_ok-serve_one.ensures.makes

pub returns-then-eq-clause-serves : goal.returns-then-eq-clause-serves
returns-then-eq-clause-serves g c =
    ended g.J.Journal.tells g.J.Journal.holds g.J.Journal.moment g.J.Journal.left_since g.J.Journal.place g.J.Journal.moved g.met.J.Journal.at_rest g.met.J.Journal.counts_now (g.S.Source.left c.args.src.now) (g.S.Source.left c.inputs.src) (g.S.Source.left c.next.new.src) c.inputs.lines c.next.new.self (g.K.Sink.held c.args.out.now) (g.K.Sink.held c.inputs.out) (g.K.Sink.held c.serve_one.new.out) c.args.session.now c.inputs.session c.serve_one.new.session c.args.journal.now c.inputs.journal c.serve_one.new.journal c.in-Ok-next.found (given c.input_of-input.result) c.inputs.invariant.so_far c.in-Ok-next.ensures.serves (search rules) (search rules) c.in_ok-serve_one.ensures.served c.requires.open
