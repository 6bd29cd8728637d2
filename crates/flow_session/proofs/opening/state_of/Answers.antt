use Rattle.std.proofs.Common.{◌∙◌, ◌++◌, ◌∷◌, [], ap, subst, sym, rules}
use Rattle.flow_core.specs.Summaries.{Summary, summary}
use Rattle.flow_session.specs.Keeping.{Brings}
use Rattle.flow_session.specs.Refusing.{NoRecord, LeadsTo}
use Rattle.flow_session.proofs.Keeping.{brings_more}
use Rattle.flow_session.proofs.Refusing.{leads_more, passed_all, passed_one, stops_in}
use Rattle.flow_session.proofs.Rights.{begun_right}
use Rattle.std.proofs.lemmas.Result.{err_from_is_err_and}
use Rattle.flow_session.proofs.opening.state_of.Goals as goal

pub loop-record-preserved : goal.loop-record-preserved
loop-record-preserved c =
    let i = c.loop-record.invariant in
    let h = c.args.opened.now.header in
    let payload = c.in-Some.record.payload.now in
    let next = c.in-Some.ensures in
    let taken = c.in_ok-adopt.ensures.taken in
    record {
      front = i.front ++ payload ∷ [];
      passed = passed_one c.args.opened.now.records i.front c.in-Some.record.payload.now c.loop-record.records
          c.next.new.self i.passed next.1 next.2;
      brings = brings_more h i.front payload (summary c.loop-record.core) (summary c.adopt.new.core) taken.0
          i.brings taken.1 taken.2 (rw i.kept at taken.3) (rw i.kept at taken.4);
      kept = c.in_ok-adopt.ensures.kept ∙ i.kept;
      queues = ap (λ (s : Summary). s.queues) taken.4 ∙ i.queues;
      leads = leads_more h i.front payload c.loop-record.core c.adopt.new.core i.leads
          c.in_ok-adopt.ensures.admitted;
      right = λ some_. c.in_ok-adopt.ensures.right (i.right some_);
    }

pub loop-record-init : goal.loop-record-init
loop-record-init c =
    let begins = c.in_ok-core.ensures.begins in
    record {
      front = [];
      passed = record { split = sym c.walk-records.ensures.1; gate = c.walk-records.ensures.0 };
      brings = search rules;
      kept = c.in_ok-core.ensures.kept;
      queues = ap (λ (s : Summary). s.queues) begins;
      leads = (
        c.in_ok-core.core,
        record {
          blank = c.in_ok-core.ensures.blank;
          counts = begins;
          kept = c.in_ok-core.ensures.kept;
          none_taken = c.in_ok-core.ensures.none_taken;
        },
        NoRecord,
      );
      right = λ some_. begun_right c.in_ok-core.core _ c.in_ok-core.ensures.blank c.in_ok-core.ensures.kept begins some_;
    }

pub returns-in_err-adopt-clause-silent : goal.returns-in_err-adopt-clause-silent
returns-in_err-adopt-clause-silent c =
    let p = err_from_is_err_and c.from_residual-in_err-adopt.result c.from_residual-in_err-adopt.ensures.1 in
    rw (p.1, p.2) c.in_err-adopt.ensures.silent

pub returns-in_err-adopt-clause-refused : goal.returns-in_err-adopt-clause-refused
returns-in_err-adopt-clause-refused c =
    let p = err_from_is_err_and c.from_residual-in_err-adopt.result c.from_residual-in_err-adopt.ensures.1 in
    let i = c.loop-record.invariant in
    let stop = c.in_err-adopt.field-0.0 in
    let here = rw (c.slot.ensures, c.in-Some.ensures.0) at c.in_err-adopt.ensures.refused in
    rw (p.1, p.2) (stops_in c.args.opened.now.log.slot c.args.opened.now.header c.args.opened.now.records i.front c.in-Some.record.payload.now c.loop-record.records c.next.new.self c.loop-record.core stop i.passed c.in-Some.ensures.1 i.leads here)

pub returns-clause-admitted : goal.returns-clause-admitted
returns-clause-admitted c =
    let i = c.loop-record.invariant in
    subst (λ records. LeadsTo c.args.opened.now.header records c.loop-record.core)
    (sym (passed_all c.args.opened.now.records i.front c.loop-record.records i.passed c.in_default.ensures.0)) i.leads

pub returns-clause-comes : goal.returns-clause-comes
returns-clause-comes c =
    let i = c.loop-record.invariant in
    subst (λ records. Brings c.args.opened.now.header records (summary c.loop-record.core))
    (sym (passed_all c.args.opened.now.records i.front c.loop-record.records i.passed c.in_default.ensures.0)) i.brings
