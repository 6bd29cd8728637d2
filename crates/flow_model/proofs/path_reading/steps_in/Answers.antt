use Rattle.std.proofs.Common.{◌<◌, Some, List, length, ap, sym, ◌∙◌, subst, eqb-true, arith}
use Rattle.std.proofs.lemmas.Bool.{eqb-false}
use Rattle.std.specs.List.{All}
use Rattle.std.proofs.lemmas.List.Elements.{All-push}
use Rattle.flow_model.specs.declared.instances.Part.{Part}
use Rattle.flow_model.specs.Paths.{IsStep}
use Rattle.flow_model.proofs.Steps.{Reads, all_read, none_missed, next_left, step_found, one_read, whole_read}
use Rattle.flow_model.proofs.path_reading.steps_in.Goals as goal

pub returns-in_default-clause-found : goal.returns-in_default-clause-found
returns-in_default-clause-found c = λ qs fine is.
    let rest = c.loop-rest.rest.now in
    let some : 0 < length rest = omega (arith, eqb-false (length rest) 0 (sym c.is_empty.ensures ∙ c.loop-rest-test.true)) in
    let reads : Reads rest c.split_at.result.0.now c.split_at.result.1.now c.in_ok-step.field-0 =
    record { len = c.step_len.result; long = c.step_len.ensures.found; first = c.split_at.ensures.front; behind = c.split_at.ensures.back; finds = c.in_ok-step.ensures.found } in
    absurd (none_missed c.loop-rest.steps rest c.split_at.result.0.now c.split_at.result.1.now qs c.in_ok-step.field-0 (c.loop-rest.invariant.left qs fine is) some reads c.in_default.is)

pub loop-rest-preserved : goal.loop-rest-preserved
loop-rest-preserved c =
    let rest = c.loop-rest.rest.now in
    let some : 0 < length rest = omega (arith, eqb-false (length rest) 0 (sym c.is_empty.ensures ∙ c.loop-rest-test.true)) in
    let reads : Reads rest c.split_at.result.0.now c.split_at.result.1.now c.in_ok-step.field-0 =
    record { len = c.step_len.result; long = c.step_len.ensures.found; first = c.split_at.ensures.front; behind = c.split_at.ensures.back; finds = c.in_ok-step.ensures.found } in
    record {
      are = subst (λ (l : List Part). All IsStep l) (sym c.in_ok-push.ensures.ok) (All-push IsStep c.loop-rest.steps c.in-Some.step c.loop-rest.invariant.are (step_found c.in_ok-step.field-0 c.in-Some.step c.in_ok-step.ensures.is c.in-Some.is));
      front = one_read c.args.bytes.now rest c.split_at.result.0.now c.split_at.result.1.now c.loop-rest.steps c.push.new.self c.in-Some.step c.in_ok-step.field-0 c.step_len.result c.loop-rest.invariant.front
          c.split_at.ensures.front c.split_at.ensures.back c.in_ok-step.ensures.sure c.in-Some.is c.in_ok-push.ensures.ok;
      left = λ qs fine is. next_left c.loop-rest.steps c.push.new.self c.in-Some.step rest c.split_at.result.0.now c.split_at.result.1.now qs c.in_ok-step.field-0 (c.loop-rest.invariant.left qs fine is) some reads c.in-Some.is c.in_ok-push.ensures.ok;
    }

pub returns-clause-found : goal.returns-clause-found
returns-clause-found c = λ qs fine is. ap (λ (l : List Part). Some l) (all_read c.loop-rest.steps c.loop-rest.rest.now qs (c.loop-rest.invariant.left qs fine is) (eqb-true (length c.loop-rest.rest.now) 0 (sym c.is_empty.ensures ∙ c.loop-rest-test.false)))

pub returns-clause-sure : goal.returns-clause-sure
returns-clause-sure c = whole_read c.args.bytes.now c.loop-rest.rest.now c.loop-rest.steps c.loop-rest.invariant.front (eqb-true (length c.loop-rest.rest.now) 0 (sym c.is_empty.ensures ∙ c.loop-rest-test.false))
