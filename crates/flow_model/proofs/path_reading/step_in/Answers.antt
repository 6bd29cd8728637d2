use Rattle.std.proofs.Common.{◌≡◌, Some, decimal}
use Rattle.std.proofs.lemmas.Result.{IfOk-weaker}
use Rattle.flow_model.specs.Paths.{part_spelling}
use Rattle.flow_model.specs.declared.instances.Part.{Part}
use Rattle.flow_model.specs.Paths.{IsStep}
use Rattle.flow_model.proofs.Steps.{inner, name_cut, same_some}
use Rattle.flow_model.proofs.path_reading.step_in.Goals as goal

pub returns-in-Some-behind-clause-found : goal.returns-in-Some-behind-clause-found
returns-in-Some-behind-clause-found c =
    let bytes = c.args.bytes.now in
    let name = c.split_at.result.0.now in
    let attempt = c.in-Some-behind.attempt.now in
    IfOk-weaker c.step_of.result (λ step. (q : Part) → IsStep q → name ≡ q.name → attempt ≡ decimal q.attempt → step ≡ Some q) (λ step. (q : Part) → IsStep q → bytes ≡ part_spelling q → step ≡ Some q)
    (λ step found q fine is.
    let written : c.in-Some.written.now ≡ inner q = same_some (c.in-Some.ensures.found (inner q) is) in
    let cut = name_cut q c.in-Some.written.now name c.split_at.result.1.now c.front_len.result fine written c.front_len.ensures.front c.split_at.ensures.front c.split_at.ensures.back in
    found q fine cut.0 (same_some (c.in-Some-behind.ensures.found (decimal q.attempt) cut.1))) c.step_of.ensures.found

pub returns-in-None-clause-found : goal.returns-in-None-clause-found
returns-in-None-clause-found c = λ q fine is.
    let written : c.in-Some.written.now ≡ inner q = same_some (c.in-Some.ensures.found (inner q) is) in
    let cut = name_cut q c.in-Some.written.now c.split_at.result.0.now c.split_at.result.1.now c.front_len.result fine written c.front_len.ensures.front c.split_at.ensures.front c.split_at.ensures.back in
    let missed = c.in-None.ensures.found (decimal q.attempt) cut.1 in
    cc missed
