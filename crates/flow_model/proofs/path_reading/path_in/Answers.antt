use Rattle.std.proofs.Common.{◌≡◌, ap}
use Rattle.std.specs.Prelude.{Some}
use Rattle.flow_model.specs.declared.instances.Path.{Path}
use Rattle.flow_model.proofs.Steps.{root_cut, same_path}
use Rattle.flow_model.proofs.path_reading.path_in.Goals as goal

pub returns-in_default-clause-found : goal.returns-in_default-clause-found
returns-in_default-clause-found c = λ path h.
    let cut = root_cut path c.args.text.now c.split_at.result.0.now c.split_at.result.1.now c.front_len.result h c.front_len.ensures.front c.split_at.ensures.front c.split_at.ensures.back in
    let missed = c.in_default.ensures.found path.root h.path.counted h.path.small cut.0 in
    cc missed

pub returns-in-Some-2-clause-found : goal.returns-in-Some-2-clause-found
returns-in-Some-2-clause-found c = λ path h.
    let cut = root_cut path c.args.text.now c.split_at.result.0.now c.split_at.result.1.now c.front_len.result h c.front_len.ensures.front c.split_at.ensures.front c.split_at.ensures.back in
    let root_found = c.in-Some.ensures.found path.root h.path.counted h.path.small cut.0 in
    let parts_found = c.in_ok-parts.ensures.found path.parts h.path.steps cut.1 in
    let same_root : c.in-Some.root ≡ path.root = cc root_found in
    let same_parts : c.in-Some-2.parts ≡ path.parts = cc parts_found in
    ap (λ (p : Path). Some p) (same_path path c.in-Some.root c.in-Some-2.parts same_root same_parts)

pub returns-in-None-clause-found : goal.returns-in-None-clause-found
returns-in-None-clause-found c = λ path h.
    let cut = root_cut path c.args.text.now c.split_at.result.0.now c.split_at.result.1.now c.front_len.result h c.front_len.ensures.front c.split_at.ensures.front c.split_at.ensures.back in
    let missed = c.in_ok-parts.ensures.found path.parts h.path.steps cut.1 in
    cc missed
