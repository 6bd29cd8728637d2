use Rattle.std.proofs.Common.{◌≡◌, Some, refl, sym, ◌∙◌}
use Rattle.std.proofs.lemmas.Option.{slice_get_read}
use Rattle.fate_eval.proofs.Marks.{first_unready}
use Rattle.fate_eval.proofs.passes.fates.Goals as goal

pub returns-in-Some-clause-exact : goal.returns-in-Some-clause-exact
returns-in-Some-clause-exact c = λ t there laid.
    let found = rw c.as_slice.ensures at (slice_get_read c.as_slice.result.now _ c.args.template c.in-Some.template.now refl c.in-Some.ensures.lookup.3.0 c.in-Some.ensures.lookup.1) in
    let same : t ≡ c.in-Some.template.now = (let both : Some t ≡ Some c.in-Some.template.now = sym there ∙ found in cc) in
    rw same (c.root_fates.ensures.exact (rw same at laid))

pub returns-in-Some-clause-ready : goal.returns-in-Some-clause-ready
returns-in-Some-clause-ready c = λ t there laid of.
    let found = rw c.as_slice.ensures at (slice_get_read c.as_slice.result.now _ c.args.template c.in-Some.template.now refl c.in-Some.ensures.lookup.3.0 c.in-Some.ensures.lookup.1) in
    let same : t ≡ c.in-Some.template.now = (let both : Some t ≡ Some c.in-Some.template.now = sym there ∙ found in cc) in
    rw same (c.root_fates.ensures.ready (rw same at laid) of)

pub returns-in-Some-clause-refused : goal.returns-in-Some-clause-refused
returns-in-Some-clause-refused c = λ t there laid of.
    let found = rw c.as_slice.ensures at (slice_get_read c.as_slice.result.now _ c.args.template c.in-Some.template.now refl c.in-Some.ensures.lookup.3.0 c.in-Some.ensures.lookup.1) in
    let same : t ≡ c.in-Some.template.now = (let both : Some t ≡ Some c.in-Some.template.now = sym there ∙ found in cc) in
    rw same (c.root_fates.ensures.refused (rw same at laid) of)

pub returns-in-Some-clause-first : goal.returns-in-Some-clause-first
returns-in-Some-clause-first c = λ t there laid well of.
    let found = rw c.as_slice.ensures at (slice_get_read c.as_slice.result.now _ c.args.template c.in-Some.template.now refl c.in-Some.ensures.lookup.3.0 c.in-Some.ensures.lookup.1) in
    let same : t ≡ c.in-Some.template.now = (let both : Some t ≡ Some c.in-Some.template.now = sym there ∙ found in cc) in
    let here = rw same at laid in
    let well_ = rw same at well in
    rw same
    (first_unready c.args.library.now.templates c.in-Some.template.now.graph c.args.root c.args.input.now c.args.facts.now c.root_fates.result well_ c.root_fates.ensures.within (c.root_fates.ensures.refused here of) (c.root_fates.ensures.unready here well_ of))
