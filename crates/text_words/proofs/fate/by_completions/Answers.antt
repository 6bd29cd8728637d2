use Rattle.std.proofs.Common.{◌≡◌, ℕ, Some, slice_get, unwrap_or, List, subst, sym}
use Rattle.fate_eval.specs.Refusals.{AreOf}
use Rattle.flow_model.specs.Containers.{fresh}
use Rattle.flow_model.specs.declared.graphs.Graph.{out-Graph}
use Rattle.flow_model.specs.declared.instances.Fact.{Fact}
use Rattle.text_words.proofs.Answering.{all_of_one, laid_there, well_there, answers_not_ready, answers_accepted}
use Rattle.text_words.proofs.fate.by_completions.Goals as goal

pub returns-in-Err-NotReady : goal.returns-in-Err-NotReady
returns-in-Err-NotReady c =
    let ts = c.args.library.now.templates in
    let t = c.args.template.now in
    let read = c.args.read.now in
    let facts = c.deref.result.now in
    let there = subst (λ (n : ℕ). slice_get ts n ≡ Some t) c.requires.last c.requires.there in
    let laid = laid_there ts c.args.place t c.requires.sound c.requires.there in
    let same : c.in_ok-input.input ≡ fresh (out-Graph t.graph).input = c.in_ok-input.ensures in
    let these : facts ≡ read.counted.facts.items = c.deref.ensures.value in
    let line_is : c.line_of-line.result ≡ unwrap_or (slice_get read.lines.items c.in-Err-NotReady.number) 0 = subst (λ (n : ℕ). c.line_of-line.result ≡ unwrap_or (slice_get read.lines.items n) 0) c.in-Err-NotReady.number-is c.line_of-line.ensures in
    let of = subst (λ (fs : List Fact). AreOf 1 fs) (sym these) (all_of_one read.counted.facts.items c.requires.of_one) in
    answers_not_ready c.refusal.result ts t read c.in_ok-input.input facts c.in-Err-NotReady.field-0 c.in-Err-NotReady.number c.line_of-line.result there same these c.in-Err-NotReady.field-0-is
    line_is
    (record {
      within = c.in-Err-NotReady.ensures.within;
      behind = c.in-Err-NotReady.ensures.refused t c.requires.there laid of;
      first = c.in-Err-NotReady.ensures.first t c.requires.there laid (well_there ts c.args.place t c.requires.sound c.requires.there) of;
    })
    c.refusal.ensures

pub returns : goal.returns
returns c =
    let ts = c.args.library.now.templates in
    let t = c.args.template.now in
    let read = c.args.read.now in
    let facts = c.deref.result.now in
    let there = subst (λ (n : ℕ). slice_get ts n ≡ Some t) c.requires.last c.requires.there in
    let laid = laid_there ts c.args.place t c.requires.sound c.requires.there in
    let same : c.in_ok-input.input ≡ fresh (out-Graph t.graph).input = c.in_ok-input.ensures in
    let these : facts ≡ read.counted.facts.items = c.deref.ensures.value in
    let of = subst (λ (fs : List Fact). AreOf 1 fs) (sym these) (all_of_one read.counted.facts.items c.requires.of_one) in
    answers_accepted c.told.result ts t read c.in_ok-input.input facts c.in-Ok.found.rows c.in-Ok.found.output there same these
    (record { ready = c.in-Ok.ensures.ready t c.requires.there laid of; fates = c.in-Ok.ensures.exact t c.requires.there laid })
    c.told.ensures
