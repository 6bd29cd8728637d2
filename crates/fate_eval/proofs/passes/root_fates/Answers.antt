use Rattle.std.proofs.Common.{◌∙◌, length, arith}
use Rattle.fate_eval.proofs.Seen.{seen_facts}
use Rattle.fate_eval.proofs.Marks.{all_ready, none_ready}
use Rattle.fate_eval.proofs.passes.root_fates.Goals as goal

pub returns-clause-exact : goal.returns-clause-exact
returns-clause-exact c = λ laid.
    let passed = rw c.deref.ensures.value at (c.in_ok-rows.ensures.exact laid) in
    let seen = seen_facts (length c.args.facts.now) c.in_ok-entries.entries.items c.args.facts.now c.in_ok-entries.ensures in
    record {
      rows = c.from_vec.ensures ∙ rw seen at passed.shown;
      output = rw seen at passed.given;
    }

pub returns-clause-ready : goal.returns-clause-ready
returns-clause-ready c = λ laid of.
    let passed = rw c.deref.ensures.value at (c.in_ok-rows.ensures.timely laid) in
    let ready = rw c.deref-2.ensures.value at c.in_ok-marks.ensures.ready in
    all_ready c.args.library.now.templates c.args.depth c.args.graph.now c.args.root c.args.input.now c.args.facts.now c.in_ok-entries.entries.items c.in_ok-entries.ensures of
    c.in_ok-marks.marks.items _ _ ready (rw (c.deref-3.ensures.value, c.in_ok-marks.ensures.long) at c.in-None.ensures.before) passed.each

pub returns-in-Some-clause-refused : goal.returns-in-Some-clause-refused
returns-in-Some-clause-refused c = λ laid of.
    let passed = rw c.deref.ensures.value at (c.in_ok-rows.ensures.timely laid) in
    let ready = rw c.deref-2.ensures.value at c.in_ok-marks.ensures.ready in
    all_ready c.args.library.now.templates c.args.depth c.args.graph.now c.args.root c.args.input.now c.args.facts.now c.in_ok-entries.entries.items c.in_ok-entries.ensures of
    c.in_ok-marks.marks.items _ _ ready (rw c.deref-3.ensures.value at c.in-Some.ensures.before) passed.each

pub returns-in-Some-clause-unready : goal.returns-in-Some-clause-unready
returns-in-Some-clause-unready c = λ laid well of.
    let passed = rw c.deref.ensures.value at (c.in_ok-rows.ensures.whole laid well) in
    let marked = rw c.deref-2.ensures.value at c.in_ok-marks.ensures.whole in
    none_ready c.args.library.now.templates c.args.depth c.args.graph.now c.args.root c.args.input.now c.args.facts.now c.in_ok-entries.entries.items c.in_ok-entries.ensures of
    c.in_ok-marks.marks.items _ _ (rw (c.deref-3.ensures.value, c.in_ok-marks.ensures.long) at c.in-Some.ensures.bound) (rw c.deref-3.ensures.value at c.in-Some.ensures.unmarked) marked (λ i is. passed.inside i (omega arith) is)
