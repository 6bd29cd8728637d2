use Rattle.std.proofs.Common.{◌≡◌, ◌+◌, ◌-◌, suc, Some, length, replicate, ◌∙◌, sym, ap, refl, inl, inr, arith, rules}
use Rattle.std.proofs.lemmas.List.{length-replicate}
use Rattle.std.proofs.lemmas.Option.{slice_get_read}
use Rattle.flow_model.specs.ScopeContainers.{output_by}
use Rattle.flow_model.specs.Scopes.{part}
use Rattle.flow_model.specs.declared.graphs.Graph.{out-Graph}
use Rattle.flow_model.specs.declared.instances.SourceEnd.TheVariants.{Unsettled}
use Rattle.std.proofs.Common.{add-one}
use Rattle.std.specs.Option.{option_map, option_copied}
use Rattle.flow_model.specs.Fates.{joined}
use Rattle.flow_model.specs.Containers.{with_return_code}
use Rattle.fate_eval.proofs.Seen.{if_ok, seen_below, fed_opens, laid_here, laid_inside, well_wired, well_inside}
use Rattle.fate_eval.specs.Entries.{dated_in, output_in}
use Rattle.fate_eval.specs.Grouped.{at_part}
use Rattle.fate_eval.proofs.Below.{scope_timely, nested_timely, program_timely}
use Rattle.fate_eval.proofs.InOrder.{passes_more, passes_all}
use Rattle.fate_eval.proofs.InPass.{in_pass_first, in_pass_more, in_pass_all}
use Rattle.fate_eval.proofs.InTime.{open_timely, dead_timely, alive_timely}
use Rattle.fate_eval.proofs.InTurn.{in_turn_first, in_turn_stop, in_turn_more, in_turn_last, last_timely}
use Rattle.fate_eval.proofs.WholeBelow.{scope_whole, nested_whole, nothing_whole, last_whole}
use Rattle.fate_eval.proofs.WholePass.{told_to_first, told_to_more, told_to_all}
use Rattle.fate_eval.proofs.WholeTime.{open_whole, unfed_whole, waiting_whole, dead_whole, alive_whole}
use Rattle.fate_eval.proofs.WholeTurn.{told_first, told_more, told_stop, told_last}
use Rattle.fate_eval.proofs.Turns.{goes_first, goes_stop, goes_more, goes_last}
use Rattle.fate_eval.proofs.passes.+scopes.Goals as goal

pub attempts_from-returns-in-Stops-clause-exact : goal.attempts_from-returns-in-Stops-clause-exact
attempts_from-returns-in-Stops-clause-exact t c = λ looping inside.
    rw c.in_ok-append.ensures.items
    (goes_stop _ _ _ _ _ _ _ _ _ _ _ _ _ _ _ (c.loop-number.invariant.exact looping inside) (omega arith) (c.in_ok-tried.ensures.exact inside) (sym (c.in_ok-fate.ensures looping) ∙ c.in-Stops.is))

pub attempts_from-returns-in-Stops-clause-timely : goal.attempts_from-returns-in-Stops-clause-timely
attempts_from-returns-in-Stops-clause-timely t c = λ looping inside.
    rw c.in_ok-append-2.ensures.items
    (in_turn_stop _ _ _ _ _ _ _ _ _ _ _ _ _ _ _ _ _ _ _ (c.loop-number.invariant.timely looping inside) (omega arith) (c.in_ok-tried.ensures.timely inside) (sym (c.in_ok-fate.ensures looping) ∙ c.in-Stops.is))

pub attempts_from-loop-number-init : goal.attempts_from-loop-number-init
attempts_from-loop-number-init t c = record {
  exact = λ looping inside. rw (c.in_ok-input.ensures, c.new-rows.ensures.items) (goes_first _ _ _ _ _ _ _ _);
  timely = λ looping inside. rw (c.in_ok-input.ensures, c.new-ready.ensures.items) (in_turn_first _ _ _ _ _ _ _ _ _ _);
  whole = λ looping inside well. rw (c.in_ok-input.ensures, c.new-ready.ensures.items) (told_first _ _ _ _ _ _ _ _ _ _);
}

pub attempts_from-loop-number-preserved : goal.attempts_from-loop-number-preserved
attempts_from-loop-number-preserved t c = record {
  exact = λ looping inside.
      rw c.in_ok-append.ensures.items
      (goes_more _ _ _ _ _ _ _ _ _ _ _ _ _ _ (c.loop-number.invariant.exact looping inside) (omega arith) (c.in_ok-tried.ensures.exact inside) (sym (c.in_ok-fate.ensures looping) ∙ c.in-GoesOn.is));
  timely = λ looping inside.
      rw c.in_ok-append-2.ensures.items
      (in_turn_more _ _ _ _ _ _ _ _ _ _ _ _ _ _ _ _ _ _ (c.loop-number.invariant.timely looping inside) (omega arith) (c.in_ok-tried.ensures.timely inside) (sym (c.in_ok-fate.ensures looping) ∙ c.in-GoesOn.is));
  whole = λ looping inside well.
      rw c.in_ok-append-2.ensures.items
      (told_more _ _ _ _ _ _ _ _ _ _ _ _ _ _ _ _ _ _ (c.loop-number.invariant.whole looping inside well) (omega arith) (c.in_ok-tried.ensures.timely inside) (c.in_ok-tried.ensures.whole inside well) (sym (c.in_ok-fate.ensures looping) ∙ c.in-GoesOn.is));
}

pub attempts_from-returns-in-Stops-clause-whole : goal.attempts_from-returns-in-Stops-clause-whole
attempts_from-returns-in-Stops-clause-whole t c = λ looping inside well.
    rw c.in_ok-append-2.ensures.items
    (told_stop _ _ _ _ _ _ _ _ _ _ _ _ _ _ _ _ _ _ _ (c.loop-number.invariant.whole looping inside well) (omega arith) (c.in_ok-tried.ensures.timely inside) (c.in_ok-tried.ensures.whole inside well) (sym (c.in_ok-fate.ensures looping) ∙ c.in-Stops.is))

pub attempts_from-returns-clause-whole : goal.attempts_from-returns-clause-whole
attempts_from-returns-clause-whole t c = λ looping inside well.
    let last : c.loop-number.number ≡ c.args.root.now.most + 1 = omega arith in
    if_ok c.last_attempt.result (c.last_attempt.ensures.whole inside well)
    (λ r is. told_last _ _ _ _ _ _ _ _ _ _ _ _ _ _ r.end r.after r.ready.items (rw last at (c.loop-number.invariant.whole looping inside well)) refl is)

pub last_attempt-returns-clause-whole : goal.last_attempt-returns-clause-whole
last_attempt-returns-clause-whole t c = λ inside well.
    rw c.in_ok-append-2.ensures.items (last_whole _ _ _ _ _ _ _ _ _ _ _ _ _ (c.in_ok-last.ensures.whole inside well))

pub found_at-returns-in-Some-clause-whole : goal.found_at-returns-in-Some-clause-whole
found_at-returns-in-Some-clause-whole t c = λ laid well.
    let there = rw c.as_slice.ensures at (slice_get_read c.as_slice.result.now _ c.args.place c.in-Some.found.now refl c.in-Some.ensures.lookup.3.0 c.in-Some.ensures.lookup.1) in
    rw there
    (c.activity.ensures.whole (laid_here _ _ _ laid) (rw there at (laid_inside c.args.root.now.library.now.templates c.args.depth c.args.scope.now.graph.now laid c.args.place))
    (rw there at (well_inside c.args.root.now.library.now.templates c.args.depth c.args.scope.now.graph.now well c.args.place)))

pub activity-returns-in-None-clause-whole : goal.activity-returns-in-None-clause-whole
activity-returns-in-None-clause-whole t c = λ laid inside well.
    let values = c.deref.ensures.value ∙ c.in_ok-values.ensures laid.incoming laid.outgoing in
    let known = ap (joined c.args.activity.now.join) (sym values) ∙ sym c.join.ensures ∙ c.in-None.is in
    if_ok c.with_row.result c.with_row.ensures
    (λ f is. waiting_whole _ _ _ _ _ _ _ _ _ _ _ _ f.end f.after f.ready.items known)

pub activity-returns-in-Some-false-clause-whole : goal.activity-returns-in-Some-false-clause-whole
activity-returns-in-Some-false-clause-whole t c = λ laid inside well.
    let values = c.deref.ensures.value ∙ c.in_ok-values.ensures laid.incoming laid.outgoing in
    let known = ap (joined c.args.activity.now.join) (sym values) ∙ sym c.join.ensures ∙ c.in-Some-false.is ∙ ap Some c.in-Some-false.field-0-test in
    if_ok c.with_row-in-Some-false.result c.with_row-in-Some-false.ensures
    (λ f is. dead_whole _ _ _ _ _ _ _ _ _ _ _ _ _ f.end f.after f.ready.items known (c.joined_after-since.ensures.least laid.incoming) (is.2 ∙ c.untried-dead.ensures.3) (is.0 ∙ c.untried-dead.ensures.1))

pub activity-returns-clause-whole : goal.activity-returns-clause-whole
activity-returns-clause-whole t c = λ laid inside well.
    let values = c.deref.ensures.value ∙ c.in_ok-values.ensures laid.incoming laid.outgoing in
    let known = ap (joined c.args.activity.now.join) (sym values) ∙ sym c.join.ensures ∙ c.in-Some-true.is ∙ ap Some c.in-Some-true.field-0-test in
    if_ok c.with_row-in-Some-true.result c.with_row-in-Some-true.ensures
    (λ f is. rw (is.0, is.2, is.3) (alive_whole _ _ _ _ _ _ _ _ _ _ _ _ _ _ _ _ known (c.joined_after-since.ensures.least laid.incoming) (c.in_ok-tried-in-Some-true.ensures.whole laid inside well)))

pub nested_attempt-returns-in-None-clause-whole : goal.nested_attempt-returns-in-None-clause-whole
nested_attempt-returns-in-None-clause-whole t c = λ nested inside well.
    nothing_whole _ _ _ _ _ _ _ _ _ _ _ _ nested (inl (sym c.graph_of.ensures ∙ ap option_copied c.in-None.is))

pub nested_attempt-returns-then-depth-eq0-clause-whole : goal.nested_attempt-returns-then-depth-eq0-clause-whole
nested_attempt-returns-then-depth-eq0-clause-whole t c = λ nested inside well.
    nothing_whole _ _ _ _ _ _ _ _ _ _ _ _ nested (inr c.if-depth-eq0.true)

pub nested_attempt-returns-else-depth-eq0-clause-whole : goal.nested_attempt-returns-else-depth-eq0-clause-whole
nested_attempt-returns-else-depth-eq0-clause-whole t c = λ nested inside well.
    let deeper : c.args.depth ≡ suc (c.args.depth - 1) = omega (arith, c.if-depth-eq0.false) in
    let of = sym c.graph_of.ensures ∙ ap option_copied c.in-Some.is in
    if_ok c.scope_attempt.result (c.scope_attempt.ensures.whole (inside c.in-Some.graph.now of (c.args.depth - 1) deeper) (well c.in-Some.graph.now of (c.args.depth - 1) deeper))
    (λ r is. nested_whole _ _ _ _ _ _ _ _ _ _ _ r.output r.after r.ready.items deeper of is)

pub open_activity-returns-then-not-is_fed-clause-whole : goal.open_activity-returns-then-not-is_fed-clause-whole
open_activity-returns-then-not-is_fed-clause-whole t c = λ laid inside well.
    unfed_whole _ _ _ _ _ _ _ _ _ _ _ _ _ _ _ (sym (c.is_fed.ensures laid.feeding) ∙ c.if-not-is_fed.true)

pub open_activity-returns-clause-whole : goal.open_activity-returns-clause-whole
open_activity-returns-clause-whole t c = λ laid inside well.
    let base = c.in_ok-base.ensures laid.feeding in
    if_ok c.attempts_from.result (c.attempts_from.ensures.whole laid.looping inside well)
    (λ r x. open_whole _ _ _ _ _ _ _ _ _ _ _ _ _ c.in_ok-base.base r.end r.after r.ready.items (c.fed_after-since.ensures.least laid.feeding) base x)

pub scope_attempt-returns-clause-whole : goal.scope_attempt-returns-clause-whole
scope_attempt-returns-clause-whole t c = λ laid well.
    scope_whole _ _ _ _ _ _ (part c.args.activity.now.name c.args.attempt) _ _ _ _ _ _ _ (λ p. ap (λ es. dated_in es p) (c.entries_at-found.ensures ∙ ap (λ n. at_part c.args.scope.now.groups (part n c.args.attempt)) c.as_slice.ensures) ∙ c.args.scope.now.grouped (part c.args.activity.now.name c.args.attempt) p) c.in_ok-with_code_of.ensures
    (rw (c.in_ok-copy.ensures, c.in_ok-path_of.ensures) at (c.in_ok-rows.ensures.whole laid well))

pub pass-returns-clause-whole : goal.pass-returns-clause-whole
pass-returns-clause-whole t c = λ laid well.
    let passes = c.loop-place.invariant.timely laid in
    let last : c.loop-place.place-index ≡ length (out-Graph c.args.scope.now.graph.now).wiring.order = omega (arith, ap length c.as_slice-place-items.ensures) in
    let here = laid_here _ _ _ laid in
    told_to_all _ _ _ _ _ _ _ here (well_wired _ _ _ well) _ c.loop-place.ends.items c.loop-place.afters.items c.loop-place.ready.items _ _ (rw last at (c.loop-place.invariant.whole laid well)) passes.long passes.as_long
    ((rw c.deref-2.ensures.value at (c.in_ok-complete_output.ensures here.sinking)) passes.long) (rw c.deref-3.ensures.value at c.complete_after.ensures.least)

pub attempts_from-returns-clause-exact : goal.attempts_from-returns-clause-exact
attempts_from-returns-clause-exact t c = λ looping inside.
    let last : c.loop-number.number ≡ c.args.root.now.most + 1 = omega arith in
    if_ok c.last_attempt.result (c.last_attempt.ensures.exact inside)
    (λ r is. goes_last _ _ _ _ _ _ _ _ _ _ _ r.fate r.end r.rows.items (rw last at (c.loop-number.invariant.exact looping inside)) refl is)

pub attempts_from-returns-clause-timely : goal.attempts_from-returns-clause-timely
attempts_from-returns-clause-timely t c = λ looping inside.
    let last : c.loop-number.number ≡ c.args.root.now.most + 1 = omega arith in
    if_ok c.last_attempt.result (c.last_attempt.ensures.timely inside)
    (λ r is. in_turn_last _ _ _ _ _ _ _ _ _ _ _ _ _ _ r.end r.after r.ready.items (rw last at (c.loop-number.invariant.timely looping inside)) is)

pub last_attempt-returns-clause-timely : goal.last_attempt-returns-clause-timely
last_attempt-returns-clause-timely t c = λ inside.
    rw c.in_ok-append-2.ensures.items
    (last_timely _ _ _ _ _ _ _ _ _ _ _ _ _ _ refl (c.in_ok-last.ensures.timely inside))

pub found_at-returns-in-Some-clause-exact : goal.found_at-returns-in-Some-clause-exact
found_at-returns-in-Some-clause-exact t c = λ laid.
    let there = rw c.as_slice.ensures at (slice_get_read c.as_slice.result.now _ c.args.place c.in-Some.found.now refl c.in-Some.ensures.lookup.3.0 c.in-Some.ensures.lookup.1) in
    rw there
    (c.activity.ensures.exact (laid_here _ _ _ laid) (rw there at (laid_inside c.args.root.now.library.now.templates c.args.depth c.args.scope.now.graph.now laid c.args.place)))

pub found_at-returns-in-Some-clause-timely : goal.found_at-returns-in-Some-clause-timely
found_at-returns-in-Some-clause-timely t c = λ laid.
    let there = rw c.as_slice.ensures at (slice_get_read c.as_slice.result.now _ c.args.place c.in-Some.found.now refl c.in-Some.ensures.lookup.3.0 c.in-Some.ensures.lookup.1) in
    rw there
    (c.activity.ensures.timely (laid_here _ _ _ laid) (rw there at (laid_inside c.args.root.now.library.now.templates c.args.depth c.args.scope.now.graph.now laid c.args.place)))

pub activity-returns-in-Some-false-clause-timely : goal.activity-returns-in-Some-false-clause-timely
activity-returns-in-Some-false-clause-timely t c = λ laid inside.
    let values = c.deref.ensures.value ∙ c.in_ok-values.ensures laid.incoming laid.outgoing in
    let known = ap (joined c.args.activity.now.join) (sym values) ∙ sym c.join.ensures ∙ c.in-Some-false.is ∙ ap Some c.in-Some-false.field-0-test in
    if_ok c.with_row-in-Some-false.result c.with_row-in-Some-false.ensures
    (λ f is. dead_timely _ _ _ _ _ _ _ _ _ _ _ _ _ f.after f.end f.ready.items known (c.joined_after-since.ensures.controls laid.incoming) (is.2 ∙ c.untried-dead.ensures.3) (is.0 ∙ c.untried-dead.ensures.1) (is.3 ∙ c.untried-dead.ensures.4))

pub activity-returns-clause-timely : goal.activity-returns-clause-timely
activity-returns-clause-timely t c = λ laid inside.
    let values = c.deref.ensures.value ∙ c.in_ok-values.ensures laid.incoming laid.outgoing in
    let known = ap (joined c.args.activity.now.join) (sym values) ∙ sym c.join.ensures ∙ c.in-Some-true.is ∙ ap Some c.in-Some-true.field-0-test in
    if_ok c.with_row-in-Some-true.result c.with_row-in-Some-true.ensures
    (λ f is. rw (is.0, is.2, is.3) (alive_timely _ _ _ _ _ _ _ _ _ _ _ _ _ _ _ _ known (c.joined_after-since.ensures.controls laid.incoming) c.joined_after-since.ensures.later (c.in_ok-tried-in-Some-true.ensures.timely laid inside)))

pub nested_attempt-returns-else-depth-eq0-clause-timely : goal.nested_attempt-returns-else-depth-eq0-clause-timely
nested_attempt-returns-else-depth-eq0-clause-timely t c = λ inside.
    let deeper : c.args.depth ≡ suc (c.args.depth - 1) = omega (arith, c.if-depth-eq0.false) in
    let of = sym c.graph_of.ensures ∙ ap option_copied c.in-Some.is in
    if_ok c.scope_attempt.result (c.scope_attempt.ensures.timely (inside c.in-Some.graph.now of (c.args.depth - 1) deeper))
    (λ r is. nested_timely _ _ _ _ _ _ _ _ _ _ _ r.output r.after r.ready.items deeper of is)

pub open_activity-returns-clause-exact : goal.open_activity-returns-clause-exact
open_activity-returns-clause-exact t c = λ laid inside.
    let fed = sym (c.is_fed.ensures laid.feeding) ∙ c.if-not-is_fed.false in
    let base = c.in_ok-base.ensures laid.feeding in
    if_ok c.attempts_from.result (c.attempts_from.ensures.exact laid.looping inside)
    (λ r x. fed_opens _ _ _ _ _ _ _ _ _ _ _ _ fed (rw base at x))

pub open_activity-returns-clause-timely : goal.open_activity-returns-clause-timely
open_activity-returns-clause-timely t c = λ laid inside.
    let fed = sym (c.is_fed.ensures laid.feeding) ∙ c.if-not-is_fed.false in
    let base = c.in_ok-base.ensures laid.feeding in
    if_ok c.attempts_from.result (c.attempts_from.ensures.timely laid.looping inside)
    (λ r x. open_timely _ _ _ _ _ _ _ _ _ _ _ _ _ c.in_ok-base.base r.end r.after r.ready.items fed c.fed_after-since.ensures.later (c.fed_after-since.ensures.lines laid.feeding) base x)

pub pass-loop-place-init : goal.pass-loop-place-init
pass-loop-place-init t c = record {
  exact = λ laid. record {
    long = rw c.in_ok-ends.ensures (length-replicate c.len-count.result Unsettled ∙ c.len-count.ensures);
    as_long = c.in_ok-rows.ensures ∙ c.len-count.ensures;
    right = λ j below. absurd (omega arith);
    shown = λ j below. absurd (omega arith);
  };
  timely = λ laid.
      let long_ : length c.in_ok-afters.afters.items ≡ length (out-Graph c.args.scope.now.graph.now).activities = search (rules, c.in_ok-afters.ensures.items, c.len-count.ensures) in
      rw c.new-ready.ensures.items
      (in_pass_first _ _ _ _ _ _ _ _ _ _ (c.in_ok-ends.ensures ∙ ap (λ n. replicate n Unsettled) c.len-count.ensures) (rw c.in_ok-ends.ensures (length-replicate c.len-count.result Unsettled ∙ c.len-count.ensures)) long_);
  whole = λ laid well. told_to_first _ _ _ _ _ _ _ _ _ _ _;
}

pub pass-loop-place-preserved : goal.pass-loop-place-preserved
pass-loop-place-preserved t c = record {
  exact = λ laid.
      let less = rw c.as_slice-place-items.ensures at c.loop-place-test.true in
      let is = rw (c.deref.ensures.value, c.as_slice-place-items.ensures) at (c.in_ok-end.ensures.exact laid) in
      rw (c.put.ensures, c.put-in-loop-place-2.ensures, c.as_slice-place-items.ensures)
      (passes_more c.args.root.now.library.now.templates c.args.depth c.args.root.now.most (output_in c.args.scope.now.entries.now) c.args.scope.now.graph.now c.args.scope.now.input c.args.scope.now.path
      (laid_here _ _ _ laid) (λ r. r.items) c.loop-place.place-index c.loop-place.ends.items c.loop-place.rows.items _ _ less (c.loop-place.invariant.exact laid) is);
  timely = λ laid.
      let less = rw c.as_slice-place-items.ensures at c.loop-place-test.true in
      let is = rw (c.deref.ensures.value, c.deref-in-loop-place.ensures.value, c.as_slice-place-items.ensures) at (c.in_ok-end.ensures.timely laid) in
      rw (c.put.ensures, c.put-in-loop-place.ensures, c.in_ok-append.ensures.items, c.as_slice-place-items.ensures)
      (in_pass_more c.args.root.now.library.now.templates c.args.depth c.args.root.now.most c.args.scope.now.entries.now c.args.scope.now.graph.now c.args.scope.now.input c.args.scope.now.path
      c.args.scope.now.since c.loop-place.place-index c.loop-place.ends.items c.loop-place.afters.items c.loop-place.ready.items _ _ _ (laid_here _ _ _ laid) less (c.loop-place.invariant.timely laid) is);
  whole = λ laid well.
      let less = rw c.as_slice-place-items.ensures at c.loop-place-test.true in
      let is = rw (c.deref.ensures.value, c.deref-in-loop-place.ensures.value, c.as_slice-place-items.ensures) at (c.in_ok-end.ensures.whole laid well) in
      let passes = c.loop-place.invariant.timely laid in
      rw (c.put.ensures, c.put-in-loop-place.ensures, c.in_ok-append.ensures.items, c.as_slice-place-items.ensures)
      (told_to_more c.args.root.now.library.now.templates c.args.depth c.args.root.now.most c.args.scope.now.entries.now c.args.scope.now.graph.now c.args.scope.now.input c.args.scope.now.path
      (laid_here _ _ _ laid) (well_wired _ _ _ well) c.args.scope.now.since c.loop-place.place-index less c.loop-place.ends.items c.loop-place.afters.items c.loop-place.ready.items (c.loop-place.invariant.whole laid well) _ _ _ passes.long passes.as_long is);
}

pub pass-returns-clause-exact : goal.pass-returns-clause-exact
pass-returns-clause-exact t c = λ laid.
    let passes = c.loop-place.invariant.exact laid in
    let last : c.loop-place.place-index ≡ length (out-Graph c.args.scope.now.graph.now).wiring.order = omega (arith, ap length c.as_slice-place-items.ensures) in
    let here = laid_here _ _ _ laid in
    let all = passes_all c.args.root.now.library.now.templates c.args.depth c.args.root.now.most (output_in c.args.scope.now.entries.now) c.args.scope.now.graph.now c.args.scope.now.input c.args.scope.now.path
    here (λ r. r.items) c.loop-place.ends.items c.loop-place.rows.items (rw last at passes) in
    record {
      given = (rw c.deref-2.ensures.value at (c.in_ok-complete_output.ensures here.sinking)) passes.long ∙ ap (output_by c.args.scope.now.graph.now c.args.scope.now.input) all.0;
      shown = c.in_ok-joined.ensures ∙ all.1;
    }

pub pass-returns-clause-timely : goal.pass-returns-clause-timely
pass-returns-clause-timely t c = λ laid.
    let passes = c.loop-place.invariant.timely laid in
    let here = laid_here _ _ _ laid in
    in_pass_all _ _ _ _ _ _ _ _ c.loop-place.ends.items c.loop-place.afters.items c.loop-place.ready.items _ _ passes
    ((rw c.deref-2.ensures.value at (c.in_ok-complete_output.ensures here.sinking)) passes.long) c.complete_after.ensures.later (rw c.deref-3.ensures.value at c.complete_after.ensures.all)

pub scope_attempt-returns-clause-exact : goal.scope_attempt-returns-clause-exact
scope_attempt-returns-clause-exact t c = λ laid.
    let passed = c.in_ok-rows.ensures.exact laid in
    let seen = seen_below c.args.root.now.most c.args.scope.now.entries.now _ (part c.args.activity.now.name c.args.attempt) (λ p. ap (λ es. dated_in es p) (c.entries_at-found.ensures ∙ ap (λ n. at_part c.args.scope.now.groups (part n c.args.attempt)) c.as_slice.ensures) ∙ c.args.scope.now.grouped (part c.args.activity.now.name c.args.attempt) p) in
    let given = rw c.in_ok-copy.ensures at passed.given in
    rw (add-one, seen)
    (c.in_ok-with_code_of.ensures ∙ ap (option_map with_return_code) given, rw (c.in_ok-copy.ensures, c.in_ok-path_of.ensures) at passed.shown)

pub scope_attempt-returns-clause-timely : goal.scope_attempt-returns-clause-timely
scope_attempt-returns-clause-timely t c = λ laid.
    scope_timely _ _ _ _ _ _ (part c.args.activity.now.name c.args.attempt) _ _ _ _ _ _ _ (λ p. ap (λ es. dated_in es p) (c.entries_at-found.ensures ∙ ap (λ n. at_part c.args.scope.now.groups (part n c.args.attempt)) c.as_slice.ensures) ∙ c.args.scope.now.grouped (part c.args.activity.now.name c.args.attempt) p) c.in_ok-with_code_of.ensures
    (rw (c.in_ok-copy.ensures, c.in_ok-path_of.ensures) at (c.in_ok-rows.ensures.timely laid))

pub attempt_of-returns-in-Program-clause-timely : goal.attempt_of-returns-in-Program-clause-timely
attempt_of-returns-in-Program-clause-timely t c = λ inside. if_ok c.program_attempt.result c.program_attempt.ensures.timely (λ r is. program_timely _ _ _ _ _ _ c.in-Program.field-0 _ _ _ _ _ _ c.in-Program.is is)
