use Rattle.std.proofs.Common.{◌≡◌, ℕ, ◌+◌, ◌<◌, ◌≤◌, List, [], ◌∷◌, ◌++◌, length, take, Some, refl, ap, sym, ◌∙◌, subst, arith, append_assoc}
use Rattle.std.specs.Prelude.{slice_get}
use Rattle.std.proofs.lemmas.List.{take_all}
use Rattle.std.proofs.lemmas.Option.{slice_get_read}
use Rattle.flow_model.specs.ScopeContainers.{graph_in}
use Rattle.flow_model.specs.Scopes.{at, part}
use Rattle.flow_model.specs.declared.instances.FateRow.{FateRow}
use Rattle.navigator.specs.Reading.{state_fate}
use Rattle.navigator.specs.ViewRows.{inner_rows, rows_within}
use Rattle.navigator.specs.Views.{ShowsWithin, ShowsWork, shows_attempt}
use Rattle.navigator.specs.declared.scopes.ActivityState.{ActivityState, Nested}
use Rattle.navigator.specs.declared.scopes.NestedState.{out-NestedState}
use Rattle.navigator.proofs.Places.{present}
use Rattle.navigator.proofs.RowLists.{none_inside, none_without, nested_shows, inner_more, first_more}
use Rattle.navigator.proofs.shown.+rows.Goals as goal

pub add_activity-returns-in-Program : goal.add_activity-returns-in-Program
add_activity-returns-in-Program t c = λ n k fate outs starts numbered shows.
    let ts = c.args.library.now.templates in
    let pushed = rw (c.in_ok-copy.ensures, c.in_ok-copy-2.ensures, c.fate.ensures) at c.in_ok-push.ensures.ok in
    let row : FateRow = record { scope = c.args.path.now; name = c.args.activity.now.name; fate = state_fate c.args.state.now } in
    let none : inner_rows ts (rows_within ts n) k c.args.activity.now c.args.state.now c.args.path.now starts ≡ []
    = rw c.in-Program.is (none_inside ts (rows_within ts n) k c.args.activity.now c.args.path.now c.in-Program.field-0 starts) in
    pushed ∙ ap (λ (xs : List FateRow). c.args.rows.now ++ row ∷ xs) (sym none)

pub add_activity-returns-in_ok-add_inner-in-Nested : goal.add_activity-returns-in_ok-add_inner-in-Nested
add_activity-returns-in_ok-add_inner-in-Nested t c = λ n k fate outs starts numbered shows.
    let ts = c.args.library.now.templates in
    let pushed = rw (c.in_ok-copy.ensures, c.in_ok-copy-2.ensures, c.fate.ensures) at c.in_ok-push.ensures.ok in
    let row : FateRow = record { scope = c.args.path.now; name = c.args.activity.now.name; fate = state_fate c.args.state.now } in
    let attempt = shows_attempt (ShowsWithin ts n) k c.args.activity.now.name (graph_in ts c.args.activity.now.work) in
    let nested = nested_shows c.args.activity.now.work fate outs starts attempt c.in-Nested.inner (subst (λ (s : ActivityState). ShowsWork c.args.activity.now.work fate outs starts attempt s) c.in-Nested.is shows) in
    let inner : List FateRow = inner_rows ts (rows_within ts n) k c.args.activity.now (Nested c.in-Nested.inner) c.args.path.now starts in
    c.in_ok-add_inner-in-Nested.ensures n k fate starts numbered nested
    ∙ ap (λ (xs : List FateRow). xs ++ inner) pushed ∙ append_assoc c.args.rows.now (row ∷ []) inner
    ∙ ap (λ (s : ActivityState). c.args.rows.now ++ row ∷ inner_rows ts (rows_within ts n) k c.args.activity.now s c.args.path.now starts) (sym c.in-Nested.is)

pub add_inner-returns-in_default : goal.add_inner-returns-in_default
add_inner-returns-in_default t c = λ n k fate starts numbered shows.
    let ts = c.args.library.now.templates in
    let none = none_without ts (rows_within ts n) k c.args.activity.now c.args.path.now (Nested c.args.state.now) starts (sym c.in_default.ensures) in
    rw none (sym (nil c.args.rows.now))
  where
    nil : (xs : List FateRow) → xs ++ [] ≡ xs
    nil [] = refl
    nil (x ∷ xs) = ap (λ ys. x ∷ ys) (nil xs)

pub add_inner-loop-i-preserved : goal.add_inner-loop-i-preserved
add_inner-loop-i-preserved t c = λ n k fate starts numbered shows.
    let ts = c.args.library.now.templates in
    let i = c.loop-i.i in
    let runs = sym c.in-Some.ensures in
    let less : i < length c.deref-scope-items.result.now = c.loop-i-test.true in
    let here : slice_get c.deref-scope-items.result.now i ≡ Some c.scope-item.result = slice_get_read c.deref-scope-items.result.now _ i c.scope-item.result refl less c.scope-item.is in
    let there : slice_get (out-NestedState c.args.state.now).scopes.items i ≡ Some c.scope-item.result = rw c.deref-scope-items.ensures.value at here in
    let lengths = ap length c.deref-scope-items.ensures.value in
    let count = shows.count in
    let in_starts : i < length starts = omega arith in
    let found = present starts i in_starts in
    let small = c.deref-scope-items.ensures.len in
    let numbers = c.saturating_add-attempt.ensures in
    let small_of = (out-NestedState c.args.state.now).scopes.small in let ok_of = (out-NestedState c.args.state.now).scopes.ok in
    let same : c.saturating_add-attempt.result ≡ i + 1 = omega (arith, small_of, ok_of) in
    let named = numbered i found.0 found.1 in
    let shown = shows.scopes i found.0 c.scope-item.result found.1 there in
    let by_graph = rw runs at shown in
    let by_number : ShowsWithin ts n (at (part c.args.activity.now.name c.saturating_add-attempt.result) k) c.in-Some.graph.now found.0.input c.scope-item.result
    = subst (λ (j : ℕ). ShowsWithin ts n (at (part c.args.activity.now.name j) k) c.in-Some.graph.now found.0.input c.scope-item.result) (named ∙ sym same) by_graph in
    inner_more ts (rows_within ts n) k c.args.activity.now c.args.path.now c.args.state.now starts i found.0 c.in-Some.graph.now c.scope-item.result c.saturating_add-attempt.result
    c.args.rows.now c.loop-i.rows c.add_attempt.new.rows found.1 runs there named same (c.loop-i.invariant n k fate starts numbered shows)
    (c.in_ok-add_attempt.ensures n k found.0.input by_number)

pub add_inner-returns : goal.add_inner-returns
add_inner-returns t c = λ n k fate starts numbered shows.
    let lengths = ap length c.deref-scope-items.ensures.value in
    let count = shows.count in
    let past = c.loop-i-test.false in
    let all : length starts ≤ c.loop-i.i = omega arith in
    let taken : take c.loop-i.i starts ≡ starts = take_all c.loop-i.i starts all in
    rw taken at (c.loop-i.invariant n k fate starts numbered shows)

pub add_rows-loop-place-preserved : goal.add_rows-loop-place-preserved
add_rows-loop-place-preserved t c = λ n k input shows.
    let ts = c.args.library.now.templates in
    let a = c.loop-place.place in
    let less : a < length c.as_slice-activity-items.result.now = c.loop-place-test.true in
    let here : slice_get c.as_slice-activity-items.result.now a ≡ Some c.activity-item.result = slice_get_read c.as_slice-activity-items.result.now _ a c.activity-item.result refl less c.activity-item.is in
    let activity = rw c.as_slice-activity-items.ensures at here in
    let found = c.in-Some.ensures.lookup in
    let there : slice_get c.deref.result.now a ≡ Some c.in-Some.state.now = slice_get_read c.deref.result.now _ a c.in-Some.state.now refl found.3.0 found.1 in
    let state = rw c.deref.ensures.value at there in
    first_more ts n k c.args.graph.now input c.args.scope.now c.args.path.now a c.activity-item.result c.in-Some.state.now c.args.rows.now c.loop-place.rows c.add_activity.new.rows
    shows activity state (c.loop-place.invariant n k input shows) c.in_ok-add_activity.ensures
