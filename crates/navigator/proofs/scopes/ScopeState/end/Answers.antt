use Rattle.std.proofs.Common.{◌≡◌, ℕ, ◌-◌, Bool, true, false, Option, Some, ap, sym, ◌∙◌, subst}
use Rattle.std.specs.Prelude.{slice_get}
use Rattle.flow_model.specs.Conditions.{holds}
use Rattle.flow_model.specs.declared.graphs.Container.{Container}
use Rattle.flow_model.specs.declared.graphs.Graph.{out-Graph}
use Rattle.flow_model.specs.declared.instances.SourceEnd.TheVariants.{Finished}
use Rattle.flow_model.specs.ScopeContainers.{graph_in, base_of, looped}
use Rattle.flow_model.specs.declared.graphs.Activity.{Activity}
use Rattle.flow_model.specs.declared.graphs.Graph.{Graph}
use Rattle.blocks_subprocs.specs.Ends.{ends_of}
use Rattle.navigator.specs.Steps.{Begins, Fields, Told, fields, told, given_by, finishes, tell_settled, EndsBy}
use Rattle.navigator.proofs.Places.{same_at}
use Rattle.navigator.proofs.scopes.ScopeState.end.Goals as goal

pub returns-then-is_last : goal.returns-then-is_last
returns-then-is_last c = λ fits feeding outgoing looping activity here h is sinking was at s inside.
    let there : slice_get c.as_slice.result.now c.args.place ≡ Some activity = ap (λ xs. slice_get xs c.args.place) c.as_slice.ensures ∙ here in
    let same : c.in-Some.activity.now ≡ activity = same_at c.as_slice.result.now c.args.place activity c.in-Some.activity.now there c.in-Some.ensures.lookup.1 in
    let given = c.in_ok-output.ensures h (rw same is) sinking s inside in
    let found = c.in-Some-2.is in
    let out : c.in-Some-2.output ≡ given_by h s = cc in
    let stops : holds activity.exit (given_by h s) ≡ true = rw (same, out) at (sym c.is_last.ensures ∙ c.if-is_last.true) in
    let old : Fields = fields c.args.self.now in
    let before : Told = told c.args.effects.now in
    subst (λ (b : Bool). EndsBy b c.args.graph.now h c.args.path.now c.args.place activity was (given_by h s) old (fields c.finish.new.self) before (told c.finish.new.effects)) (sym stops) (
      c.in_ok-finish.ensures.state ∙ ap (λ (x : Container). finishes c.args.place x old) out,
      c.in_ok-finish.ensures.tells fits outgoing ∙ ap (λ (x : Container). tell_settled c.args.graph.now c.args.path.now c.args.place (Finished x) (old.unsettled - 1) before) out,
    )

pub returns : goal.returns
returns c = λ fits feeding outgoing looping activity here h is sinking was at s inside.
    let there : slice_get c.as_slice.result.now c.args.place ≡ Some activity = ap (λ xs. slice_get xs c.args.place) c.as_slice.ensures ∙ here in
    let same : c.in-Some.activity.now ≡ activity = same_at c.as_slice.result.now c.args.place activity c.in-Some.activity.now there c.in-Some.ensures.lookup.1 in
    let given = c.in_ok-output.ensures h (rw same is) sinking s inside in
    let found = c.in-Some-2.is in
    let out : c.in-Some-2.output ≡ given_by h s = cc in
    let goes : holds activity.exit (given_by h s) ≡ false = rw (same, out) at (sym c.is_last.ensures ∙ c.if-is_last.false) in
    let old : Fields = fields c.args.self.now in
    let new : Fields = fields c.go_on.new.self in
    let before : Told = told c.args.effects.now in
    let after : Told = told c.go_on.new.effects in
    let ts = c.args.with.library.now.templates in
    let g : Graph = c.args.graph.now in
    let a : ℕ = c.args.place in
    let next = λ (o : Option Graph) (x : Activity) (y : Container). Begins o (looped (out-Graph g).loops a y (base_of g x a old.input (ends_of old.ends))) c.args.path.now a x was old new before after in
    let went = c.in_ok-go_on.ensures fits feeding looping (rw same here) was at in
    let by_activity = subst (λ (x : Activity). next (graph_in ts x.work) x c.in-Some-2.output) same went in
    let by_output = subst (λ (y : Container). next (graph_in ts activity.work) activity y) out by_activity in
    let begun = subst (λ (o : Option Graph). next o activity (given_by h s)) is by_output in
    subst (λ (b : Bool). EndsBy b g h c.args.path.now a activity was (given_by h s) old new before after) (sym goes) begun
