use Rattle.std.proofs.Common.{◌≡◌, [], ◌∷◌, ◌++◌, ap, ◌∙◌, refl, subst, sym}
use Rattle.std.proofs.lemmas.Option.{get_or_from_slice_get}
use Rattle.flow_model.specs.Rows.{below}
use Rattle.flow_model.specs.Scopes.{part}
use Rattle.flow_model.specs.declared.instances.Message.TheVariants.{Begin}
use Rattle.flow_model.specs.declared.instances.Path.{Path}
use Rattle.navigator.specs.Steps.{Told, told, GrowsState, next_of}
use Rattle.navigator.specs.declared.scopes.ActivityState.{ActivityState}
use Rattle.navigator.proofs.scopes.ScopeState.begin_attempt.Goals as goal

pub returns : goal.returns
returns c = λ was at.
    let state = c.in-Some-get_mut.state.now in
    let runs = sym c.in-Some.ensures in
    let old : state ≡ was = c.in-Some-get_mut.ensures.value ∙ get_or_from_slice_get c.args.self.now.states.items c.args.place was state at in
    let to : c.in_ok-below.below ≡ below c.args.path.now (part c.args.activity.now.name (next_of was))
    = c.in_ok-below.ensures ∙ ap (λ j. below c.args.path.now (part c.args.activity.now.name j)) (c.in_ok-attempt.ensures.number ∙ ap next_of old) in
    let now : Told = told c.args.effects.now in
    rw runs (record {
      next = c.in_ok-scope.scope;
      fresh = c.in_ok-scope.ensures.fresh;
      state = c.add_scope.new.self;
      grows = subst (λ (s : ActivityState). GrowsState c.in_ok-scope.scope s c.add_scope.new.self) old c.in_ok-attempt.ensures.grows;
      scope = refl;
      tells = c.in_ok-add_begin.ensures ∙ ap (λ (p : Path). record now { begins = now.begins ++ Begin p ∷ [] }) to;
    })
