use Rattle.std.proofs.Common.{◌≡◌, List, subst}
use Rattle.flow_model.specs.declared.graphs.Graph.{Graph}
use Rattle.flow_model.specs.declared.instances.Part.{Part}
use Rattle.navigator.specs.Events.{happening, nothing, IsUsable, Receives, ChangesAt}
use Rattle.navigator.specs.Steps.{Told, told}
use Rattle.navigator.specs.declared.scopes.ScopeState.{ScopeState}
use Rattle.navigator.proofs.instance.Instance.change.Goals as goal

pub returns-clause-happens : goal.returns-clause-happens
returns-clause-happens c = λ g is.
    let known = c.in-Some.ensures in
    let same : c.in-Some.graph.now ≡ g = cc in
    let ts = c.args.with.library.now.templates in
    let after : Told = told c.change.new.effects in
    let changed = λ (before : Told) (ps : List Part) (x : Graph). ChangesAt ts
    (λ (h : Graph) (s s' : ScopeState). IsUsable h → Receives ts c.args.path.now c.args.with.clock (happening c.args.event) before after h s s')
    ps x c.args.self.now.scope c.change.new.self in
    let from_nothing = subst (λ (b : Told). changed b c.as_slice-parts.result.now c.in-Some.graph.now) c.new-effects.ensures c.in_ok-change.ensures in
    let by_path = subst (λ (ps : List Part). changed nothing ps c.in-Some.graph.now) c.as_slice-parts.ensures from_nothing in
    record {
      tells = after;
      changes = subst (λ (x : Graph). changed nothing c.args.path.now.parts x) same by_path;
      messages = c.in_ok-given.ensures.0;
      ready = c.in_ok-given.ensures.1;
    }
