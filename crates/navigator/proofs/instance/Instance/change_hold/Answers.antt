use Rattle.std.proofs.Common.{◌≡◌, subst}
use Rattle.flow_model.specs.declared.graphs.Graph.{Graph}
use Rattle.navigator.specs.Showing.{StaysShown}
use Rattle.navigator.proofs.instance.Instance.change_hold.Goals as goal

pub returns-in-Some-clause-shows : goal.returns-in-Some-clause-shows
returns-in-Some-clause-shows c = λ g is.
    let known = c.in-Some.ensures in
    let same : c.in-Some.graph.now ≡ g = cc in
    subst (λ (x : Graph). StaysShown c.args.library.now.templates x c.args.self.now.scope c.change_hold.new.self) same c.change_hold.ensures.shows
