use Rattle.std.proofs.Common.{◌≡◌, ℕ, Result, Ok, Err, IfOk, sym, subst}
use Rattle.activity_states.specs.States.{State}
use Rattle.flow_model.specs.declared.graphs.Container.{Container}
use Rattle.flow_model.specs.declared.graphs.Graph.{Graph}
use Rattle.navigator.specs.ItemInputs.{ReadsAttempt}
use Rattle.navigator.specs.Items.{item_input}
use Rattle.navigator.specs.declared.scopes.ScopeState.{ScopeState}
use Rattle.navigator.proofs.AttemptInputs.{item_reads}
use Rattle.navigator.proofs.instance.Item.input.Goals as goal

reads_so : {E : Type 0} (r : Result Container E) (g : Graph) (s : ScopeState) (a : ℕ) (p : State) (j : ℕ) → IfOk r (λ c. c ≡ item_input g s a p j) → IfOk r (λ c. ReadsAttempt g s a p j c)
reads_so (Ok c) g s a p j is = subst (λ (x : Container). ReadsAttempt g s a p j x) (sym is) (item_reads g s a p j)
reads_so (Err e) g s a p j is = is

pub returns-clause-shows : goal.returns-clause-shows
returns-clause-shows c = λ small feeding looping.
    reads_so c.looped_input.result c.args.self.now.place.graph.now c.args.self.now.place.scope.now c.args.self.now.number c.args.self.now.state.now c.args.self.now.attempt
    (c.looped_input.ensures small feeding looping)
