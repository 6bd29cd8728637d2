use Rattle.activity_states.specs.declared.states.Completed.{Completed}
use Rattle.navigator.proofs.ShownResults.{completed_result, completed_result_given}
use Rattle.navigator.proofs.instance.Instance.complete_item.Goals as goal

pub returns-clause-shows : goal.returns-clause-shows
returns-clause-shows c =
    let by : Completed = record { output = c.args.output; performer = c.args.performer } in
    completed_result (λ given. given.0) (λ given. given.1.items) c.complete.result c.args.library.now.templates c.args.clock c.args.self.now.template c.args.self.now.scope c.complete.new.self.scope
    c.args.item.now.root c.args.item.now.parts by c.complete.ensures.completes

pub returns-clause-gives : goal.returns-clause-gives
returns-clause-gives c =
    let by : Completed = record { output = c.args.output; performer = c.args.performer } in
    completed_result_given (λ given. given.0) (λ given. given.1.items) c.complete.result c.args.library.now.templates c.args.clock c.args.self.now.template c.args.self.now.scope
    c.complete.new.self.scope c.args.item.now by c.complete.ensures.completes
