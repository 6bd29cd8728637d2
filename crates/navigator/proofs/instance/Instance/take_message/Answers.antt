use Rattle.std.proofs.Common.{◌≡◌, Some, IfOk, OnOk, sym, subst}
use Rattle.flow_model.specs.ScopeContainers.{graph_of}
use Rattle.flow_model.specs.declared.graphs.Graph.{Graph}
use Rattle.flow_model.specs.declared.instances.Message.{Message}
use Rattle.flow_model.specs.declared.instances.Message.TheVariants.{Begin, Signal, End}
use Rattle.navigator.specs.Giving.{GivesTaken}
use Rattle.navigator.specs.Showing.{ShowsTaken}
use Rattle.navigator.proofs.ShownResults.{taken_result, taken_result_given}
use Rattle.navigator.proofs.instance.Instance.take_message.Goals as goal

pub returns-in-Begin-clause-shows : goal.returns-in-Begin-clause-shows
returns-in-Begin-clause-shows c = λ lives.
    let ts = c.args.library.now.templates in
    let t = c.args.self.now.template in
    let s = c.args.self.now.scope in
    let s' = c.change.new.self.scope in
    subst (λ (m : Message). OnOk c.change.result ((g : Graph) → graph_of ts t ≡ Some g → ShowsTaken ts g m s s')) (sym c.in-Begin.is)
    (taken_result (λ given. given.0) (λ given. given.1.items) c.change.result ts c.args.clock t s s' (Begin c.in-Begin.path) c.change.ensures.happens)

pub returns-in-Signal-clause-shows : goal.returns-in-Signal-clause-shows
returns-in-Signal-clause-shows c = λ lives.
    let ts = c.args.library.now.templates in
    let t = c.args.self.now.template in
    let s = c.args.self.now.scope in
    let s' = c.change-in-Signal.new.self.scope in
    subst (λ (m : Message). OnOk c.change-in-Signal.result ((g : Graph) → graph_of ts t ≡ Some g → ShowsTaken ts g m s s')) (sym c.in-Signal.is)
    (taken_result (λ given. given.0) (λ given. given.1.items) c.change-in-Signal.result ts c.args.clock t s s' (Signal c.in-Signal.path c.in-Signal.field-1 c.in-Signal.to c.in-Signal.value)
    c.change-in-Signal.ensures.happens)

pub returns-in-End-clause-shows : goal.returns-in-End-clause-shows
returns-in-End-clause-shows c = λ lives.
    let ts = c.args.library.now.templates in
    let t = c.args.self.now.template in
    let s = c.args.self.now.scope in
    let s' = c.take_end.new.self.scope in
    subst (λ (m : Message). OnOk c.take_end.result ((g : Graph) → graph_of ts t ≡ Some g → ShowsTaken ts g m s s')) (sym c.in-End.is)
    (taken_result (λ given. given.0) (λ given. given.1.items) c.take_end.result ts c.args.clock t s s' (End c.in-End.path) c.take_end.ensures.takes)

pub returns-in-Begin-clause-gives : goal.returns-in-Begin-clause-gives
returns-in-Begin-clause-gives c = λ lives.
    let ts = c.args.library.now.templates in
    let t = c.args.self.now.template in
    let s = c.args.self.now.scope in
    let s' = c.change.new.self.scope in
    subst (λ (m : Message). IfOk c.change.result (λ given. (g : Graph) → graph_of ts t ≡ Some g → GivesTaken ts g m s given.0)) (sym c.in-Begin.is)
    (taken_result_given (λ given. given.0) (λ given. given.1.items) c.change.result ts c.args.clock t s s' (Begin c.in-Begin.path) c.change.ensures.happens)

pub returns-in-Signal-clause-gives : goal.returns-in-Signal-clause-gives
returns-in-Signal-clause-gives c = λ lives.
    let ts = c.args.library.now.templates in
    let t = c.args.self.now.template in
    let s = c.args.self.now.scope in
    let s' = c.change-in-Signal.new.self.scope in
    subst (λ (m : Message). IfOk c.change-in-Signal.result (λ given. (g : Graph) → graph_of ts t ≡ Some g → GivesTaken ts g m s given.0)) (sym c.in-Signal.is)
    (taken_result_given (λ given. given.0) (λ given. given.1.items) c.change-in-Signal.result ts c.args.clock t s s' (Signal c.in-Signal.path c.in-Signal.field-1 c.in-Signal.to c.in-Signal.value) c.change-in-Signal.ensures.happens)

pub returns-in-End-clause-gives : goal.returns-in-End-clause-gives
returns-in-End-clause-gives c = λ lives.
    let ts = c.args.library.now.templates in
    let t = c.args.self.now.template in
    let s = c.args.self.now.scope in
    let s' = c.take_end.new.self.scope in
    subst (λ (m : Message). IfOk c.take_end.result (λ given. (g : Graph) → graph_of ts t ≡ Some g → GivesTaken ts g m s given.0)) (sym c.in-End.is)
    (taken_result_given (λ given. given.0) (λ given. given.1.items) c.take_end.result ts c.args.clock t s s' (End c.in-End.path) c.take_end.ensures.takes)
