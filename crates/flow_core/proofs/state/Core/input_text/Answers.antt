use Rattle.std.proofs.Common.{Option, subst}
use Rattle.flow_core.specs.Refusals.{IsFound}
use Rattle.flow_core.specs.declared.items.Found.{Found}
use Rattle.flow_core.proofs.Contained.{input_answer}
use Rattle.flow_core.proofs.state.Core.input_text.Goals as goal

pub returns-in-Some : goal.returns-in-Some
returns-in-Some c =
    input_answer c.input_of.result c.args.self.now c.args.token.now c.in-Some.found
    (subst (λ (o : Option Found). IsFound c.args.self.now c.args.token.now o) c.in-Some.is c.in_ok-found.ensures) c.input_of.ensures
