use Rattle.flow_model.proofs.Steps.{cut_end}
use Rattle.flow_model.proofs.path_reading.step_len.Goals as goal

pub returns-in-Some-clause-found : goal.returns-in-Some-clause-found
returns-in-Some-clause-found c = λ q more step is.
    cut_end q more c.args.bytes.now c.in-Some.written.now c.in-Some.field-0-0.now c.front_len.result step is c.in-Some.ensures.cases.0 c.front_len.ensures.front
