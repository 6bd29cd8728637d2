use Rattle.std.proofs.Common.{[]}
use Rattle.flow_model.specs.Rows.{by_facts, deepest}
use Rattle.fate_laws.proofs.Items.{fact_below}
use Rattle.fate_laws.proofs.Peopled.{output_given}
use Rattle.fate_laws.proofs.causes.root_has_fact.Goals as goal

pub returns : goal.returns
returns c = λ ts most fs g input out well done. fact_below most fs [] (output_given ts deepest (by_facts most fs) g input out well done)
