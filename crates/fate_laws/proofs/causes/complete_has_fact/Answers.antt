use Rattle.flow_model.specs.Rows.{by_facts}
use Rattle.fate_laws.specs.Causes.{at_path}
use Rattle.fate_laws.proofs.Items.{fact_below}
use Rattle.fate_laws.proofs.Peopled.{output_given}
use Rattle.fate_laws.proofs.causes.complete_has_fact.Goals as goal

pub returns : goal.returns
returns c = λ ts depth most fs path g input out well done.
    fact_below most fs path (output_given ts depth (at_path path (by_facts most fs)) g input out well done)
