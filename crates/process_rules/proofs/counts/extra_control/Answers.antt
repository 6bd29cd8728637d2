use Rattle.flow_model.specs.declared.trees.ControlTree.{ControlTree}
use Rattle.text_graphs.specs.Texts.{controls_in}
use Rattle.process_rules.proofs.Extra.{extra_found, extra_none, short}
use Rattle.process_rules.proofs.counts.extra_control.Goals as goal

pub returns-in-None-clause-extra : goal.returns-in-None-clause-extra
returns-in-None-clause-extra c = extra_none (λ (x : ControlTree). x.place) (controls_in c.args.scope.now.elements.now) 4096 c.in-None.ensures

pub returns-in-Some-clause-extra : goal.returns-in-Some-clause-extra
returns-in-Some-clause-extra c = extra_found (λ (x : ControlTree). x.place) (controls_in c.args.scope.now.elements.now) 4096 c.in-Some.control.now c.in-Some.ensures

pub returns-in-None-clause-few : goal.returns-in-None-clause-few
returns-in-None-clause-few c = λ none. short (controls_in c.args.scope.now.elements.now) 4096 c.in-None.ensures
