use Rattle.flow_model.specs.declared.trees.ActivityTree.{ActivityTree}
use Rattle.text_graphs.specs.Texts.{activities_in}
use Rattle.process_rules.proofs.Extra.{extra_found, extra_none, short}
use Rattle.process_rules.proofs.counts.extra_activity.Goals as goal

pub returns-in-None-clause-extra : goal.returns-in-None-clause-extra
returns-in-None-clause-extra c = extra_none (λ (x : ActivityTree). x.place) (activities_in c.args.scope.now.elements.now) 1024 c.in-None.ensures

pub returns-in-Some-clause-extra : goal.returns-in-Some-clause-extra
returns-in-Some-clause-extra c = extra_found (λ (x : ActivityTree). x.place) (activities_in c.args.scope.now.elements.now) 1024 c.in-Some.activity.now c.in-Some.ensures

pub returns-in-None-clause-small : goal.returns-in-None-clause-small
returns-in-None-clause-small c = λ none. short (activities_in c.args.scope.now.elements.now) 1024 c.in-None.ensures
