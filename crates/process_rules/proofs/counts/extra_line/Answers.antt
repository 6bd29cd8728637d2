use Rattle.flow_model.specs.declared.trees.DataTree.{DataTree}
use Rattle.text_graphs.specs.Texts.{lines_in}
use Rattle.process_rules.proofs.Extra.{extra_found, extra_none}
use Rattle.process_rules.proofs.counts.extra_line.Goals as goal

pub returns-in-None : goal.returns-in-None
returns-in-None c = extra_none (λ (x : DataTree). x.place) (lines_in c.args.scope.now.elements.now) 4096 c.in-None.ensures

pub returns-in-Some : goal.returns-in-Some
returns-in-Some c = extra_found (λ (x : DataTree). x.place) (lines_in c.args.scope.now.elements.now) 4096 c.in-Some.line.now c.in-Some.ensures
