use Rattle.std.proofs.Common.{Bor, List, map, ap, subst, ◌∙◌}
use Rattle.flow_model.specs.declared.trees.ProcessTree.{ProcessTree}
use Rattle.process_rules.specs.Shapes.{shapes_of, HasLargeSize}
use Rattle.text_graphs.specs.Places.{IsLeastOf}
use Rattle.process_rules.proofs.sizes.large_processes.Goals as goal

pub returns : goal.returns
returns c = λ processes knowing same.
    let exact = shapes_of c.args.known.now.catalog.now.library processes in
    subst (λ (ps : List ProcessTree). IsLeastOf (HasLargeSize exact ps) c.large_among.result) (ap (map (λ (q : Bor ProcessTree). q.now)) c.processes.ensures ∙ knowing.listed) (c.large_among.ensures exact same)
