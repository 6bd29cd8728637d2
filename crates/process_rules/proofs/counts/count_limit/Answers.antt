use Rattle.std.proofs.Common.{Bor, List, map, ap, subst, ◌∙◌}
use Rattle.flow_model.specs.declared.trees.ProcessTree.{ProcessTree}
use Rattle.process_rules.specs.Counts.{IsExtra, IsTooMuch}
use Rattle.text_graphs.specs.Graphs.{graph_at}
use Rattle.text_graphs.specs.Places.{IsLeastOf, AnyAt}
use Rattle.text_graphs.proofs.Finding.{least_either}
use Rattle.process_rules.proofs.counts.count_limit.Goals as goal

pub returns-clause-found : goal.returns-clause-found
returns-clause-found c = λ processes knowing.
    let listed = ap (map (λ (p : Bor ProcessTree). p.now)) c.processes.ensures ∙ knowing.listed in
    let extra = subst (λ (ps : List ProcessTree). IsLeastOf (IsExtra (λ q. q.place) 256 ps) c.extra_process.result) listed c.extra_process.ensures in
    rw c.lesser.ensures.least
    (least_either (IsExtra (λ q. q.place) 256 processes) (AnyAt (λ s. IsTooMuch (graph_at s)) c.args.scopes.now) c.extra_process.result c.too_much_in_graphs.result extra c.too_much_in_graphs.ensures.found)
