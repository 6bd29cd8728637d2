use Rattle.std.proofs.Common.{subst}
use Rattle.process_rules.specs.Callees.{Calls, NamesNone}
use Rattle.process_rules.proofs.Knowing.{calls_known}
use Rattle.text_graphs.specs.Graphs.{graph_at}
use Rattle.text_graphs.specs.Places.{IsLeastOf, AnyAt}
use Rattle.process_rules.proofs.callees.unknown_processes.Goals as goal

pub returns-clause-named : goal.returns-clause-named
returns-clause-named c = λ processes knowing.
    subst (λ (calls : Calls). IsLeastOf (AnyAt (λ s. NamesNone calls (graph_at s)) c.args.scopes.now) c.unknown_in_graphs.result) (calls_known c.args.known.now processes knowing) c.unknown_in_graphs.ensures
