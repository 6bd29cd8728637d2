use Rattle.std.proofs.Common.{ap, refl, option_map, ◌∙◌}
use Rattle.std.specs.BTreeMap.{is_at}
use Rattle.std.specs.Map.{lookup}
use Rattle.std.specs.Ordering.{nat_cmp}
use Rattle.flow_model.specs.declared.graphs.Library.{Library}
use Rattle.recover_queue.specs.Queues.{is_quiet}
use Rattle.flow_core.proofs.Putting.{none_quiet}
use Rattle.flow_core.proofs.state.Core.resume.Goals as goal

pub returns-clause-blank : goal.returns-clause-blank
returns-clause-blank c = record {
  roots = λ root. ap (λ es. option_map (λ r. r.instance) (lookup (is_at (nat_cmp root)) es)) c.new-3.ensures;
  queues = ap is_quiet c.in_ok-new.ensures ∙ none_quiet c.args.queues;
  library = ap (λ (l : Library). l.templates) c.new-2.ensures.empty;
  people = ap (λ (l : Library). l.people) c.new-2.ensures.empty;
  clock = refl;
  keys = c.new-4.ensures.empty;
  live = c.new-6.ensures;
  unlisted = c.new-5.ensures;
}
