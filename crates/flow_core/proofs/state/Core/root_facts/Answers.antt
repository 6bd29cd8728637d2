use Rattle.std.proofs.Common.{refl, sym}
use Rattle.flow_core.proofs.state.Core.root_facts.Goals as goal

pub returns-clause-facts : goal.returns-clause-facts
returns-clause-facts c = record {
  number = refl;
  instance = c.in-Some.instance.now;
  live = sym c.in-Some.ensures;
  template = refl;
  graph = c.in-Some-root_graph.graph.now;
  process = sym c.in-Some-root_graph.ensures;
  input = c.in_ok-start_input.ensures;
  facts = c.in_ok-facts.ensures;
}
