use Rattle.std.proofs.Common.{arith}
use Rattle.flow_words.proofs.load.Loading.new.Goals as goal

pub returns-clause-fresh : goal.returns-clause-fresh
returns-clause-fresh c = record {
  empty = c.in_ok-fresh.ensures.begins;
  state = c.in_ok-fresh.ensures.state;
  outside = c.in_ok-fresh.ensures.outside;
  whole = record { right = c.in_ok-fresh.ensures.right (omega arith); keyed = c.in_ok-fresh.ensures.keyed };
}
