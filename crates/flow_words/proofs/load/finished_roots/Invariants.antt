use Rattle.std.proofs.Common.{◌≡◌, ◌≤◌}
use Rattle.flow_words.specs.Loading.{AreFinished, item_b}
use Rattle.flow_words.proofs.load.finished_roots.Given as goal

abbrev pub invariant-loop-before : goal.invariant-loop-before
invariant-loop-before l = record {
  counted : AreFinished l.core l.before l.finished;
  few : l.finished ≤ l.before;
  item : l.item ≡ item_b l.item.root;
}
