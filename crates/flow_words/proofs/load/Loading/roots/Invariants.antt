use Rattle.std.proofs.Common.{◌≡◌}
use Rattle.flow_words.specs.Loading.{number_of, roots_script, Serves}
use Rattle.flow_words.proofs.load.Loading.roots.Given as goal

abbrev pub invariant-loop-before : goal.invariant-loop-before
invariant-loop-before l = record {
  number : l.x ≡ number_of l.seed l.before;
  served : Serves (roots_script l.seed l.before) l.fn.self l.self;
}
