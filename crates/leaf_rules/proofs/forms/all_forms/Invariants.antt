use Rattle.std.proofs.Common.{◌≡◌, map, take}
use Rattle.leaf_rules.specs.Runs.{leaves_in_run}
use Rattle.leaf_rules.proofs.forms.all_forms.Given as goal

abbrev pub invariant-loop-run : goal.invariant-loop-run
invariant-loop-run l = map (λ forms. forms.coded.leaves) l.made.items ≡ map (leaves_in_run l.table.value) (take l.run-index l.runs)
