use Rattle.std.proofs.Common.{◌≡◌, ◌++◌, drop}
use Rattle.flow_model.specs.Paths.{parts_spelling}
use Rattle.flow_model.proofs.paths.write_path.Given as goal

abbrev pub invariant-loop-part : goal.invariant-loop-part
invariant-loop-part l = l.out.items ++ parts_spelling (drop l.part-index l.part-items) ≡ l.initial.out.items ++ parts_spelling l.part-items
