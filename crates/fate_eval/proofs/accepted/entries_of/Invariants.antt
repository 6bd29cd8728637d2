use Rattle.std.proofs.Common.{◌≡◌, List, take}
use Rattle.fate_eval.specs.Entries.{dated_from}
use Rattle.flow_model.specs.declared.instances.Part.{Part}
use Rattle.fate_eval.specs.Entries.{dated_in}
use Rattle.fate_eval.proofs.accepted.entries_of.Given as goal

abbrev pub invariant-loop-i : goal.invariant-loop-i
invariant-loop-i l = (p : List Part) → dated_in l.entries.items p ≡ dated_from 0 (take l.i l.facts) p
