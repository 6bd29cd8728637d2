use Rattle.std.proofs.Common.{◌≡◌, ◌∷◌, ◌≤◌, ◌-◌, List, length, take}
use Rattle.flow_model.specs.declared.instances.Part.{Part}
use Rattle.fate_eval.specs.Entries.{dated_in}
use Rattle.fate_eval.specs.Grouped.{at_part}
use Rattle.fate_eval.proofs.accepted.groups_of.Given as goal

abbrev pub invariant-loop-done : goal.invariant-loop-done
invariant-loop-done l = record {
  within : l.done ≤ length l.entries;
  grouped : (q : Part) (p : List Part) → dated_in (at_part l.groups q) p ≡ dated_in (take l.done l.entries) (q ∷ p);
}

abbrev pub decreases-loop-done : goal.decreases-loop-done
decreases-loop-done l = length l.entries - l.done
