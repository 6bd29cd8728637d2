use Rattle.std.proofs.Common.{◌≡◌, ◌∷◌, List, take}
use Rattle.std.specs.List.{All}
use Rattle.std.specs.Option.{option_or}
use Rattle.flow_model.specs.declared.instances.Part.{Part}
use Rattle.fate_eval.specs.Entries.{dated_in}
use Rattle.fate_eval.specs.Grouped.{LeadsBelow}
use Rattle.fate_eval.proofs.accepted.extend.Given as goal

abbrev pub invariant-loop-entry : goal.invariant-loop-entry
invariant-loop-entry l = (q : Part) → All (LeadsBelow q) l.run → (p : List Part) → dated_in l.group.items p ≡ option_or (dated_in l.initial.group.items p) (dated_in (take l.entry-index l.run) (q ∷ p))
