use Rattle.std.proofs.Common.{[], ◌∷◌, ◌++◌}
use Rattle.fate_laws.proofs.Items.{tell_same, later_adds_nothing}
use Rattle.fate_laws.proofs.completions.first_counts.Goals as goal

pub returns : goal.returns
returns c = λ most fs f out accepted. tell_same most fs (fs ++ f ∷ []) (later_adds_nothing fs f out accepted)
