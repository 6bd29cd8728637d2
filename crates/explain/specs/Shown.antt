-- What the begun scopes of a root show of an activity, which is named by its text.
use Rattle.std.specs.Prelude.{◌≡◌, ℕ, if◌then◌else◌, Bool, Option, Some, None, List, bytes_eq, fold}
use Rattle.std.specs.Global.{Vec}
use Rattle.std.specs.HashMap.{HashMap, get_by}
use Rattle.certificates.specs.Naming.{activity_spelling}
use Rattle.flow_core.specs.Answers.{instance_of, AreBegun}
use Rattle.flow_core.specs.declared.state.Core.{Core}
use Rattle.flow_model.specs.declared.instances.Fate.{Fate}
use Rattle.flow_model.specs.declared.instances.FateRow.{FateRow}

-- a row is of the activity that a text names
abbrev pub is_row_of : List ℕ → FateRow → Bool
is_row_of text row = bytes_eq text (activity_spelling row.scope row.name)

-- the fate in the last row of the activity that a text names
abbrev pub fate_in : List FateRow → List ℕ → Option Fate
fate_in rows text = fold (λ found row. if is_row_of text row then Some row.fate else found) None rows

-- what the begun scopes of a live root show of the activity that a text names
abbrev pub IsShown : Core → ℕ → List ℕ → Option Fate → Type 0
IsShown c root text found = (rows : List FateRow) × AreBegun c.store (instance_of c root) (Some rows)
    × (found ≡ fate_in rows text)

-- ---- in memory

-- the fate that is kept under a text
abbrev pub fate_at : {S : Type 0} → HashMap (Vec ℕ) Fate S → List ℕ → Option Fate
fate_at fates text = get_by (λ key. bytes_eq text key.items) fates

-- what is kept under each text is what the begun scopes of a live root show
abbrev pub AreShown : {S : Type 0} → Core → ℕ → HashMap (Vec ℕ) Fate S → Type 0
AreShown c root fates = (text : List ℕ) → IsShown c root text (fate_at fates text)
