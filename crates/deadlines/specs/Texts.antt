-- How late items are printed.
use Rattle.std.specs.Prelude.{◌≡◌, ℕ, List, [], ◌∷◌, ◌++◌, length, codes}
use Rattle.std.specs.Fmt.{decimal}
use Rattle.std.specs.List.{flat_map}
use Rattle.flow_model.specs.Paths.{spelling}
use Rattle.flow_model.specs.declared.names.Name.{Name}
use Rattle.flow_text.specs.Spelling.{name_in_quotes}
use Rattle.flow_core.specs.declared.state.Core.{Core}
use Rattle.deadlines.specs.Lateness.{AreOverdue}
use Rattle.deadlines.specs.declared.late.Late.{Late}

-- a person who is to be notified, behind a space
abbrev pub notified_text : Name → List ℕ
notified_text name = 32 ∷ [] ++ name_in_quotes name

-- a late item as a line: its path in quotes, the minutes, and who is to be notified
abbrev pub late_text : Late → List ℕ
late_text late = 39 ∷ [] ++ spelling late.item ++ codes "' " ++ decimal late.minutes
    ++ flat_map notified_text late.notify ++ 10 ∷ []

-- their number, then a line for each
abbrev pub overdue_lines : List Late → List ℕ
overdue_lines lates = codes "ok OVERDUE " ++ decimal (length lates) ++ 10 ∷ [] ++ flat_map late_text lates

-- the text is that of exactly the late items of a state, in their order
abbrev pub IsOverdueText : Core → List ℕ → Type 0
IsOverdueText c text = (lates : List Late) × AreOverdue c lates × (text ≡ overdue_lines lates)
