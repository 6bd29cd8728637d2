-- What is open and what is overdue go by the clock, the live roots and the library alone.
use Rattle.std.proofs.Common.{◌≡◌, ℕ, Bool, true, false, Option, option_map, List, [], ◌∷◌, sym, ap, subst, ◌∙◌, map}
use Rattle.number_map.specs.Entries.{NumberMap, value_under}
use Rattle.std.specs.List.Sorted.{IsStrictlySortedBy}
use Rattle.std.specs.Map.{keys_of}
use Rattle.std.specs.Ordering.{nat_cmp}
use Rattle.std.specs.List.{filter_map}
use Rattle.std.specs.Option.{option_and_then}
use Rattle.flow_model.specs.declared.graphs.Library.{Library}
use Rattle.flow_model.specs.declared.graphs.Template.{Template}
use Rattle.flow_model.specs.declared.instances.FateRow.{FateRow}
use Rattle.flow_model.specs.declared.instances.Path.{Path}
use Rattle.flow_core.specs.Allowing.{mode_in}
use Rattle.flow_core.specs.Answers.{AreRowsOf}
use Rattle.flow_core.specs.Driving.{program_in, program_entry, entry_in}
use Rattle.flow_core.specs.OpenItems.{Open, told_of, open_in, open_by, attempt_left, attempt_of, AreOpenIf, AreOpenIn}
use Rattle.flow_core.specs.Refusals.{is_going}
use Rattle.flow_core.specs.declared.state.Core.{Core}
use Rattle.flow_core.specs.declared.state.Root.{Root}
use Rattle.deadlines.specs.Lateness.{AreDeclared, late_of, GoesByTheState}

-- the root of a number among these live ones
abbrev root_among : NumberMap Root → ℕ → Option Root
root_among roots root = value_under root roots

-- what is open at a path, by the templates and the live roots: as `open_at` says it of a state that has them
abbrev open_among : List Template → NumberMap Root → Path → Option Open
open_among templates roots path =
    option_and_then (λ e. option_and_then (λ p. option_map (open_by path e p)
    (option_map (λ i. i.starter) (option_map (λ r. r.instance) (root_among roots path.root))))
    (program_in e.activity.work))
    (program_entry (option_and_then (entry_in templates path)
    (option_map (λ r. r.instance) (root_among roots path.root))))

-- what a row leaves open, by the same
abbrev left_among : List Template → NumberMap Root → FateRow → Option Open
left_among templates roots row =
    option_and_then (λ j. open_among templates roots (attempt_of row j)) (attempt_left row.fate)

module _ (c c' : Core) (roots : c'.live_roots ≡ c.live_roots) (library : c'.store ≡ c.store) where
  same_rows : (rows : List FateRow) → filter_map (open_in c) rows ≡ filter_map (open_in c') rows
  same_rows rows =
      ap (λ rs. filter_map (left_among c.store.templates rs) rows) (sym roots)
      ∙ ap (λ (l : Library). filter_map (left_among l.templates c'.live_roots) rows) (sym library)

  in_root : (r : Root) (going : Bool) (opens : List Open) → AreOpenIf c r.instance going opens → AreOpenIf c' r.instance going opens
  in_root r false opens is = is
  in_root r true opens is = (is.0, subst (λ l. AreRowsOf l r.instance is.0) (sym library) is.1, is.2 ∙ same_rows is.0)

  in_roots : (rs : List (ℕ × Root)) (opens : List Open) → AreOpenIn c rs opens → AreOpenIn c' rs opens
  in_roots [] opens is = is
  in_roots (r ∷ rs) opens is = (is.0, is.1, in_root r.1 (is_going (mode_in r.1.instance)) is.0 is.2, in_roots rs is.1 is.3, is.4)

pub goes_by_the_state : GoesByTheState
goes_by_the_state c c' lates clock roots library is = (
  is.0,
  subst (λ l. AreDeclared l is.0) (sym library) is.1,
  is.2,
  (
    subst (λ (m : NumberMap Root). IsStrictlySortedBy nat_cmp (keys_of m.entries)) (sym roots) is.3.0,
    in_roots c c' roots library c'.live_roots.entries (map told_of is.2) (subst (λ (m : NumberMap Root). AreOpenIn c m.entries (map told_of is.2)) (sym roots) is.3.1),
  ),
  is.4 ∙ ap (λ t. filter_map (late_of t is.0) is.2) (sym clock),
)
