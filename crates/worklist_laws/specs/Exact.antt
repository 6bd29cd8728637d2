-- Exact worklists: the lines of a person are the open items that the person sees, in show order.
use Rattle.std.specs.Prelude.{◌≡◌, ◌↔◌, ◌||◌, ◌&&◌, ℕ, Bool, true, Option, None, Some, List, map}
use Rattle.std.specs.List.{Contains}
use Rattle.std.specs.List.Sorted.{IsStrictlySortedBy}
use Rattle.std.specs.Ordering.{nat_cmp}
use Rattle.std.specs.Cmp.Lexicographic.{slice_cmp}
use Rattle.flow_core.specs.Answers.{worklist_text}
use Rattle.flow_core.specs.Replies.{refusal_text}
use Rattle.flow_core.specs.Shelving.{rank_now}
use Rattle.flow_core.specs.declared.refusals.Refusal.TheVariants as refused
use Rattle.flow_core.specs.declared.state.Core.{Core}
use Rattle.flow_model.specs.declared.graphs.PersonDef.{PersonDef}
use Rattle.flow_model.specs.declared.instances.ItemLine.{ItemLine}
use Rattle.flow_model.specs.declared.instances.Path.{Path}
use Rattle.flow_model.specs.declared.instances.WorkLine.{WorkLine}
use Rattle.staff_worklists.specs.Rights.{is_eligible, holds_it}
use Rattle.staff_worklists.specs.Shelves.{is_held, is_free}
use Rattle.worklist_laws.specs.Shelved.{open_line}

-- a person holds the item of a line, or nobody does and the person is eligible
abbrev pub may_see : PersonDef → ItemLine → Bool
may_see person line = holds_it line.hold person.name ||
    (is_free line.hold && is_eligible person line.program line.starter line.performer)

-- the item of a path is open and manual, the person may see it, and somebody holds it or not
pub record IsForPerson (c : Core) (person : PersonDef) (path : Path) (held : Bool) : Type 0 where
  pub line : ItemLine
  pub opens : open_line c path ≡ Some line
  pub seen : may_see person line ≡ true
  pub held_so : held ≡ is_held line.hold

-- these lines are exactly those items, by strictly rising rank
pub record IsExact (c : Core) (person : PersonDef) (lines : List WorkLine) : Type 0 where
  pub exactly : (path : Path) (held : Bool) → Contains lines (record { item = path; held = held })
      ↔ IsForPerson c person path held
  pub ranks : List (List ℕ)
  pub ranked : map (λ line. rank_now c line.item) lines ≡ map Some ranks
  pub rising : IsStrictlySortedBy (slice_cmp nat_cmp) ranks

-- a reply lists exactly those items of the person of a name, or refuses the name of nobody
abbrev pub ListsExactly : Core → List ℕ → Option PersonDef → List ℕ → Type 0
ListsExactly c name None text = text ≡ refusal_text (refused.Person name)
ListsExactly c name (Some person) text = (lines : List WorkLine) × IsExact c person lines
    × (text ≡ worklist_text name lines)
