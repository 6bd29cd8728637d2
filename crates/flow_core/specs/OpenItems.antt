-- What is open: the items that are ready or running in the live roots that are active or suspended, by root and then in
-- show order.
use Rattle.std.specs.Prelude.{◌≡◌, ℕ, Bool, true, false, Option, Some, None, option_map, option_and_then, List, [], ◌∷◌}
use Rattle.std.specs.Prelude.{◌++◌}
use Rattle.std.specs.List.{filter_map}
use Rattle.std.specs.List.Sorted.{IsStrictlySortedBy}
use Rattle.std.specs.Map.{keys_of}
use Rattle.std.specs.Ordering.{nat_cmp}
use Rattle.activity_states.specs.States.{hold_of, since_of}
use Rattle.flow_model.specs.declared.graphs.Program.{Program as ProgramOf}
use Rattle.flow_model.specs.declared.instances.Fate.{Fate}
use Rattle.flow_model.specs.declared.instances.Fate.TheVariants as fates
use Rattle.flow_model.specs.declared.instances.FateRow.{FateRow}
use Rattle.flow_model.specs.declared.instances.Hold.{Hold}
use Rattle.flow_model.specs.declared.instances.Path.{Path}
use Rattle.flow_model.specs.declared.names.Name.{Name}
use Rattle.navigator.specs.Items.{Entry}
use Rattle.navigator.specs.declared.instance.Instance.{Instance}
use Rattle.flow_core.specs.Allowing.{mode_in, performer_for}
use Rattle.flow_core.specs.Answers.{instance_of, AreRowsOf}
use Rattle.flow_core.specs.Driving.{item_of, program_in}
use Rattle.flow_core.specs.Refusals.{is_going}
use Rattle.flow_core.specs.declared.open_items.OpenItem.{OpenItem}
use Rattle.flow_core.specs.declared.state.Core.{Core}
use Rattle.flow_core.specs.declared.state.Root.{Root}

-- ---- one item

-- an open item: its path, the clock when it became ready, its program, who holds it, who started its root, and the
-- person whose
-- DONE PERFORMER OF asks for
pub record Open : Type 0 where
  pub item : Path
  pub since : ℕ
  pub program : ProgramOf
  pub hold : Hold
  pub starter : Name
  pub performer : Option Name

-- what an item that is given tells
abbrev pub told_of : OpenItem → Open
told_of o = record {
  item = o.item;
  since = o.since;
  program = o.program.now;
  hold = o.hold.now;
  starter = o.starter.now;
  performer = option_map (λ name. name.now) o.performer;
}

-- who started a live root
abbrev pub starter_of : Core → ℕ → Option Name
starter_of c root = option_map (λ i. i.starter) (instance_of c root)

abbrev pub open_by : Path → Entry → ProgramOf → Name → Open
open_by path e p starter = record {
  item = path;
  since = since_of e.state;
  program = p;
  hold = hold_of e.state;
  starter = starter;
  performer = performer_for e p;
}

-- the item of a path, where it is there
abbrev pub open_at : Core → Path → Option Open
open_at c path =
    option_and_then (λ e. option_and_then (λ p. option_map (open_by path e p) (starter_of c path.root))
    (program_in e.activity.work)) (item_of c path)

-- ---- one row

-- the attempt that a fate leaves open
abbrev pub attempt_left : Fate → Option ℕ
attempt_left fates.Waiting = None
attempt_left (fates.Ready j) = Some j
attempt_left (fates.Running j) = Some j
attempt_left (fates.Finished j) = None
attempt_left fates.Dead = None

-- the path of an attempt of a row's activity
abbrev pub attempt_of : FateRow → ℕ → Path
attempt_of row j = record {
  root = row.scope.root;
  parts = row.scope.parts ++ record { name = row.name; attempt = j } ∷ [];
}

-- the item that a row leaves open; none of an activity that is a block or a process
abbrev pub open_in : Core → FateRow → Option Open
open_in c row = option_and_then (λ j. open_at c (attempt_of row j)) (attempt_left row.fate)

-- ---- all rows of all roots

-- what is open of a root, where it is active or suspended: what the rows of its view leave open, in show order; else
-- nothing
abbrev pub AreOpenIf : Core → Instance → Bool → List Open → Type 0
AreOpenIf c i false opens = opens ≡ []
AreOpenIf c i true opens =
    (rows : List FateRow) × AreRowsOf c.store i rows × (opens ≡ filter_map (open_in c) rows)

abbrev pub AreOpenOf : Core → Instance → List Open → Type 0
AreOpenOf c i opens = AreOpenIf c i (is_going (mode_in i)) opens

-- what is open of each of these roots, one behind the other
abbrev pub AreOpenIn : Core → List (ℕ × Root) → List Open → Type 0
AreOpenIn c [] opens = opens ≡ []
AreOpenIn c (r ∷ roots) opens =
    (here : List Open) × (behind : List Open) × AreOpenOf c r.1.instance here × AreOpenIn c roots behind
    × (opens ≡ here ++ behind)

-- the numbers of the live roots rise
abbrev pub HasRisingRoots : Core → Type 0
HasRisingRoots c = IsStrictlySortedBy nat_cmp (keys_of c.live_roots.entries)

-- what is open of all live roots, by their numbers, which rise
abbrev pub AreOpen : Core → List Open → Type 0
AreOpen c opens = HasRisingRoots c × AreOpenIn c c.live_roots.entries opens

-- what is open of a root is put behind what there was
abbrev pub AddsOpen : Core → Instance → List Open → List Open → Type 0
AddsOpen c i before after = (here : List Open) × AreOpenOf c i here × (after ≡ before ++ here)
