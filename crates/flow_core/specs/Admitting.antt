-- Which record of a store is admitted: one that may stand under its number, and that the tests of its command give now.
use Rattle.std.specs.Prelude.{◌≡◌, ◌⊎◌, ◌↔◌, ℕ, ◌+◌, ◌^◌, ◌<◌, ◌≤◌, Bool, true, false, Option, Some, None, is_none}
use Rattle.std.specs.Prelude.{IfSome, IsTrue, List, [], ◌∷◌, slice_get, bytes_eq}
use Rattle.std.specs.HashMap as hash
use Rattle.std.specs.List.{list_all}
use Rattle.std.specs.Option.{option_map_or}
use Rattle.activity_states.specs.States.{next_take}
use Rattle.flow_model.specs.declared.graphs.Graph.{out-Graph}
use Rattle.flow_model.specs.declared.graphs.Kind.{Kind}
use Rattle.flow_model.specs.declared.graphs.Kind.TheVariants as kind
use Rattle.flow_model.specs.declared.graphs.Leaf.{Leaf}
use Rattle.flow_model.specs.declared.graphs.Template.{Template}
use Rattle.flow_model.specs.declared.graphs.Value.{Value}
use Rattle.flow_model.specs.declared.graphs.Value.TheVariants as value
use Rattle.flow_model.specs.declared.instances.Path.{Path}
use Rattle.flow_model.specs.declared.names.Name.{Name}
use Rattle.flow_model.specs.declared.transactions.Setting.{Setting}
use Rattle.flow_model.specs.declared.transactions.Transaction.{Transaction}
use Rattle.flow_model.specs.declared.transactions.Transaction.TheVariants as made
use Rattle.flow_core.specs.Allowing.{Subject, IsThere}
use Rattle.flow_core.specs.Driving.{IsFront}
use Rattle.flow_core.specs.Refusals.{first_of, person_of, person_test, who_test, newest_of, clock_test, root_test}
use Rattle.flow_core.specs.Refusals.{queued_test, is_active, is_suspended, is_going, is_over, claim_test, release_test}
use Rattle.flow_core.specs.Refusals.{transfer_test, taking_test, completing_test, forcing_test, restart_test, IsRuleOf}
use Rattle.flow_core.specs.Summaries.{started, deleted}
use Rattle.flow_core.specs.declared.refusals.Refusal.{Refusal}
use Rattle.flow_core.specs.declared.state.Core.{Core}

-- ---- settings

-- a value is of a kind
abbrev pub is_of : Value → Kind → Bool
is_of (value.Whole n) kind.Long = true
is_of (value.Whole n) kind.Str = false
is_of (value.Text t) kind.Long = false
is_of (value.Text t) kind.Str = true

-- a setting fits these leaves: its leaf is there, and its value is of the kind of that
abbrev pub fits : List Leaf → Setting → Bool
fits leaves s = option_map_or (λ leaf. is_of s.value leaf.kind) (slice_get leaves s.leaf) false

abbrev pub all_fit : List Leaf → List Setting → Bool
all_fit leaves settings = list_all (fits leaves) settings

-- ---- the tests of a record's command, number and root aside

-- the live root that has a key
abbrev pub root_with : Core → Option Name → Option ℕ
root_with c None = None
root_with c (Some key) = hash.get_by (λ k. bytes_eq key k.items) c.keys

-- a Start carries the newest version, a key that no live root has, a starter who is declared, and settings that fit
pub record IsStartDue (c : Core) (process : Name) (version : ℕ) (starter : Name) (key : Option Name)
    (settings : List Setting) : Type 0 where
  pub template : Template
  pub newest : newest_of c process ≡ Some template
  pub number : template.version ≡ version
  pub declared : person_test c starter ≡ None
  pub unused : root_with c key ≡ None
  pub fit : IsTrue (all_fit (out-Graph template.graph).input.leaves settings)

-- a transaction on an item passes the tests of its command at that item; a Take has the next number, and settings fit
abbrev pub IsDueAt : Core → Subject → Transaction → Type 0
IsDueAt c s (made.Claim item who) = (person_test c who ≡ None) × (claim_test (person_of c who) s ≡ None)
IsDueAt c s (made.Release item who) = (person_test c who ≡ None) × (release_test who s ≡ None)
IsDueAt c s (made.Transfer item who to) =
    (person_test c who ≡ None) × (person_test c to ≡ None) × (transfer_test who (person_of c to) s ≡ None)
IsDueAt c s (made.Take item take) = (taking_test s ≡ None) × (next_take s.item.state ≡ take)
IsDueAt c s (made.Done item by settings) =
    (who_test c by ≡ None) × (completing_test by s ≡ None) × IsTrue (all_fit s.item.activity.output.leaves settings)
IsDueAt c s (made.Force item settings) =
    (forcing_test s ≡ None) × IsTrue (all_fit s.item.activity.output.leaves settings)
IsDueAt c s (made.Restart item) = restart_test s ≡ None
IsDueAt c s t = ⊥

-- the item is there
abbrev pub IsItemDue : Core → Path → Transaction → Type 0
IsItemDue c path t = (s : Subject) × IsThere c path s × IsDueAt c s t

-- the tests of its command, but those of room, give the transaction
abbrev pub IsDue : Core → Transaction → Type 0
IsDue c (made.Import text) = IsRuleOf c text None
IsDue c (made.Start root process version starter key settings) = IsStartDue c process version starter key settings
IsDue c (made.Turn queue message) = IsFront c queue message
IsDue c (made.Claim item who) = IsItemDue c item (made.Claim item who)
IsDue c (made.Release item who) = IsItemDue c item (made.Release item who)
IsDue c (made.Transfer item who to) = IsItemDue c item (made.Transfer item who to)
IsDue c (made.Take item take) = IsItemDue c item (made.Take item take)
IsDue c (made.Done item by settings) = IsItemDue c item (made.Done item by settings)
IsDue c (made.Force item settings) = IsItemDue c item (made.Force item settings)
IsDue c (made.Restart item) = IsItemDue c item (made.Restart item)
IsDue c (made.Suspend root) = root_test c is_active root ≡ None
IsDue c (made.Resume root) = root_test c is_suspended root ≡ None
IsDue c (made.Terminate root) = root_test c is_going root ≡ None
IsDue c (made.Delete root) = first_of (root_test c is_over root ∷ queued_test c root ∷ []) ≡ None
IsDue c (made.Clock minutes) = (minutes ≤ 2147483647) × (clock_test c minutes ≡ None)

-- a test tells whether a transaction is due; of an Import, whether its text breaks a rule
abbrev pub IsTold : Core → Transaction → Bool → Type 0
IsTold c (made.Import text) allowed = (rule : Option Refusal) × IsRuleOf c text rule × (allowed ≡ is_none rule)
IsTold c t allowed = IsTrue allowed ↔ IsDue c t

-- ---- where a record may stand

-- it is one of those that were kept, behind the one before, and none has come that was not
abbrev pub IsKeptNumber : Core → ℕ → Type 0
IsKeptNumber c number = (number ≤ c.kept) × (c.kept_number < number) × (c.number ≡ c.kept)

-- such a record is no Delete, and a root that it starts is behind the kept ones before, and one of those that are
-- counted
abbrev pub IsKeptKind : Core → Transaction → Type 0
IsKeptKind c t = (deleted t ≡ None) × IfSome (started t) (λ root. (c.kept_root < root) × (root ≤ c.roots))

-- it is the next transaction, below the limit
abbrev pub IsNextNumber : Core → ℕ → Type 0
IsNextNumber c number = (c.kept < number) × (c.number < c.limit) × (number ≡ c.number + 1)

-- a root that it starts is the next
abbrev pub IsNextKind : Core → Transaction → Type 0
IsNextKind c t = IfSome (started t) (λ root. (root ≡ c.roots + 1) × (root < 2 ^ 64))

-- a record may stand under its number
abbrev pub IsPlace : Core → ℕ → Transaction → Type 0
IsPlace c number t = (IsKeptNumber c number × IsKeptKind c t) ⊎ (IsNextNumber c number × IsNextKind c t)

-- a record is admitted
pub record IsAdmitted (c : Core) (number : ℕ) (t : Transaction) : Type 0 where
  pub place : IsPlace c number t
  pub due : IsDue c t

-- a record that isn't admitted; an Import has no place, or its text breaks a rule
abbrev pub IsRefused : Core → ℕ → Transaction → Type 0
IsRefused c number (made.Import text) =
    (IsPlace c number (made.Import text) → ⊥) ⊎ ((rule : Refusal) × IsRuleOf c text (Some rule))
IsRefused c number t = IsAdmitted c number t → ⊥
