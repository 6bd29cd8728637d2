-- Settings that fit leaves with names apart can be written: each names its leaf, and has its value.
use Rattle.std.proofs.Common.{◌≡◌, ℕ, zero, suc, ◌+◌, ◌^◌, Bool, true, false, ◌&&◌, List, [], ◌∷◌, map, Option, Some}
use Rattle.std.proofs.Common.{None, Ok, option_map, cond, refl, sym, ap, ap₂, subst, ◌∙◌, arith, FitsSigned}
use Rattle.std.specs.Prelude.{slice_get, ℤ, pos, negsuc}
use Rattle.std.specs.Int.{w64}
use Rattle.std.specs.List.{All, position_from}
use Rattle.std.specs.Option.{option_map_or}
use Rattle.std.proofs.lemmas.Bool.{lt-ltb, le-leb, eq-eqb, eqb-true}
use Rattle.std.proofs.lemmas.List.Elements.{All-head, All-tail}
use Rattle.std.proofs.lemmas.Option.{none-some}
use Rattle.std.proofs.lemmas.Slice.Eq.{bytes_eq-Decides}
use Rattle.containers.specs.Named.{names_step, names_leaf, leaf_place}
use Rattle.containers.specs.Settings.{written_number, value_for, setting_to, setting_kind, setting_at, setting_by}
use Rattle.containers.specs.Settings.{after, settings_by}
use Rattle.flow_core.specs.Admitting.{is_of, fits, all_fit}
use Rattle.flow_model.specs.declared.commands.RawSetting.{RawSetting}
use Rattle.flow_model.specs.declared.commands.RawValue.{RawValue}
use Rattle.flow_model.specs.declared.commands.RawValue.TheVariants as raw
use Rattle.flow_model.specs.declared.graphs.Kind.{Kind}
use Rattle.flow_model.specs.declared.graphs.Kind.TheVariants.{Long, Str}
use Rattle.flow_model.specs.declared.graphs.Leaf.{Leaf}
use Rattle.flow_model.specs.declared.graphs.Leaves.{Leaves}
use Rattle.flow_model.specs.declared.graphs.Step.{Step}
use Rattle.flow_model.specs.declared.graphs.Step.TheVariants.{Member, Rc, Place}
use Rattle.flow_model.specs.declared.graphs.Value.{Value}
use Rattle.flow_model.specs.declared.graphs.Value.TheVariants.{Whole, Text}
use Rattle.flow_model.specs.declared.transactions.Setting.{Setting}
use Rattle.flow_model.specs.declared.trees.NumberAt.{NumberAt}
use Rattle.flow_model.specs.declared.trees.StepTree.{StepTree}
use Rattle.flow_model.specs.declared.trees.StepTree.TheVariants as written
use Rattle.flow_txn.specs.Ranges.{ValueFits, SettingFits}
use Rattle.admission_laws.specs.ApartLeaves.{IsNamedApart, AreLeavesApart}

-- ---- truths

both_true : (a b : Bool) → (a && b) ≡ true → (a ≡ true) × (b ≡ true)
both_true true b is = (refl, is)
both_true false b is = let never : ⊥ = cc in absurd never

-- ---- the name of a leaf

-- a step as it is written
abbrev written_step : Step → StepTree
written_step (Member name) = written.Member name
written_step Rc = written.Rc
written_step (Place i) = written.Place i

abbrev written_steps : List Step → List StepTree
written_steps steps = map written_step steps

-- it is the name of that step, and of no other one
step_named : (step : Step) → names_step (written_step step) step ≡ true
step_named (Member name) = (bytes_eq-Decides name name).1 refl
step_named Rc = refl
step_named (Place i) = eq-eqb i i refl

step_only : (step named : Step) → names_step (written_step step) named ≡ true → named ≡ step
step_only (Member name) (Member named) is = ap Member ((bytes_eq-Decides named name).0 is)
step_only (Member name) Rc is = let never : ⊥ = cc in absurd never
step_only (Member name) (Place j) is = let never : ⊥ = cc in absurd never
step_only Rc (Member named) is = let never : ⊥ = cc in absurd never
step_only Rc Rc is = refl
step_only Rc (Place j) is = let never : ⊥ = cc in absurd never
step_only (Place i) (Member named) is = let never : ⊥ = cc in absurd never
step_only (Place i) Rc is = let never : ⊥ = cc in absurd never
step_only (Place i) (Place j) is = ap Place (eqb-true j i is)

leaf_named : (steps : List Step) → names_leaf (written_steps steps) steps ≡ true
leaf_named [] = refl
leaf_named (step ∷ steps) = ap₂ (λ a b. a && b) (step_named step) (leaf_named steps)

leaf_only : (steps named : List Step) → names_leaf (written_steps steps) named ≡ true → named ≡ steps
leaf_only [] [] is = refl
leaf_only [] (b ∷ bs) is = let never : ⊥ = cc in absurd never
leaf_only (a ∷ steps) [] is = let never : ⊥ = cc in absurd never
leaf_only (a ∷ steps) (b ∷ bs) is =
    let both = both_true (names_step (written_step a) b) (names_leaf (written_steps steps) bs) is in
    ap₂ (λ x xs. x ∷ xs) (step_only a b both.0) (leaf_only steps bs both.1)

-- ---- the place of a leaf

-- what stands at a place has a property that all have
pub at_place : {X : Type 0} (P : X → Type 0) (xs : List X) (i : ℕ) (x : X) → All P xs → slice_get xs i ≡ Some x → P x
at_place P [] i x all there = absurd (none-some x there)
at_place P (y ∷ ys) zero x all there = let same : y ≡ x = cc in subst P same (All-head P y ys all)
at_place P (y ∷ ys) (suc i) x all there = at_place P ys i x (All-tail P y ys all) there

-- a name is that of a leaf
abbrev names : Leaf → Leaf → Bool
names leaf x = names_leaf (written_steps leaf.name.steps) x.name.steps

-- a leaf is the first that has its name
found_past : (x : Leaf) (xs : List Leaf) (k i : ℕ) (leaf : Leaf) → All (IsNamedApart x) xs
    → slice_get xs i ≡ Some leaf → position_from (names leaf) (k + 1) xs ≡ Some (k + 1 + i)
    → (b : Bool) → names leaf x ≡ b → position_from (names leaf) k (x ∷ xs) ≡ Some (k + suc i)
found_past x xs k i leaf apart there past true is =
    absurd (at_place (IsNamedApart x) xs i leaf apart there (sym (leaf_only leaf.name.steps x.name.steps is)))
found_past x xs k i leaf apart there past false is =
    let next : k + 1 + i ≡ k + suc i = omega arith in
    ap (λ b. cond b (Some k) (position_from (names leaf) (k + 1) xs)) is ∙ past ∙ ap Some next

leaf_found : (leaves : List Leaf) (k i : ℕ) (leaf : Leaf) → AreLeavesApart leaves → slice_get leaves i ≡ Some leaf
    → position_from (names leaf) k leaves ≡ Some (k + i)
leaf_found [] k i leaf apart there = absurd (none-some leaf there)
leaf_found (x ∷ xs) k zero leaf apart there =
    let same : x ≡ leaf = cc in
    let first : k ≡ k + 0 = omega arith in
    let named : names leaf x ≡ true = ap (names leaf) same ∙ leaf_named leaf.name.steps in
    ap (λ b. cond b (Some k) (position_from (names leaf) (k + 1) xs)) named ∙ ap Some first
leaf_found (x ∷ xs) k (suc i) leaf apart there =
    found_past x xs k i leaf apart.0 there (leaf_found xs (k + 1) i leaf apart.1 there) (names leaf x) refl

place_found : (leaves : List Leaf) (i : ℕ) (leaf : Leaf) → AreLeavesApart leaves → slice_get leaves i ≡ Some leaf
    → leaf_place leaves (written_steps leaf.name.steps) ≡ Some i
place_found leaves i leaf apart there =
    leaf_found leaves 0 i leaf apart there ∙ ap Some (let e : 0 + i ≡ i = omega arith in e)

-- ---- a value

-- a number as it is written
abbrev number_of : ℤ → NumberAt
number_of (pos n) = record { minus = None; size = n; place = 0 }
number_of (negsuc n) = record { minus = Some 0; size = suc n; place = 0 }

number_written : (z : ℤ) → FitsSigned w64 z → written_number (number_of z) ≡ Some z
number_written (pos n) fine =
    let least = fine.sfits in
    ap (λ b. cond b (Some (pos n)) None) (lt-ltb n (2 ^ 63) (omega (arith, least)))
number_written (negsuc n) fine =
    let least = fine.sfits in
    ap (λ b. cond b (Some (negsuc n)) None) (le-leb (suc n) (2 ^ 63) (omega (arith, least)))

-- a value as it is written
abbrev raw_value : Value → RawValue
raw_value (Whole n) = raw.Number (number_of n)
raw_value (Text text) = raw.Text text 0

value_written : (x : Value) (kind : Kind) → ValueFits x → is_of x kind ≡ true → value_for (raw_value x) kind ≡ Some x
value_written (Whole n) Long fine is = ap (option_map (λ z. Whole z)) (number_written n fine)
value_written (Whole n) Str fine is = let never : ⊥ = cc in absurd never
value_written (Text text) Long fine is = let never : ⊥ = cc in absurd never
value_written (Text text) Str fine is = refl

-- ---- a setting

-- a setting as it is written, for the leaf that it sets
abbrev raw_setting : Leaf → Value → RawSetting
raw_setting leaf x = record {
  leaf = record { steps = written_steps leaf.name.steps; place = 0 };
  value = raw_value x;
}

module _ (of : Leaves) (apart : AreLeavesApart of.leaves) where
  -- what is written so is the setting
  setting_found : (i : ℕ) (leaf : Leaf) (x : Value) → slice_get of.leaves i ≡ Some leaf → ValueFits x
      → is_of x leaf.kind ≡ true → setting_by of (raw_setting leaf x) ≡ Ok (record { leaf = i; value = x })
  setting_found i leaf x there fine is =
      ap (setting_at of.leaves (raw_setting leaf x)) (place_found of.leaves i leaf apart there)
      ∙ ap (setting_kind (raw_setting leaf x) i) there
      ∙ ap (setting_to (raw_value x) i) (value_written x leaf.kind fine is)

  -- a setting that fits can be written
  setting_written : (s : Setting) → SettingFits s → (o : Option Leaf) → slice_get of.leaves s.leaf ≡ o
      → option_map_or (λ leaf. is_of s.value leaf.kind) o false ≡ true
      → (r : RawSetting) × (setting_by of r ≡ Ok s)
  setting_written s fine None there is = let never : ⊥ = cc in absurd never
  setting_written s fine (Some leaf) there is =
      (raw_setting leaf s.value, setting_found s.leaf leaf s.value there fine.1 is)

  -- and so can settings that fit
  pub settings_written : (settings : List Setting) → All SettingFits settings → all_fit of.leaves settings ≡ true
      → (written : List RawSetting) × (settings_by of written ≡ Ok settings)
  settings_written [] fine fit = ([], refl)
  settings_written (s ∷ settings) fine fit =
      let both = both_true (fits of.leaves s) (all_fit of.leaves settings) fit in
      let first = setting_written s (All-head SettingFits s settings fine) (slice_get of.leaves s.leaf) refl both.0 in
      let rest = settings_written settings (All-tail SettingFits s settings fine) both.1 in
      (first.0 ∷ rest.0, ap₂ after first.1 rest.1)
