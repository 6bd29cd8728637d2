-- Settings that are written for leaves fit them.
use Rattle.std.proofs.Common.{◌≡◌, ℕ, Bool, true, false, ◌&&◌, List, [], ◌∷◌, Option, Some, None, Result, Ok, Err}
use Rattle.std.proofs.Common.{refl, sym, ap, ap₂, ◌∙◌, option_map}
use Rattle.std.specs.Prelude.{slice_get, ℤ}
use Rattle.std.specs.Option.{option_map_or}
use Rattle.std.proofs.lemmas.Option.{none-some}
use Rattle.containers.specs.Named.{leaf_place}
use Rattle.containers.specs.Settings.{value_for, setting_to, setting_kind, setting_at, setting_by, after, settings_by, written_number}
use Rattle.containers.specs.Settings.{code_setting, outcome_by}
use Rattle.flow_core.specs.Admitting.{is_of, fits, all_fit}
use Rattle.flow_model.specs.declared.commands.RawSetting.{RawSetting}
use Rattle.flow_model.specs.declared.commands.RawValue.{RawValue}
use Rattle.flow_model.specs.declared.commands.RawValue.TheVariants as written
use Rattle.flow_model.specs.declared.graphs.Kind.{Kind}
use Rattle.flow_model.specs.declared.graphs.Kind.TheVariants.{Long, Str}
use Rattle.flow_model.specs.declared.graphs.Leaf.{Leaf}
use Rattle.flow_model.specs.declared.graphs.Leaves.{Leaves}
use Rattle.flow_model.specs.declared.graphs.Value.{Value}
use Rattle.flow_model.specs.declared.graphs.Value.TheVariants.{Whole, Text}
use Rattle.flow_model.specs.declared.transactions.Setting.{Setting}
use Rattle.flow_model.specs.declared.trees.NumberAt.{NumberAt}

-- ---- what is given

pub some_is : {X : Type 0} (x y : X) → Some x ≡ Some y → x ≡ y
some_is x y is = cc

pub ok_is : {X E : Type 0} (x y : X) → ◌≡◌ {A = Result X E} (Ok x) (Ok y) → x ≡ y
ok_is x y is = cc

pub err_never : {X E : Type 0} (e : E) (x : X) → ◌≡◌ {A = Result X E} (Err e) (Ok x) → ⊥
err_never e x is = cc

-- ---- a value

-- a value that is written for a kind is of that kind
value_fits : (w : RawValue) (kind : Kind) (x : Value) → value_for w kind ≡ Some x → is_of x kind ≡ true
value_fits (written.Number number) Long x is = go (written_number number) is
  where
    go : (o : Option ℤ) → option_map (λ n. Whole n) o ≡ Some x → is_of x Long ≡ true
    go None none = absurd (none-some x none)
    go (Some n) made = ap (λ y. is_of y Long) (sym (some_is (Whole n) x made))
value_fits (written.Number number) Str x is = absurd (none-some x is)
value_fits (written.Text text place) Long x is = absurd (none-some x is)
value_fits (written.Text text place) Str x is = ap (λ y. is_of y Str) (sym (some_is (Text text) x is))

-- ---- a setting

-- a leaf is there, and the setting is of its kind
fits_there : (leaves : List Leaf) (place : ℕ) (leaf : Leaf) (x : Value) → slice_get leaves place ≡ Some leaf
    → is_of x leaf.kind ≡ true → fits leaves (record { leaf = place; value = x }) ≡ true
fits_there leaves place leaf x there is = ap (λ o. option_map_or (λ l. is_of x l.kind) o false) there ∙ is

module _ (leaves : List Leaf) (s : RawSetting) (x : Setting) where
  valued : (place : ℕ) (leaf : Leaf) → slice_get leaves place ≡ Some leaf → (o : Option Value)
      → value_for s.value leaf.kind ≡ o → setting_to s.value place o ≡ Ok x → fits leaves x ≡ true
  valued place leaf there None value set = absurd (err_never _ x set)
  valued place leaf there (Some v) value set =
      ap (fits leaves) (sym (ok_is (record { leaf = place; value = v }) x set))
      ∙ fits_there leaves place leaf v there (value_fits s.value leaf.kind v value)

  leafed : (place : ℕ) (o : Option Leaf) → slice_get leaves place ≡ o → setting_kind s place o ≡ Ok x
      → fits leaves x ≡ true
  leafed place None there set = absurd (err_never _ x set)
  leafed place (Some leaf) there set = valued place leaf there (value_for s.value leaf.kind) refl set

  placed : (o : Option ℕ) → setting_at leaves s o ≡ Ok x → fits leaves x ≡ true
  placed None set = absurd (err_never _ x set)
  placed (Some place) set = leafed place (slice_get leaves place) refl set

-- ---- all settings

-- the first of settings that are given, and the others
pub after_parts : (first : Result Setting ℕ) (rest : Result (List Setting) ℕ) (settings : List Setting)
    → after first rest ≡ Ok settings
    → (x : Setting) × (xs : List Setting) × (first ≡ Ok x) × (rest ≡ Ok xs) × (settings ≡ x ∷ xs)
after_parts (Ok x) (Ok xs) settings is = (x, xs, refl, refl, sym (ok_is (x ∷ xs) settings is))
after_parts (Ok x) (Err place) settings is = absurd (err_never place settings is)
after_parts (Err place) rest settings is = absurd (err_never place settings is)

both_fit : (a b : Bool) → a ≡ true → b ≡ true → (a && b) ≡ true
both_fit a b is also = ap₂ (λ x y. x && y) is also

pub settings_fit : (of : Leaves) (written : List RawSetting) (settings : List Setting)
    → settings_by of written ≡ Ok settings → all_fit of.leaves settings ≡ true
settings_fit of [] settings is = ap (all_fit of.leaves) (sym (ok_is [] settings is))
settings_fit of (s ∷ written) settings is =
    let parts = after_parts (setting_by of s) (settings_by of written) settings is in
    ap (all_fit of.leaves) parts.4
    ∙ both_fit (fits of.leaves parts.0) (all_fit of.leaves parts.1)
    (placed of.leaves s parts.0 (leaf_place of.leaves s.leaf.steps) parts.2)
    (settings_fit of written parts.1 parts.3)

-- those of a result, where the first leaf is a number
pub outcome_fits : (of : Leaves) (rc : Option NumberAt) (written : List RawSetting) (settings : List Setting) (leaf : Leaf)
    → slice_get of.leaves 0 ≡ Some leaf → leaf.kind ≡ Long → outcome_by of rc written ≡ Ok settings
    → all_fit of.leaves settings ≡ true
outcome_fits of None written settings leaf first long is = settings_fit of written settings is
outcome_fits of (Some number) written settings leaf first long is =
    let parts = after_parts (code_setting number (written_number number)) (settings_by of written) settings is in
    ap (all_fit of.leaves) parts.4
    ∙ both_fit (fits of.leaves parts.0) (all_fit of.leaves parts.1)
    (coded (written_number number) parts.0 parts.2)
    (settings_fit of written parts.1 parts.3)
  where
    coded : (o : Option ℤ) (x : Setting) → code_setting number o ≡ Ok x → fits of.leaves x ≡ true
    coded None x set = absurd (err_never _ x set)
    coded (Some n) x set =
        ap (fits of.leaves) (sym (ok_is (record { leaf = 0; value = Whole n }) x set))
        ∙ fits_there of.leaves 0 leaf (Whole n) first (ap (is_of (Whole n)) long)
