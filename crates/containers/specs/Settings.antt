-- Settings: what a line writes for the leaves of a new container.
use Rattle.std.specs.Prelude.{ℕ, zero, suc, ◌^◌, nat_lt, nat_le, ℤ, pos, negsuc, if◌then◌else◌, Result, Ok, Err, Option}
use Rattle.std.specs.Prelude.{Some, None, option_map, List, [], ◌∷◌, ◌++◌, slice_get}
use Rattle.containers.specs.Named.{leaf_place}
use Rattle.flow_model.specs.Containers.{put}
use Rattle.flow_model.specs.declared.commands.RawSetting.{RawSetting}
use Rattle.flow_model.specs.declared.commands.RawValue.{RawValue}
use Rattle.flow_model.specs.declared.commands.RawValue.TheVariants as written
use Rattle.flow_model.specs.declared.graphs.Container.{Container}
use Rattle.flow_model.specs.declared.graphs.Kind.{Kind}
use Rattle.flow_model.specs.declared.graphs.Kind.TheVariants.{Long, Str}
use Rattle.flow_model.specs.declared.graphs.Leaf.{Leaf}
use Rattle.flow_model.specs.declared.graphs.Leaves.{Leaves}
use Rattle.flow_model.specs.declared.graphs.Value.{Value}
use Rattle.flow_model.specs.declared.graphs.Value.TheVariants.{Whole, Text}
use Rattle.flow_model.specs.declared.transactions.Setting.{Setting}
use Rattle.flow_model.specs.declared.trees.NumberAt.{NumberAt}

-- the container with the settings applied in their order, so that the later wins
abbrev pub filled : List Setting → Container → Container
filled [] c = c
filled (s ∷ settings) c = filled settings (put (Some s.value) s.leaf c)

-- the number below zero of this size
abbrev pub below_zero : ℕ → ℤ
below_zero zero = pos 0
below_zero (suc n) = negsuc n

-- the value of a written number, where it has 64 bits: from -2^63 to 2^63 - 1
abbrev pub signed_value : Option ℕ → ℕ → Option ℤ
signed_value None size = if nat_lt size (2 ^ 63) then Some (pos size) else None
signed_value (Some minus) size = if nat_le size (2 ^ 63) then Some (below_zero size) else None

abbrev pub written_number : NumberAt → Option ℤ
written_number number = signed_value number.minus number.size

-- the place of a number's first token
abbrev pub first_of : Option ℕ → ℕ → ℕ
first_of None place = place
first_of (Some minus) place = minus

abbrev pub number_place : NumberAt → ℕ
number_place number = first_of number.minus number.place

-- the place of a value's first token
abbrev pub value_place : RawValue → ℕ
value_place (written.Number number) = number_place number
value_place (written.Text text place) = place

-- what is written is a value for a leaf of this kind
abbrev pub value_for : RawValue → Kind → Option Value
value_for (written.Number number) Long = option_map (λ n. Whole n) (written_number number)
value_for (written.Number number) Str = None
value_for (written.Text text place) Long = None
value_for (written.Text text place) Str = Some (Text text)

-- the setting of this leaf; else the place of the value, which isn't one for it
abbrev pub setting_to : RawValue → ℕ → Option Value → Result Setting ℕ
setting_to value leaf None = Err (value_place value)
setting_to value leaf (Some v) = Ok (record { leaf = leaf; value = v })

-- the setting of the leaf that is named; else the place of its name, where there is no such leaf
abbrev pub setting_kind : RawSetting → ℕ → Option Leaf → Result Setting ℕ
setting_kind s place None = Err s.leaf.place
setting_kind s place (Some leaf) = setting_to s.value place (value_for s.value leaf.kind)

abbrev pub setting_at : List Leaf → RawSetting → Option ℕ → Result Setting ℕ
setting_at leaves s None = Err s.leaf.place
setting_at leaves s (Some place) = setting_kind s place (slice_get leaves place)

abbrev pub setting_by : Leaves → RawSetting → Result Setting ℕ
setting_by of s = setting_at of.leaves s (leaf_place of.leaves s.leaf.steps)

-- settings behind others, where none is wrong
abbrev pub behind : List Setting → Result (List Setting) ℕ → Result (List Setting) ℕ
behind before (Ok settings) = Ok (before ++ settings)
behind before (Err place) = Err place

abbrev pub after : Result Setting ℕ → Result (List Setting) ℕ → Result (List Setting) ℕ
after (Ok setting) rest = behind (setting ∷ []) rest
after (Err place) rest = Err place

-- all settings that are written, or the place of the first that is wrong
abbrev pub settings_by : Leaves → List RawSetting → Result (List Setting) ℕ
settings_by of [] = Ok []
settings_by of (s ∷ written) = after (setting_by of s) (settings_by of written)

-- a return code sets the first leaf
abbrev pub code_setting : NumberAt → Option ℤ → Result Setting ℕ
code_setting number None = Err (number_place number)
code_setting number (Some n) = Ok (record { leaf = 0; value = Whole n })

-- the settings of a result: the return code first, where one is written
abbrev pub outcome_by : Leaves → Option NumberAt → List RawSetting → Result (List Setting) ℕ
outcome_by of None written = settings_by of written
outcome_by of (Some number) written = after (code_setting number (written_number number)) (settings_by of written)
