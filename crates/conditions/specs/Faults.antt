-- Why a written condition can't be resolved: the first place that stands against it, in the order of its text.
use Rattle.std.specs.Prelude.{ℕ, Bool, true, false, if◌then◌else◌, ◌==◌, Option, Some, None, List, [], ◌∷◌, length, map}
use Rattle.std.specs.Prelude.{slice_get}
use Rattle.std.specs.List.{list_any}
use Rattle.std.specs.Option.{option_or, option_map}
use Rattle.containers.specs.Named.{leaf_place}
use Rattle.containers.specs.Settings.{written_number, number_place}
use Rattle.flow_model.specs.declared.graphs.Kind.{Kind}
use Rattle.flow_model.specs.declared.graphs.Kind.TheVariants.{Long, Str}
use Rattle.flow_model.specs.declared.graphs.Leaf.{Leaf}
use Rattle.flow_model.specs.declared.trees.Cond.{Cond}
use Rattle.flow_model.specs.declared.trees.Cond.TheOpen.{Cond-F}
use Rattle.flow_model.specs.declared.trees.Cond.TheFolds.{fold-Cond}
use Rattle.flow_model.specs.declared.trees.OperandTree.{OperandTree}
use Rattle.flow_model.specs.declared.trees.OperandTree.TheVariants as operand
use Rattle.flow_model.specs.declared.trees.Side.{Side}
use Rattle.flow_model.specs.declared.trees.Side.TheVariants as side
use Rattle.flow_model.specs.declared.trees.TermTree.{TermTree}
use Rattle.conditions.specs.declared.resolving.TypeFault.{TypeFault}
use Rattle.conditions.specs.declared.resolving.TypeFault.TheVariants.{UnknownMember, Mismatch, Number}

-- the first place of a row of findings
abbrev pub first_found : List (Option ℕ) → Option ℕ
first_found [] = None
first_found (found ∷ later) = option_or found (first_found later)

-- the place of something that has no value
abbrev pub place_without : {A : Type 0} → Option A → ℕ → Option ℕ
place_without (Some value) place = None
place_without None place = Some place

-- ---- leaves that aren't there

-- the place of an operand that is no leaf of these
abbrev pub unknown_operand : List Leaf → OperandTree → Option ℕ
unknown_operand leaves (operand.Leaf leaf) = place_without (leaf_place leaves leaf.steps) leaf.place
unknown_operand leaves (operand.Number number) = None

abbrev pub unknown_term : List Leaf → TermTree → Option ℕ
unknown_term leaves term = unknown_operand leaves term.operand

-- the first leaf of a side that isn't one of these
abbrev pub unknown_side : List Leaf → Side → Option ℕ
unknown_side leaves (side.Text text place) = None
unknown_side leaves (side.Sum terms) = first_found (map (unknown_term leaves) terms)

abbrev pub unknown_by : List Leaf → Cond-F (Option ℕ) → Option ℕ
unknown_by leaves (Cond-F.Or members) = first_found members
unknown_by leaves (Cond-F.And members) = first_found members
unknown_by leaves (Cond-F.Not member) = member
unknown_by leaves (Cond-F.Compare left operator right) = option_or (unknown_side leaves left)
    (unknown_side leaves right)

-- the place of the first leaf of a condition that isn't one of these
abbrev pub unknown_leaf : List Leaf → Cond → Option ℕ
unknown_leaf leaves = fold-Cond (Option ℕ) (unknown_by leaves)

-- ---- comparisons whose sides don't have one kind

abbrev pub kind_at : List Leaf → Option ℕ → Option Kind
kind_at leaves None = None
kind_at leaves (Some place) = option_map (λ leaf. leaf.kind) (slice_get leaves place)

abbrev pub is_text_kind : Option Kind → Bool
is_text_kind None = false
is_text_kind (Some Long) = false
is_text_kind (Some Str) = true

-- a term is a leaf that holds a text
abbrev pub is_text_operand : List Leaf → OperandTree → Bool
is_text_operand leaves (operand.Leaf leaf) = is_text_kind (kind_at leaves (leaf_place leaves leaf.steps))
is_text_operand leaves (operand.Number number) = false

abbrev pub is_text_term : List Leaf → TermTree → Bool
is_text_term leaves term = is_text_operand leaves term.operand

-- the kind of a sum; none where a text stands beside another term
abbrev pub sum_kind : List Leaf → List TermTree → Option Kind
sum_kind leaves terms = if list_any (is_text_term leaves) terms then
    (if length terms == 1 then Some Str else None) else Some Long

-- the kind of a side
abbrev pub side_kind : List Leaf → Side → Option Kind
side_kind leaves (side.Text text place) = Some Str
side_kind leaves (side.Sum terms) = sum_kind leaves terms

-- both sides have a kind, and it is the same
abbrev pub same_kind : Option Kind → Option Kind → Bool
same_kind None right = false
same_kind (Some Long) None = false
same_kind (Some Long) (Some Long) = true
same_kind (Some Long) (Some Str) = false
same_kind (Some Str) None = false
same_kind (Some Str) (Some Long) = false
same_kind (Some Str) (Some Str) = true

-- the place of a term's first token
abbrev pub operand_place : OperandTree → ℕ
operand_place (operand.Leaf leaf) = leaf.place
operand_place (operand.Number number) = number_place number

-- the place of a side's first token
abbrev pub side_place : Side → ℕ
side_place (side.Text text place) = place
side_place (side.Sum []) = 0
side_place (side.Sum (term ∷ terms)) = operand_place term.operand

abbrev pub mismatch_by : List Leaf → Cond-F (Option ℕ) → Option ℕ
mismatch_by leaves (Cond-F.Or members) = first_found members
mismatch_by leaves (Cond-F.And members) = first_found members
mismatch_by leaves (Cond-F.Not member) = member
mismatch_by leaves (Cond-F.Compare left operator right) = if same_kind (side_kind leaves left)
    (side_kind leaves right) then None else Some (side_place left)

-- the place of the first comparison whose sides don't have one kind
abbrev pub mismatch : List Leaf → Cond → Option ℕ
mismatch leaves = fold-Cond (Option ℕ) (mismatch_by leaves)

-- ---- numbers without 64 bits

abbrev pub unsized_operand : OperandTree → Option ℕ
unsized_operand (operand.Leaf leaf) = None
unsized_operand (operand.Number number) = place_without (written_number number) number.place

abbrev pub unsized_term : TermTree → Option ℕ
unsized_term term = unsized_operand term.operand

-- the first number of a side that has no 64 bits
abbrev pub unsized_side : Side → Option ℕ
unsized_side (side.Text text place) = None
unsized_side (side.Sum terms) = first_found (map unsized_term terms)

abbrev pub unsized_by : Cond-F (Option ℕ) → Option ℕ
unsized_by (Cond-F.Or members) = first_found members
unsized_by (Cond-F.And members) = first_found members
unsized_by (Cond-F.Not member) = member
unsized_by (Cond-F.Compare left operator right) = option_or (unsized_side left) (unsized_side right)

-- the place of the first number of a condition that has no 64 bits
abbrev pub unsized_number : Cond → Option ℕ
unsized_number = fold-Cond (Option ℕ) unsized_by

-- ---- all together

-- a leaf that isn't there comes before a mismatch, and that before a number
abbrev pub fault_among : Option ℕ → Option ℕ → Option ℕ → Option TypeFault
fault_among (Some place) mismatched unsized = Some (UnknownMember place)
fault_among None (Some place) unsized = Some (Mismatch place)
fault_among None None (Some place) = Some (Number place)
fault_among None None None = None

-- what stands against a condition
abbrev pub fault_of : List Leaf → Cond → Option TypeFault
fault_of leaves cond = fault_among (unknown_leaf leaves cond) (mismatch leaves cond) (unsized_number cond)
