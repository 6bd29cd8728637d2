-- The value of a condition on a container: sums are exact whole numbers, texts are ordered by bytes.
use Rattle.std.specs.Prelude.{ℕ, ℤ, pos, ◌+ℤ◌, ◌-ℤ◌, Bool, true, false, not, ◌||◌, ◌&&◌, if◌then◌else◌, Option, Some}
use Rattle.std.specs.Prelude.{None, List, [], ◌∷◌, slice_get}
use Rattle.std.specs.Ordering.{is_eq, is_ne, is_lt, is_le, is_gt, is_ge, int_cmp, nat_cmp}
use Rattle.std.specs.Cmp.Lexicographic.{slice_cmp}
use Rattle.std.specs.declared.cmp.Ordering.{Ordering}
use Rattle.flow_model.specs.declared.graphs.Container.{Container}
use Rattle.flow_model.specs.declared.graphs.Value.{Value}
use Rattle.flow_model.specs.declared.graphs.Value.TheVariants.{Whole as WholeValue, Text as TextValue}
use Rattle.flow_model.specs.declared.graphs.Operator.{Operator}
use Rattle.flow_model.specs.declared.graphs.Operator.TheVariants.{Eq, Ne, Lt, Le, Gt, Ge}
use Rattle.flow_model.specs.declared.graphs.Operand.{Operand}
use Rattle.flow_model.specs.declared.graphs.Operand.TheVariants.{Number, Leaf as LeafOperand}
use Rattle.flow_model.specs.declared.graphs.Term.{Term}
use Rattle.flow_model.specs.declared.graphs.TextSide.{TextSide}
use Rattle.flow_model.specs.declared.graphs.TextSide.TheVariants.{Leaf as LeafSide, Text as TextSide'}
use Rattle.flow_model.specs.declared.graphs.Expr.{Expr, Or', And', Not', Whole, Texts, Row_of-Expr, end_of-Expr}
use Rattle.flow_model.specs.declared.graphs.Expr.{more_of-Expr}

-- what a comparison asks of the order of its sides
abbrev pub satisfies : Operator → Ordering → Bool
satisfies Eq o = is_eq o
satisfies Ne o = is_ne o
satisfies Lt o = is_lt o
satisfies Le o = is_le o
satisfies Gt o = is_gt o
satisfies Ge o = is_ge o

-- the number of a leaf; a text or a missing leaf counts as 0
abbrev pub whole_of : Option Value → ℤ
whole_of None = pos 0
whole_of (Some (WholeValue n)) = n
whole_of (Some (TextValue t)) = pos 0

-- the text of a leaf; a number or a missing leaf counts as the empty text
abbrev pub text_of : Option Value → List ℕ
text_of None = []
text_of (Some (WholeValue n)) = []
text_of (Some (TextValue t)) = t

abbrev pub operand_value : Operand → Container → ℤ
operand_value (Number n) c = n
operand_value (LeafOperand place) c = whole_of (slice_get c.values place)

-- a sum, from the left
abbrev pub sum_from : ℤ → List Term → Container → ℤ
sum_from so_far [] c = so_far
sum_from so_far (t ∷ ts) c =
    sum_from (if t.minus then so_far -ℤ operand_value t.operand c else so_far +ℤ operand_value t.operand c) ts c

abbrev pub sum_of : List Term → Container → ℤ
sum_of terms c = sum_from (pos 0) terms c

abbrev pub side_text : TextSide → Container → List ℕ
side_text (LeafSide place) c = text_of (slice_get c.values place)
side_text (TextSide' text) c = text

abbrev mutual
  pub truth : Expr → Container → Bool
  truth (Or' shape members) c = some_truth members c
  truth (And' shape members) c = each_truth members c
  truth (Not' shape (more_of-Expr e end_of-Expr)) c = not (truth e c)
  truth (Whole operator left right) c = satisfies operator (int_cmp (sum_of left c) (sum_of right c))
  truth (Texts operator left right) c = satisfies operator (slice_cmp nat_cmp (side_text left c) (side_text right c))

  pub some_truth : {m : _} → Row_of-Expr m → Container → Bool
  some_truth end_of-Expr c = false
  some_truth (more_of-Expr e members) c = truth e c || some_truth members c

  pub each_truth : {m : _} → Row_of-Expr m → Container → Bool
  each_truth end_of-Expr c = true
  each_truth (more_of-Expr e members) c = truth e c && each_truth members c

-- an absent condition is true
abbrev pub holds : Option Expr → Container → Bool
holds None c = true
holds (Some e) c = truth e c
