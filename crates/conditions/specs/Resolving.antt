-- A written condition with places for its leaves.
use Rattle.std.specs.Prelude.{◌≡◌, if◌then◌else◌, Option, Some, None, Result, Ok, Err, List, [], ◌∷◌, map}
use Rattle.std.specs.Option.{option_map}
use Rattle.containers.specs.Named.{leaf_place}
use Rattle.containers.specs.Settings.{written_number}
use Rattle.flow_model.specs.declared.graphs.Expr.{Expr}
use Rattle.flow_model.specs.declared.graphs.Expr.TheVariants as expr
use Rattle.flow_model.specs.declared.graphs.Kind.TheVariants.{Long}
use Rattle.flow_model.specs.declared.graphs.Leaf.{Leaf}
use Rattle.flow_model.specs.declared.graphs.Operand.{Operand}
use Rattle.flow_model.specs.declared.graphs.Operand.TheVariants as resolved
use Rattle.flow_model.specs.declared.graphs.Operator.{Operator}
use Rattle.flow_model.specs.declared.graphs.Term.{Term}
use Rattle.flow_model.specs.declared.graphs.TextSide.{TextSide}
use Rattle.flow_model.specs.declared.graphs.TextSide.TheVariants as text
use Rattle.flow_model.specs.declared.trees.Cond.{Cond}
use Rattle.flow_model.specs.declared.trees.Cond.TheVariants as cond
use Rattle.flow_model.specs.declared.trees.OperandTree.{OperandTree}
use Rattle.flow_model.specs.declared.trees.OperandTree.TheVariants as operand
use Rattle.flow_model.specs.declared.trees.Side.{Side}
use Rattle.flow_model.specs.declared.trees.Side.TheVariants as side
use Rattle.flow_model.specs.declared.trees.TermTree.{TermTree}
use Rattle.conditions.specs.declared.resolving.TypeFault.{TypeFault}
use Rattle.conditions.specs.declared.resolving.TypeFault.TheVariants.{NoMemory}
use Rattle.conditions.specs.Faults.{first_found, is_text_operand, side_kind, unknown_term, unknown_side, unsized_side}
use Rattle.conditions.specs.Faults.{unknown_leaf, mismatch, unsized_term, unsized_number, fault_of}

-- a leaf is its place, a number its value
abbrev pub resolved_operand : List Leaf → OperandTree → Option Operand
resolved_operand leaves (operand.Leaf leaf) = option_map (λ place. resolved.Leaf place) (leaf_place leaves leaf.steps)
resolved_operand leaves (operand.Number number) = option_map (λ value. resolved.Number value) (written_number number)

abbrev pub resolved_term : List Leaf → TermTree → Option Term
resolved_term leaves term = option_map (λ made. record { minus = term.minus; operand = made })
    (resolved_operand leaves term.operand)

-- a sum, term by term
abbrev pub IsSumOf : List Leaf → Side → List Term → Type 0
IsSumOf leaves (side.Text text place) terms = ⊥
IsSumOf leaves (side.Sum written) terms = map (resolved_term leaves) written ≡ map (λ term. Some term) terms

-- a leaf alone, where it holds a text
abbrev pub text_operand : List Leaf → OperandTree → Option TextSide
text_operand leaves (operand.Leaf leaf) = if is_text_operand leaves (operand.Leaf leaf) then option_map
    (λ place. text.Leaf place) (leaf_place leaves leaf.steps) else None
text_operand leaves (operand.Number number) = None

-- a text, as it is written or as a leaf holds it
abbrev pub resolved_text : List Leaf → Side → Option TextSide
resolved_text leaves (side.Text written place) = Some (text.Text written)
resolved_text leaves (side.Sum []) = None
resolved_text leaves (side.Sum (term ∷ [])) = text_operand leaves term.operand
resolved_text leaves (side.Sum (term ∷ next ∷ terms)) = None

mutual
  -- a condition with places of these leaves, member by member
  pub data IsResolved (leaves : List Leaf) : Cond → Expr → Type 0 where
    EitherOf : {members : List Cond} {made : List Expr} → AreResolved leaves members made
        → IsResolved leaves (cond.Or members) (expr.Or made)
    BothOf : {members : List Cond} {made : List Expr} → AreResolved leaves members made
        → IsResolved leaves (cond.And members) (expr.And made)
    NotOf : {member : Cond} {made : Expr} → IsResolved leaves member made
        → IsResolved leaves (cond.Not member) (expr.Not made)
    TextsOf : {left right : Side} {operator : Operator} {first second : TextSide}
        → resolved_text leaves left ≡ Some first → resolved_text leaves right ≡ Some second
        → IsResolved leaves (cond.Compare left operator right) (expr.Texts operator first second)
    NumbersOf : {left right : Side} {operator : Operator} {first second : List Term} → side_kind leaves left ≡ Some Long
        → side_kind leaves right ≡ Some Long → IsSumOf leaves left first → IsSumOf leaves right second
        → IsResolved leaves (cond.Compare left operator right) (expr.Whole operator first second)

  -- each member, in order
  pub data AreResolved (leaves : List Leaf) : List Cond → List Expr → Type 0 where
    NoMembers : AreResolved leaves [] []
    OneMember : {member : Cond} {members : List Cond} {one : Expr} {made : List Expr} → IsResolved leaves member one
        → AreResolved leaves members made → AreResolved leaves (member ∷ members) (one ∷ made)

-- nothing stands against a condition
pub record IsClear (leaves : List Leaf) (written : Cond) : Type 0 where
  pub known : unknown_leaf leaves written ≡ None
  pub alike : mismatch leaves written ≡ None
  pub sized : unsized_number written ≡ None

-- nothing stands against any of some conditions
pub record AreClear (leaves : List Leaf) (members : List Cond) : Type 0 where
  pub known : first_found (map (unknown_leaf leaves) members) ≡ None
  pub alike : first_found (map (mismatch leaves) members) ≡ None
  pub sized : first_found (map unsized_number members) ≡ None

-- all leaves of some terms are there, and their numbers have 64 bits
pub record AreKnown (leaves : List Leaf) (terms : List TermTree) : Type 0 where
  pub known : first_found (map (unknown_term leaves) terms) ≡ None
  pub sized : first_found (map unsized_term terms) ≡ None

-- what comes of terms that are known; want of memory says nothing
abbrev pub IsSumMade : List Leaf → List TermTree → Result (List Term) TypeFault → Type 0
IsSumMade leaves written (Ok terms) = IsSumOf leaves (side.Sum written) terms
IsSumMade leaves written (Err fault) = fault ≡ NoMemory

-- a side is a sum of numbers, all of whose terms are known
pub record IsNumbers (leaves : List Leaf) (written : Side) : Type 0 where
  pub kind : side_kind leaves written ≡ Some Long
  pub known : unknown_side leaves written ≡ None
  pub sized : unsized_side written ≡ None

-- what comes of a side of numbers; want of memory says nothing
abbrev pub IsSideMade : List Leaf → Side → Result (List Term) TypeFault → Type 0
IsSideMade leaves written (Ok terms) = IsSumOf leaves written terms
IsSideMade leaves written (Err fault) = fault ≡ NoMemory

-- what comes of some conditions that nothing stands against
abbrev pub AreMade : List Leaf → List Cond → Result (List Expr) TypeFault → Type 0
AreMade leaves members (Ok made) = AreResolved leaves members made
AreMade leaves members (Err fault) = fault ≡ NoMemory

-- what comes of a condition where nothing stands against it; want of memory says nothing
abbrev pub IsMade : List Leaf → Cond → Result Expr TypeFault → Type 0
IsMade leaves cond (Ok made) = IsResolved leaves cond made
IsMade leaves cond (Err fault) = fault ≡ NoMemory

-- what comes of a condition: what stands against it, else what it means
abbrev pub IsOutcome : Option TypeFault → List Leaf → Cond → Result Expr TypeFault → Type 0
IsOutcome (Some fault) leaves cond result = result ≡ Err fault
IsOutcome None leaves cond result = IsMade leaves cond result

abbrev pub IsResolution : List Leaf → Cond → Result Expr TypeFault → Type 0
IsResolution leaves cond result = IsOutcome (fault_of leaves cond) leaves cond result
