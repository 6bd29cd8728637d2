-- The tokens of the parts that have no parts of their own kind: numbers, leaves, sums, headings, lines.
use Rattle.std.specs.Prelude.{if◌then◌else◌, is_some, List, [], ◌∷◌, ◌++◌, codes}
use Rattle.std.specs.List.{flat_map}
use Rattle.fdl_lexer.specs.declared.kinds.Mark.{Mark}
use Rattle.fdl_lexer.specs.declared.kinds.Mark.TheVariants as mark
use Rattle.flow_model.specs.declared.graphs.Operator.{Operator}
use Rattle.flow_model.specs.declared.graphs.Operator.TheVariants as operator
use Rattle.flow_model.specs.declared.trees.NumberAt.{NumberAt}
use Rattle.flow_model.specs.declared.trees.StepTree.{StepTree}
use Rattle.flow_model.specs.declared.trees.StepTree.TheVariants as step
use Rattle.flow_model.specs.declared.trees.LeafAt.{LeafAt}
use Rattle.flow_model.specs.declared.trees.OperandTree.{OperandTree}
use Rattle.flow_model.specs.declared.trees.OperandTree.TheVariants as operand
use Rattle.flow_model.specs.declared.trees.TermTree.{TermTree}
use Rattle.flow_model.specs.declared.trees.Side.{Side}
use Rattle.flow_model.specs.declared.trees.Side.TheVariants as side
use Rattle.fdl_print.specs.Pieces.{Piece, Token, sign, name, quoted, digits}

-- a number behind its `-`, if it has one
abbrev pub number_pieces : NumberAt → List Piece
number_pieces n = if is_some n.minus then sign mark.Minus ∷ digits n.size ∷ [] else digits n.size ∷ []

-- ---- leaves

-- the first step: a member's name, the return code, or a place in brackets
abbrev pub first_step : StepTree → List Piece
first_step (step.Member member) = name member ∷ []
first_step step.Rc = Token (codes "'_RC'") ∷ []
first_step (step.Place place) = sign mark.OpenBracket ∷ digits place ∷ sign mark.CloseBracket ∷ []

-- a later step: a member has a dot before it
abbrev pub later_step : StepTree → List Piece
later_step (step.Member member) = sign mark.Dot ∷ name member ∷ []
later_step step.Rc = Token (codes "'_RC'") ∷ []
later_step (step.Place place) = sign mark.OpenBracket ∷ digits place ∷ sign mark.CloseBracket ∷ []

-- the steps of a leaf, one behind the other
abbrev pub steps_pieces : List StepTree → List Piece
steps_pieces [] = []
steps_pieces (first ∷ later) = first_step first ++ flat_map later_step later

-- a leaf, step by step
abbrev pub leaf_pieces : LeafAt → List Piece
leaf_pieces leaf = steps_pieces leaf.steps

-- ---- comparisons

-- the mark of a comparison
abbrev pub operator_mark : Operator → Mark
operator_mark operator.Eq = mark.Equal
operator_mark operator.Ne = mark.NotEqual
operator_mark operator.Lt = mark.Less
operator_mark operator.Le = mark.AtMost
operator_mark operator.Gt = mark.Greater
operator_mark operator.Ge = mark.AtLeast

-- a leaf, or a number
abbrev pub operand_pieces : OperandTree → List Piece
operand_pieces (operand.Leaf leaf) = leaf_pieces leaf
operand_pieces (operand.Number number) = number_pieces number

-- a later operand of a sum, behind its mark
unfoldable pub later_term : TermTree → List Piece
later_term term = sign (if term.minus then mark.Minus else mark.Plus) ∷ operand_pieces term.operand

-- the operands of a sum, each later one behind its mark
abbrev pub sum_pieces : List TermTree → List Piece
sum_pieces [] = []
sum_pieces (first ∷ later) = operand_pieces first.operand ++ flat_map later_term later

-- a side of a comparison: a text, or the operands of a sum
abbrev pub side_pieces : Side → List Piece
side_pieces (side.Text bytes place) = quoted bytes ∷ []
side_pieces (side.Sum terms) = sum_pieces terms
