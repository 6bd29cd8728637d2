-- The tokens of a condition. Parentheses stand only round an OR or an AND that is the operand of NOT or of
-- AND, and round an OR that is a member of an OR.
use Rattle.std.specs.Prelude.{List, [], ◌∷◌, ◌++◌}
use Rattle.std.specs.List.{flat_map}
use Rattle.fdl_lexer.specs.declared.kinds.Mark.TheVariants as mark
use Rattle.flow_table.specs.declared.keyword.Keyword.TheVariants as keyword
use Rattle.flow_model.specs.declared.trees.Cond.{Cond}
use Rattle.flow_model.specs.declared.trees.Cond.TheOpen.{Cond-F}
use Rattle.flow_model.specs.declared.trees.Cond.TheFolds.{fold-Cond}
use Rattle.flow_model.specs.declared.trees.CondAt.{CondAt}
use Rattle.fdl_print.specs.Pieces.{Piece, word, sign}
use Rattle.fdl_print.specs.Parts.{side_pieces, operator_mark}

-- what a condition is, as far as parentheses ask
pub data Form : Type 0 where
  AnOr : Form
  AnAnd : Form
  Other : Form

-- a condition's form, and its tokens without parentheses round it
pub record Shown : Type 0 where
  pub form : Form
  pub bare : List Piece

-- tokens between parentheses
abbrev pub in_parentheses : List Piece → List Piece
in_parentheses pieces = sign mark.Open ∷ pieces ++ sign mark.Close ∷ []

-- as a member of an OR
abbrev pub in_or : Shown → List Piece
in_or shown = by_form shown.form
  where
    by_form : Form → List Piece
    by_form AnOr = in_parentheses shown.bare
    by_form AnAnd = shown.bare
    by_form Other = shown.bare

-- as a member of an AND, or the operand of NOT
abbrev pub in_and : Shown → List Piece
in_and shown = by_form shown.form
  where
    by_form : Form → List Piece
    by_form AnOr = in_parentheses shown.bare
    by_form AnAnd = in_parentheses shown.bare
    by_form Other = shown.bare

-- a later member of an OR
unfoldable pub later_or : Shown → List Piece
later_or member = word keyword.Or ∷ in_or member

-- a later member of an AND
unfoldable pub later_and : Shown → List Piece
later_and member = word keyword.And ∷ in_and member

-- members with OR between two of them
abbrev pub or_pieces : List Shown → List Piece
or_pieces [] = []
or_pieces (first ∷ later) = in_or first ++ flat_map later_or later

-- members with AND between two of them
abbrev pub and_pieces : List Shown → List Piece
and_pieces [] = []
and_pieces (first ∷ later) = in_and first ++ flat_map later_and later

-- a condition, from what its members show
abbrev pub shown_by : Cond-F Shown → Shown
shown_by (Cond-F.Or members) = record { form = AnOr; bare = or_pieces members }
shown_by (Cond-F.And members) = record { form = AnAnd; bare = and_pieces members }
shown_by (Cond-F.Not member) = record { form = Other; bare = word keyword.Not ∷ in_and member }
shown_by (Cond-F.Compare left operator right) =
    record { form = Other; bare = side_pieces left ++ sign (operator_mark operator) ∷ side_pieces right }

-- what a condition shows
abbrev pub shown : Cond → Shown
shown = fold-Cond Shown shown_by

-- a condition in the parentheses of WHEN
abbrev pub condition_pieces : CondAt → List Piece
condition_pieces cond = in_parentheses (shown cond.cond).bare
