-- The canonical text of a tree: its tokens in the order of the grammar, laid out in lines.
use Rattle.std.specs.Prelude.{ℕ, false, List, [], ◌∷◌, ◌++◌}
use Rattle.std.specs.List.{flat_map}
use Rattle.flow_table.specs.declared.keyword.Keyword.{Keyword}
use Rattle.flow_table.specs.declared.keyword.Keyword.TheVariants as keyword
use Rattle.flow_model.specs.declared.trees.ElementTree.{ElementTree}
use Rattle.flow_model.specs.declared.trees.WorkTree.{WorkTree}
use Rattle.flow_model.specs.declared.trees.ActivityTree.{ActivityTree}
use Rattle.flow_model.specs.declared.trees.ElementTree.TheOpen.{ElementTree-F, WorkTree-F, ActivityTree-F}
use Rattle.flow_model.specs.declared.trees.ElementTree.TheFolds.{fold-ElementTree, fold-WorkTree}
use Rattle.flow_model.specs.declared.trees.ProcessTree.{ProcessTree}
use Rattle.flow_model.specs.declared.trees.ItemTree.{ItemTree}
use Rattle.flow_model.specs.declared.trees.ItemTree.TheVariants as item
use Rattle.flow_model.specs.declared.trees.Tree.{Tree}
use Rattle.fdl_print.specs.Pieces.{Piece, Stop, word, name, text}
use Rattle.fdl_print.specs.Elements.{closing_pieces, heading_pieces, attr_line, control_pieces, data_pieces}
use Rattle.fdl_print.specs.Elements.{structure_pieces, person_pieces}

-- what an activity does: its first word, the process that it calls, and the elements of its block
pub record Worked : Type 0 where
  pub opening : Keyword
  pub called : List Piece
  pub inside : List Piece

-- what an activity does, from the tokens of the elements inside
abbrev pub worked_by : WorkTree-F (List Piece) Worked (List Piece) → Worked
worked_by WorkTree-F.Program = record { opening = keyword.ProgramActivity; called = []; inside = [] }
worked_by (WorkTree-F.Process process) = record {
  opening = keyword.ProcessActivity;
  called =
      word keyword.Process ∷ name process.name ∷ [];
  inside = [];
}
worked_by (WorkTree-F.Block elements) = record {
  opening = keyword.Block;
  called = [];
  inside = flat_map
      (λ pieces. pieces) elements;
}

-- the first line, a line for each attribute, the elements inside, and the line of END
abbrev pub activity_by : ActivityTree-F (List Piece) Worked (List Piece) → List Piece
activity_by a =
    word a.work.opening ∷ heading_pieces a.name a.input a.output ++ a.work.called ++ Stop ∷ flat_map attr_line a.attrs
    ++ a.work.inside ++ closing_pieces a.end

-- an element, from the tokens of an activity
abbrev pub element_by : ElementTree-F (List Piece) Worked (List Piece) → List Piece
element_by (ElementTree-F.Activity activity) = activity
element_by (ElementTree-F.Control control) = control_pieces control
element_by (ElementTree-F.Line line) = data_pieces line

-- the tokens of an element
abbrev pub element_pieces : ElementTree → List Piece
element_pieces = fold-ElementTree (List Piece) Worked (List Piece) element_by worked_by activity_by

-- what an activity does
abbrev pub worked : WorkTree → Worked
worked = fold-WorkTree (List Piece) Worked (List Piece) element_by worked_by activity_by

-- the first line of an activity
abbrev pub opening_pieces : ActivityTree → List Piece
opening_pieces a = word (worked a.work).opening ∷ heading_pieces a.name a.input a.output ++ (worked a.work).called
    ++ Stop ∷ []

-- the lines of an activity
abbrev pub activity_pieces : ActivityTree → List Piece
activity_pieces a =
    word (worked a.work).opening ∷ heading_pieces a.name a.input a.output ++ (worked a.work).called
    ++ Stop ∷ flat_map attr_line a.attrs ++ (worked a.work).inside ++ closing_pieces a.end

-- the lines of a process
abbrev pub process_pieces : ProcessTree → List Piece
process_pieces p = word keyword.Process ∷ heading_pieces p.name p.input p.output
    ++ Stop ∷ flat_map element_pieces p.elements ++ closing_pieces p.end

-- the lines of an item
unfoldable pub item_pieces : ItemTree → List Piece
item_pieces (item.Structure structure) = structure_pieces structure
item_pieces (item.Person person) = person_pieces person
item_pieces (item.Process process) = process_pieces process

-- the text of the items, one behind the other
abbrev pub canonical_text : Tree → List ℕ
canonical_text tree = text false (flat_map item_pieces tree.items)
