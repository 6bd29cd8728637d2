-- What a block shows of its elements.
use Rattle.std.proofs.Common.{◌≡◌, List, [], ◌∷◌, sym, ap, ◌∙◌}
use Rattle.std.specs.List.{flat_map}
use Rattle.flow_model.specs.declared.trees.ElementTree.{ElementTree, Activity, Control, Line}
use Rattle.flow_model.specs.declared.trees.WorkTree.{WorkTree, Program, Process, Block}
use Rattle.flow_model.specs.declared.trees.WorkTree.TheVariants.{rolls-Program, rolls-Process, rolls-Block}
use Rattle.flow_model.specs.declared.trees.ElementTree.TheOpen.{ElementTree-F, WorkTree-F}
use Rattle.flow_model.specs.declared.trees.ElementTree.TheFolds.{fold-roll-ElementTree, fold-roll-WorkTree, fold_out-ActivityTree}
use Rattle.flow_table.specs.declared.keyword.Keyword.TheVariants as keyword
use Rattle.flow_model.specs.declared.trees.ElementTree.TheVariants.{rolls-Activity, rolls-Control, rolls-Line}
use Rattle.flow_model.specs.declared.trees.ActivityTree.{ActivityTree}
use Rattle.flow_model.specs.declared.trees.ControlTree.{ControlTree}
use Rattle.flow_model.specs.declared.trees.DataTree.{DataTree}
use Rattle.fdl_print.specs.Elements.{control_pieces, data_pieces}
use Rattle.fdl_print.specs.Pieces.{Piece, word, name}
use Rattle.flow_model.specs.declared.trees.NameAt.{NameAt}
use Rattle.fdl_print.specs.Canonical.{Worked, worked, worked_by, element_by, activity_by, element_pieces, activity_pieces}
use Rattle.fdl_print.proofs.Laying.{shown_first}

pub inside_block : (elements : List ElementTree) → (worked (Block elements)).inside ≡ flat_map element_pieces elements
inside_block elements =
    ap (λ (w : WorkTree). (worked w).inside) (sym (rolls-Block elements))
    ∙ ap (λ (w : Worked). w.inside) (fold-roll-WorkTree (List Piece) Worked (List Piece) element_by worked_by activity_by (WorkTree-F.Block elements))
    ∙ shown_first (λ ps. ps) element_pieces elements

-- what each kind of activity does
pub worked_program : worked Program ≡ record { opening = keyword.ProgramActivity; called = []; inside = [] }
worked_program = ap (λ (w : WorkTree). worked w) (sym rolls-Program) ∙ fold-roll-WorkTree (List Piece) Worked (List Piece) element_by worked_by activity_by WorkTree-F.Program

pub worked_process : (process : NameAt) → worked (Process process) ≡ record { opening = keyword.ProcessActivity; called = word keyword.Process ∷ name process.name ∷ []; inside = [] }
worked_process process = ap (λ (w : WorkTree). worked w) (sym (rolls-Process process)) ∙ fold-roll-WorkTree (List Piece) Worked (List Piece) element_by worked_by activity_by (WorkTree-F.Process process)

pub worked_block : (elements : List ElementTree) → worked (Block elements) ≡ record { opening = keyword.Block; called = []; inside = flat_map element_pieces elements }
worked_block elements =
    ap (λ (w : WorkTree). worked w) (sym (rolls-Block elements))
    ∙ fold-roll-WorkTree (List Piece) Worked (List Piece) element_by worked_by activity_by (WorkTree-F.Block elements)
    ∙ ap block_of (shown_first (λ ps. ps) element_pieces elements)
  where
    block_of : List Piece → Worked
    block_of ps = record { opening = keyword.Block; called = []; inside = ps }

-- the lines of an element
pub element_activity : (a : ActivityTree) → element_pieces (Activity a) ≡ activity_pieces a
element_activity a = ap (λ (e : ElementTree). element_pieces e) (sym (rolls-Activity a)) ∙ fold-roll-ElementTree (List Piece) Worked (List Piece) element_by worked_by activity_by (ElementTree-F.Activity a) ∙ fold_out-ActivityTree (List Piece) Worked (List Piece) element_by worked_by activity_by a

pub element_control : (c : ControlTree) → element_pieces (Control c) ≡ control_pieces c
element_control c = ap (λ (e : ElementTree). element_pieces e) (sym (rolls-Control c)) ∙ fold-roll-ElementTree (List Piece) Worked (List Piece) element_by worked_by activity_by (ElementTree-F.Control c)

pub element_line : (d : DataTree) → element_pieces (Line d) ≡ data_pieces d
element_line d = ap (λ (e : ElementTree). element_pieces e) (sym (rolls-Line d)) ∙ fold-roll-ElementTree (List Piece) Worked (List Piece) element_by worked_by activity_by (ElementTree-F.Line d)
